use Rattle.std.proofs.Common.{◌≡◌, ◌<◌, ℕ, length, map, None, arith, refl, sym, ◌∙◌, ap, subst}
use Rattle.std.specs.Prelude.{slice_index_or, is_some}
use Rattle.channel_program.specs.declared.cursor.NextCall.TheVariants.{Ended}
use Rattle.job_text.specs.Jobs.{ScriptData}
use Rattle.job_text.specs.Views.{item_of}
use Rattle.script_places.specs.declared.place.Place.{Place}
use Rattle.script_places.specs.Places.{StandsAt}
use Rattle.script_places.specs.Scripts.{calls_of}
use Rattle.serial_driver.specs.Drives.{DriveValue}
use Rattle.volume_copy.specs.Beside.{asked_copy}
use Rattle.serial_driver.proofs.HostTurns.{as_long, can_call_there}
use Rattle.serial_driver.proofs.drive.Drive.can_call.Goals as goal

pub index-place-requires : goal.index-place-requires
index-place-requires g c =
    let low : c.args.number < length c.self.inside.scripts.now = omega (arith, c.requires, ap (λ (d : DriveValue g.row.S.Denot g.row.C.Denot). length d.scripts) c.self.view_is) in
    subst (λ (n : ℕ). c.args.number < n) (sym c.self.inside.places.ok.0)
    (as_long g.S.Site c.self.inside.session.core c.self.inside.session.core c.self.inside.scripts.now c.self.inside.places.items c.look.ensures.kept c.self.invariant c.args.number c.index-self-number.result low (g.C.Choose.may c.self.inside.session.core.chooser) (is_some (asked_copy c.self.inside.session.copier)) c.self.inside.places.items refl (record { item = 0; next = Ended; cursor = record { word = 0; executed = 0 }; call = None }))

pub returns : goal.returns
returns g c =
    let low : c.args.number < length c.self.inside.scripts.now = omega (arith, c.requires, ap (λ (d : DriveValue g.row.S.Denot g.row.C.Denot). length d.scripts) c.self.view_is) in
    let at : Place = c.index-place.result.now in
    let items : map item_of c.as_slice.result.now ≡ (slice_index_or c.self.inside.scripts.now c.args.number c.index-self-number.result).items = ap (map item_of) c.as_slice.ensures ∙ ap (λ (s : ScriptData). s.items) c.script.view_is in
    subst (λ (d : DriveValue g.row.S.Denot g.row.C.Denot). (unknown : ScriptData) → c.has_call.result ≡ is_some (calls_of d.scripts d.core.history (slice_index_or d.scripts c.args.number unknown).host)) c.self.view_is
    (can_call_there g.S.Site c.self.inside.session.core c.self.inside.session.core c.self.inside.scripts.now c.self.inside.places.items c.look.ensures.kept c.self.invariant c.args.number c.index-self-number.result low (g.C.Choose.may c.self.inside.session.core.chooser) (is_some (asked_copy c.self.inside.session.copier)) c.self.inside.places.items refl at c.has_call.result (map item_of c.as_slice.result.now) items
    (λ left stands. c.has_call.ensures left (subst (λ (p : Place). StandsAt (map item_of c.as_slice.result.now) left p) (sym c.index-place.ensures) stands)))
