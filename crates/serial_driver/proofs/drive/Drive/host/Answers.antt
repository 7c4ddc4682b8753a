use Rattle.std.proofs.Common.{◌<◌, ℕ, length, None, arith, refl, sym, ◌∙◌, ap, subst}
use Rattle.script_places.specs.declared.place.Place.{Place}
use Rattle.script_places.specs.Places.{StandsAt}
use Rattle.script_places.specs.Scripts.{Left, not_begun, left_after, exchanges_of, calls_of}
use Rattle.serial_driver.specs.Drives.{DriveValue, HostTakes, LeavesDrive, terms_of}
use Rattle.job_text.specs.Jobs.{ScriptData}
use Rattle.std.specs.Prelude.{slice_index_or, is_some}
use Rattle.core_state.specs.CoreValue.{seen_core}
use Rattle.volume_copy.specs.Beside.{asked_copy}
use Rattle.serial_driver.proofs.HostTurns.{stands_there, as_long, host_session, host_takes, host_whole, unstopped_same}
use Rattle.channel_program.specs.declared.cursor.NextCall.TheVariants.{Ended}
use Rattle.serial_driver.proofs.drive.Drive.host.Goals as goal

pub index_mut-place-requires : goal.index_mut-place-requires
index_mut-place-requires g c =
    let low : c.args.number < length c.self.inside.scripts.now = omega (arith, c.requires, ap (λ (d : DriveValue g.row.S.Denot g.row.C.Denot). length d.scripts) c.self.view_is) in
    subst (λ (n : ℕ). c.args.number < n) (sym c.self.inside.places.ok.0)
    (as_long g.S.Site c.self.inside.session.core c.self.inside.session.core c.self.inside.scripts.now c.self.inside.places.items c.look.ensures.kept c.self.invariant c.args.number c.index-self-number.result low (g.C.Choose.may c.self.inside.session.core.chooser) (is_some (asked_copy c.self.inside.session.copier)) c.self.inside.places.items refl (record { item = 0; next = Ended; cursor = record { word = 0; executed = 0 }; call = None }))

pub call_host-requires : goal.call_host-requires
call_host-requires g c =
    let low : c.args.number < length c.self.inside.scripts.now = omega (arith, c.requires, ap (λ (d : DriveValue g.row.S.Denot g.row.C.Denot). length d.scripts) c.self.view_is) in
    let at : Place = c.index_mut-place.result.now in
    let script : ScriptData = slice_index_or c.self.inside.scripts.now c.args.number c.index-self-number.result in
    let left : Left = left_after (not_begun script.items) (exchanges_of script.host c.self.inside.session.core.history) in
    record { stands = (left, subst (λ (p : Place). StandsAt script.items left p) (sym c.index_mut-place.ensures.value) (stands_there g.S.Site c.self.inside.session.core c.self.inside.session.core c.self.inside.scripts.now c.self.inside.places.items c.look.ensures.kept c.self.invariant c.args.number c.index-self-number.result low (g.C.Choose.may c.self.inside.session.core.chooser) (is_some (asked_copy c.self.inside.session.copier)) c.self.inside.places.items refl at)) }

pub invariant_of-self : goal.invariant_of-self
invariant_of-self g c =
    let low : c.args.number < length c.self.inside.scripts.now = omega (arith, c.requires, ap (λ (d : DriveValue g.row.S.Denot g.row.C.Denot). length d.scripts) c.self.view_is) in
    let at : Place = c.index_mut-place.result.now in
    let script : ScriptData = slice_index_or c.self.inside.scripts.now c.args.number c.index-self-number.result in
    let there : (left : Left) → StandsAt script.items left (slice_index_or c.self.inside.places.items c.args.number at) → StandsAt script.items left at =
    λ left stands. subst (λ (p : Place). StandsAt script.items left p) (sym c.index_mut-place.ensures.value) stands in
    (host_whole g.S.Site c.self.inside.session.core c.call_host.new.session.core c.self.inside.scripts.now c.self.inside.places.items c.look.ensures.kept c.self.invariant c.args.number c.index-self-number.result low (g.C.Choose.may c.self.inside.session.core.chooser) (is_some (asked_copy c.self.inside.session.copier)) c.self.inside.places.items refl at c.call_host.new.place c.call_host.result
    (λ left stands. c.call_host.ensures.event left (there left stands)) (λ left stands. c.call_host.ensures.place left (there left stands))).driven

pub returns-clause-takes : goal.returns-clause-takes
returns-clause-takes g c =
    let low : c.args.number < length c.self.inside.scripts.now = omega (arith, c.requires, ap (λ (d : DriveValue g.row.S.Denot g.row.C.Denot). length d.scripts) c.self.view_is) in
    let at : Place = c.index_mut-place.result.now in
    let script : ScriptData = slice_index_or c.self.inside.scripts.now c.args.number c.index-self-number.result in
    let there : (left : Left) → StandsAt script.items left (slice_index_or c.self.inside.places.items c.args.number at) → StandsAt script.items left at =
    λ left stands. subst (λ (p : Place). StandsAt script.items left p) (sym c.index_mut-place.ensures.value) stands in
    subst (λ (d : DriveValue g.row.S.Denot g.row.C.Denot). (unknown : ScriptData) → HostTakes (terms_of g.S.Site g.C.Choose.may d) (slice_index_or d.scripts c.args.number unknown).host
    (calls_of d.scripts d.core.history (slice_index_or d.scripts c.args.number unknown).host) (seen_core g.S.Site d.core) c.call_host.result
    (seen_core g.S.Site c.call_host.new.session.core)) c.self.view_is
    (host_takes g.S.Site c.self.inside.session.core c.call_host.new.session.core c.self.inside.scripts.now c.self.inside.places.items c.look.ensures.kept c.self.invariant c.args.number c.index-self-number.result low (g.C.Choose.may c.self.inside.session.core.chooser) (is_some (asked_copy c.self.inside.session.copier)) c.self.inside.places.items refl at c.call_host.new.place c.call_host.result
    (λ left stands. c.call_host.ensures.event left (there left stands)) (λ left stands. c.call_host.ensures.place left (there left stands)))

pub returns-clause-leaves : goal.returns-clause-leaves
returns-clause-leaves g c =
    let low : c.args.number < length c.self.inside.scripts.now = omega (arith, c.requires, ap (λ (d : DriveValue g.row.S.Denot g.row.C.Denot). length d.scripts) c.self.view_is) in
    let at : Place = c.index_mut-place.result.now in
    let script : ScriptData = slice_index_or c.self.inside.scripts.now c.args.number c.index-self-number.result in
    let there : (left : Left) → StandsAt script.items left (slice_index_or c.self.inside.places.items c.args.number at) → StandsAt script.items left at =
    λ left stands. subst (λ (p : Place). StandsAt script.items left p) (sym c.index_mut-place.ensures.value) stands in
    let whole = host_whole g.S.Site c.self.inside.session.core c.call_host.new.session.core c.self.inside.scripts.now c.self.inside.places.items c.look.ensures.kept c.self.invariant c.args.number c.index-self-number.result low (g.C.Choose.may c.self.inside.session.core.chooser) (is_some (asked_copy c.self.inside.session.copier)) c.self.inside.places.items refl at c.call_host.new.place c.call_host.result
    (λ left stands. c.call_host.ensures.event left (there left stands)) (λ left stands. c.call_host.ensures.place left (there left stands)) in
    let session_ = host_session g.S.Site c.self.inside.session.core c.call_host.new.session.core c.self.inside.scripts.now c.self.inside.places.items c.look.ensures.kept c.self.invariant c.args.number c.index-self-number.result low (g.C.Choose.may c.self.inside.session.core.chooser) (is_some (asked_copy c.self.inside.session.copier)) c.self.inside.places.items refl at c.call_host.new.place c.call_host.result
    (λ left stands. c.call_host.ensures.event left (there left stands)) (λ left stands. c.call_host.ensures.place left (there left stands)) in
    subst (λ (d : DriveValue g.row.S.Denot g.row.C.Denot). LeavesDrive g.S.Site d (record { core = c.call_host.new.session.core; copier = c.call_host.new.session.copier; scripts = c.self.inside.scripts.now }) c.call_host.result) c.self.view_is
    (record {
      session = session_;
      scripts_ = refl;
      copier_ = c.call_host.ensures.copier;
      chooser_ = c.call_host.ensures.chooser;
      written = c.call_host.ensures.devices.written;
      later = c.call_host.ensures.devices.later;
      sound = c.call_host.ensures.devices.sound;
      halts = whole.halts;
      cause = whole.cause;
      only_reads_fail = λ but never none. unstopped_same c.call_host.result _ _ (c.call_host.ensures.only_reads_fail but never none) whole.halts ∙ none;
      full = whole.full;
    })
