use Rattle.std.proofs.Common.{◌≡◌, Some, Err, refl, ap, subst, ◌∙◌}
use Rattle.std.specs.Option.{option_and_then}
use Rattle.mss_base.specs.Content.{content}
use Rattle.ckd_track.specs.Data.{Volumes}
use Rattle.volume_table.specs.Listed.{row_in_list}
use Rattle.shown_volumes.specs.Shown.{shown_by, source, track_at}
use Rattle.volume_copy.specs.declared.copier.CopyState.TheVariants.{Failed}
use Rattle.volume_copy.specs.Copies.{CopyData, records_of, taken_at, track_of}
use Rattle.volume_copy.specs.Reads.{FailsAsTold}
use Rattle.volume_copy.specs.declared.taken.Taken.{Taken}
use Rattle.volume_copy.specs.Steps.{TakesOrFails, taken, failed}
use Rattle.volume_copy.proofs.StepFacts.{takes_one}
use Rattle.volume_copy.proofs.copier.Copier.take_track.Goals as goal

pub returns-in-Ok-clause-takes : goal.returns-in-Ok-clause-takes
returns-in-Ok-clause-takes g c =
    let tells : Type 0 = g.S.Site.tells in
    let shown : Volumes = shown_by (row_in_list c.args.rows.now) (content (g.S.Site.told c.args.site.now)) in
    let old : CopyData = record { volume = c.self.inside.volume; after_ = c.self.inside.after; state = c.self.inside.state; point = c.self.inside.point; tracks = c.self.inside.tracks } in
    let new : CopyData = record old { state = c.state_with-self-inside.result; tracks = c.put.new.self } in
    let told : tells → records_of c.in-Ok.taken ≡ Some (track_of shown old.volume c.args.number) =
    λ tl. c.in-Ok.ensures.track tl
    ∙ (λ i. Some (track_at (content (g.S.Site.told c.args.site.now)) (option_and_then (λ r. source r (c.place_of-cylinder.ensures.0 i) (c.place_of-cylinder.ensures.1 i)) (c.row.ensures i)))) in
    subst (λ (x : CopyData). TakesOrFails tells shown c.args.number (g.S.Site.faults c.args.site.now) (g.S.Site.faults c.read_shown.new.site) x new) c.self.view_is
    (taken (takes_one tells shown c.args.number c.in-Ok.taken old new (ap (λ (x : CopyData). taken_at x.tracks c.args.number) c.self.view_is ∙ c.requires.left) c.in-Ok.ensures.something told
    (record { volume_ = refl; time = refl; point_ = refl }) c.state_with-self-inside.ensures c.put.ensures.here c.put.ensures.others) c.in-Ok.ensures.fault)

pub returns-in-Err-Read-clause-takes : goal.returns-in-Err-Read-clause-takes
returns-in-Err-Read-clause-takes g c = failed c.in-Err-Read.fault
    (subst (λ e. FailsAsTold {T = Taken} g.S.Site c.args.site.now c.read_shown.new.site (Err e)) c.in-Err-Read.field-0-is c.in-Err-Read.ensures.fault) (λ i. record (c.self.view_is i) { state = Failed c.in-Err-Read.fault })
