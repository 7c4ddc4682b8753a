use Rattle.std.proofs.Common.{subst}
use Rattle.mss_base.specs.Content.{content}
use Rattle.volume_table.specs.Listed.{row_in_list}
use Rattle.shown_volumes.specs.Shown.{shown_by}
use Rattle.core_state.specs.CoreValue.{CoreValue}
use Rattle.volume_copy.specs.Steps.{TakesOrFails}
use Rattle.volume_copy.proofs.StepFacts.{next_takes}
use Rattle.volume_copy.proofs.CopyFacts.{kept_read, track_seen}
use Rattle.volume_copy.proofs.copier.Copier.take.Goals as goal

pub invariant_of-core : goal.invariant_of-core
invariant_of-core g c =
    let reads = c.take_track.ensures.site in
    kept_read g.S.Site.tells _ _ _ _ _ _ _ c.take_track.new.site reads.log reads.unwritten reads.later c.core.invariant

pub returns-clause-takes : goal.returns-clause-takes
returns-clause-takes g c =
    next_takes g.S.Site.tells _ c.in-Some.number _ _ c.args.self.now c.take_track.new.self c.in-Some.ensures
    (subst (λ (v : CoreValue g.row.S.Denot g.row.C.Denot). TakesOrFails g.S.Site.tells (shown_by (row_in_list v.rows) (content (g.S.Site.told v.site))) c.in-Some.number
    (g.S.Site.faults v.site) (g.S.Site.faults c.take_track.new.site) c.args.self.now c.take_track.new.self) c.core.view_is c.in_ok-take_track.ensures.takes)

pub returns-clause-keeps : goal.returns-clause-keeps
returns-clause-keeps g c =
    track_seen g.S.Site _ _ c.core.view_is c.core.invariant c.take_track.new.site c.take_track.ensures.site _ _ _ c.in-Some.ensures.0 c.in_ok-take_track.ensures.takes

pub invariant_of-core-2 : goal.invariant_of-core-2
invariant_of-core-2 g c =
    let reads = c.take_track.ensures.site in
    kept_read g.S.Site.tells _ _ _ _ _ _ _ c.take_track.new.site reads.log reads.unwritten reads.later c.core.invariant
