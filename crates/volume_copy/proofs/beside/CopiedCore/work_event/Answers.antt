use Rattle.std.proofs.Common.{◌<◌, subst, sym}
use Rattle.core_state.specs.CoreValue.{CoreData, seen_core}
use Rattle.core_state.specs.TheCore.{IsWhole}
use Rattle.core_state.proofs.Moved.{whole_seen}
use Rattle.volume_copy.specs.Beside.{CopiedValue}
use Rattle.work_events.specs.WorkLaws.{LeavesHosts}
use Rattle.volume_copy.proofs.FaultFacts.{work_faults}
use Rattle.volume_copy.proofs.BesideFacts.{work_beside}
use Rattle.volume_copy.proofs.beside.CopiedCore.work_event.Goals as goal

pub invariant_of-self : goal.invariant_of-self
invariant_of-self g c =
    let old : CoreData = seen_core g.S.Site c.self.inside.core in
    let new : CoreData = seen_core g.S.Site c.work_event.new.core in
    let whole : IsWhole g.S.Site.tells old.site.told old = whole_seen g.S.Site c.self.inside.core c.look.ensures.whole in
    let there : c.args.recorder < old.config.recorders = subst (λ (v : CopiedValue g.row.S.Denot g.row.C.Denot). c.args.recorder < v.core.config.recorders) (sym c.self.view_is) c.requires.recorder in
    let leaves : LeavesHosts old new = c.work_leaves_the_history.ensures c.self.inside.core.chooser old c.args.recorder c.work_event.result new c.work_event.ensures.event in
    work_beside g.S.Site c.self.inside.core c.work_event.new.core
    (λ copy.
    c.work_leaves_copies.ensures c.self.inside.core.chooser copy old c.args.recorder c.work_event.result new (record { there = there; kept = whole.kept }) whole c.work_event.ensures.event)
    leaves.history (work_faults old c.args.recorder new leaves (c.answers_have_their_causes.ensures.failed c.self.inside.core.chooser old c.args.recorder c.work_event.result new (record { there = there; kept = whole.kept }) c.work_event.ensures.event)) (c.work_is_later.ensures c.self.inside.core.chooser old c.args.recorder c.work_event.result new (record { there = there; kept = whole.kept }) c.work_event.ensures.event).beginning.first_faults c.work_event.ensures.devices.later c.self.inside.copier c.self.invariant
