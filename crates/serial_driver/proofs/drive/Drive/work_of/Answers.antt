use Rattle.std.proofs.Common.{◌≡◌, ℕ, None, subst}
use Rattle.core_state.specs.CoreValue.{CoreValue, seen_core}
use Rattle.core_state.specs.WorkEvents.{WorkEvent}
use Rattle.core_state.specs.IsCore.{IsCore}
use Rattle.serial_driver.proofs.TurnFacts.{work_less}
use Rattle.serial_driver.proofs.drive.Drive.work_of.Goals as goal

pub returns-clause-less : goal.returns-clause-less
returns-clause-less g c =
    let kept : c.args.self.now.core.stopped ≡ None → IsCore c.args.self.now.core = subst (λ (v : CoreValue g.row.S.Denot g.row.C.Denot). v.stopped ≡ None → IsCore v) c.core.ensures.value c.look.ensures.kept in
    let now = seen_core g.S.Site c.args.self.now.core in
    let next = seen_core g.S.Site c.work.new.self.core in
    let event : WorkEvent g.S.Site.tells (g.C.Choose.may c.args.self.now.core.chooser) now c.args.number c.work.result next =
    subst (λ (n : ℕ). WorkEvent g.S.Site.tells (g.C.Choose.may c.args.self.now.core.chooser) now n c.work.result next) c.in-Some.ensures.value c.work.ensures.event in
    work_less g.S.Site (g.C.Choose.may c.args.self.now.core.chooser) c.args.self.now.core c.work.new.self.core kept c.args.number c.requires.low
    (λ what core event. c.work_leaves_less.ensures now c.args.number c.args.self.now.core.chooser what next core c.requires.low event)
    (λ what core event. c.work_leaves_the_run.ensures now c.args.number c.args.self.now.core.chooser what next core event) c.work.result event
