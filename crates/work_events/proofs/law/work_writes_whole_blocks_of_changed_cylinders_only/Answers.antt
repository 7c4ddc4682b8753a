use Rattle.work_events.proofs.WorkLawFacts.{writes_cartridges}
use Rattle.work_events.proofs.law.work_writes_whole_blocks_of_changed_cylinders_only.Goals as goal

pub returns : goal.returns
returns g c = λ chooser core recorder told left is tells event. writes_cartridges g.S.Site.tells (g.C.Choose.may chooser) core recorder told left event is tells
