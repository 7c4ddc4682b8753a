use Rattle.work_events.proofs.WorkLawFacts.{is_later}
use Rattle.work_events.proofs.law.work_is_later.Goals as goal

pub returns : goal.returns
returns g c = λ chooser core recorder told left is event. is_later g.S.Site.tells (g.C.Choose.may chooser) core recorder told left event is
