use Rattle.work_events.proofs.WorkLawFacts.{answer_says, fails_by_copy}
use Rattle.work_events.proofs.law.answers_have_their_causes.Goals as goal

pub returns-clause-answer : goal.returns-clause-answer
returns-clause-answer g c = λ chooser core recorder told left is event. answer_says g.S.Site.tells (g.C.Choose.may chooser) core recorder told left event is

pub returns-clause-failed : goal.returns-clause-failed
returns-clause-failed g c = λ chooser core recorder told left is event. fails_by_copy g.S.Site.tells (g.C.Choose.may chooser) core recorder told left event is
