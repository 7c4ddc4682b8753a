use Rattle.work_events.proofs.WorkLawFacts.{shows_the_same}
use Rattle.work_events.proofs.law.work_shows_the_same.Goals as goal

pub returns : goal.returns
returns g c = λ chooser core recorder told left is tells none whole whole_left event. shows_the_same g.S.Site.tells (g.C.Choose.may chooser) core recorder told left event is tells none whole whole_left
