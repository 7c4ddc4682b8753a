use Rattle.work_events.proofs.WorkLawFacts.{stopped_stays}
use Rattle.work_events.proofs.law.stopped_cores_stay.Goals as goal

pub returns : goal.returns
returns g c = λ chooser core recorder fault told left stopped event. stopped_stays g.S.Site.tells (g.C.Choose.may chooser) core recorder told left event fault stopped
