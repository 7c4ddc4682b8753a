use Rattle.work_events.proofs.WorkLawFacts.{leaves_hosts}
use Rattle.work_events.proofs.law.work_leaves_the_history.Goals as goal

pub returns : goal.returns
returns g c = λ chooser core recorder told left event. leaves_hosts g.S.Site.tells (g.C.Choose.may chooser) core recorder told left event
