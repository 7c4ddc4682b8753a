use Rattle.work_events.proofs.NotedFacts.{notes_changes}
use Rattle.work_events.proofs.law.noted_work_changes_the_core.Goals as goal

pub returns : goal.returns
returns g c = λ chooser core recorder told left is event. notes_changes g.S.Site.tells (g.C.Choose.may chooser) core recorder told left is event
