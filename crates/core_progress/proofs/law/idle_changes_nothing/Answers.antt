use Rattle.core_progress.proofs.WorkAnswers.{idle_same}
use Rattle.core_progress.proofs.law.idle_changes_nothing.Goals as goal

pub returns : goal.returns
returns g c = λ core recorder chooser left event. idle_same g.S.Site.tells (g.C.Choose.may chooser) core left recorder event
