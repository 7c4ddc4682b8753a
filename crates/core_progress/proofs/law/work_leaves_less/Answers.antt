use Rattle.core_progress.proofs.SettleFalls.{settle_falls}
use Rattle.core_progress.proofs.law.work_leaves_less.Goals as goal

pub returns : goal.returns
returns g c = λ core recorder chooser what left kept low event. (settle_falls g.S.Site.tells (g.C.Choose.may chooser) core left recorder what kept event).0 low
