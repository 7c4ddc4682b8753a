use Rattle.core_progress.proofs.MarkedOnce.{at_most_one}
use Rattle.core_progress.proofs.law.hosts_are_marked_once.Goals as goal

pub returns : goal.returns
returns g c = λ chooser h core steps left events none. at_most_one g.S.Site.tells (g.C.Choose.may chooser) h steps core left events none
