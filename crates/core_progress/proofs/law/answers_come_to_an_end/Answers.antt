use Rattle.core_progress.proofs.Counts.{answers_few}
use Rattle.core_progress.proofs.law.answers_come_to_an_end.Goals as goal

pub returns : goal.returns
returns g c = λ chooser core steps left events hosts. answers_few g.S.Site.tells (g.C.Choose.may chooser) steps core left events hosts
