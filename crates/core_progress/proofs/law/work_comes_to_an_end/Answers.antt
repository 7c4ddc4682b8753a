use Rattle.core_progress.proofs.Counts.{deeds_few}
use Rattle.core_progress.proofs.law.work_comes_to_an_end.Goals as goal

pub returns : goal.returns
returns g c = λ chooser core steps left works. deeds_few g.S.Site.tells (g.C.Choose.may chooser) steps core left works
