use Rattle.core_progress.proofs.Told.{goes_on}
use Rattle.core_progress.proofs.law.calls_go_on.Goals as goal

pub returns : goal.returns
returns g c = λ core h call told left kept event goes. goes_on g.S.Site.tells core kept.requests_ h call told left event goes
