use Rattle.core_progress.proofs.RunFalls.{call_falls}
use Rattle.core_progress.proofs.law.calls_leave_less.Goals as goal

pub returns : goal.returns
returns g c = λ core h call told left kept one eight event goes on. call_falls g.S.Site.tells core left kept h one eight call told event goes on
