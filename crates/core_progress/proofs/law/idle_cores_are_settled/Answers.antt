use Rattle.core_progress.proofs.Fits.{core_fits}
use Rattle.core_progress.proofs.AtRest.{at_rest}
use Rattle.core_progress.proofs.law.idle_cores_are_settled.Goals as goal

pub returns : goal.returns
returns c = λ core kept idle. at_rest core (core_fits core kept) idle
