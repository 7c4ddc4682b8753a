use Rattle.core_progress.proofs.Fits.{core_fits}
use Rattle.core_progress.proofs.law.cores_fit.Goals as goal

pub returns : goal.returns
returns c = λ core kept. core_fits core kept
