use Rattle.core_progress.proofs.Fits.{core_fits}
use Rattle.core_progress.proofs.Idle.{recorders_idle}
use Rattle.core_progress.proofs.law.settled_cores_are_idle.Goals as goal

pub returns : goal.returns
returns c = λ core kept settled goes i. recorders_idle core (core_fits core kept) settled goes i
