use Rattle.core_progress.proofs.Fits.{core_fits}
use Rattle.core_progress.proofs.Progress.{someone_goes_on}
use Rattle.core_progress.proofs.law.settled_cores_go_on.Goals as goal

pub returns : goal.returns
returns c = λ core calls kept settled owners_call one. someone_goes_on core settled (core_fits core kept) calls owners_call one
