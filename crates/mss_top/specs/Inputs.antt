-- When a read of the input counts a failure of its source.
use Rattle.std.specs.Prelude.{◌≡◌, ◌≤◌, ℕ, Result, OnOk, IsErrOf}
use Rattle.mss_base.specs.Counts.{Rises}
use Rattle.mss_top.specs.declared.input.InputFault.{InputFault}
use Rattle.mss_top.specs.declared.input.InputFault.TheVariants.{Failed}

-- the source is told to have failed only where its count rose, and where the input was read the
-- count stays
pub record HasInputCause {T : Type 0} (before now : ℕ) (result : Result T InputFault)
    : Type 0 where
  pub later : before ≤ now
  pub failed : IsErrOf result Failed → Rises before now
  pub same : OnOk result (now ≡ before)
