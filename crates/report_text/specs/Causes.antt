-- When a part of a report counts a failure of its sink.
use Rattle.std.specs.Prelude.{◌≡◌, ◌≤◌, ℕ, Result, OnOk, IsErrOf}
use Rattle.mss_base.specs.Counts.{Rises}
use Rattle.report_text.specs.declared.report.ReportFault.{ReportFault}
use Rattle.report_text.specs.declared.report.ReportFault.TheVariants.{Output, Memory}

-- the sink is told to have failed only where its count rose; where the part was put, or memory ran
-- out, the count stays
pub record HasOutputCause {T : Type 0} (before now : ℕ) (result : Result T ReportFault)
    : Type 0 where
  pub later : before ≤ now
  pub output : IsErrOf result Output → Rises before now
  pub memory : IsErrOf result Memory → now ≡ before
  pub same : OnOk result (now ≡ before)
