-- What is told of a session, by how it ended.
use Rattle.std.proofs.Common.{◌≡◌, ℕ, Option, Some, None, Err, subst}
use Rattle.serial_driver.specs.declared.answer.DriveAnswer.{DriveAnswer}
use Rattle.serial_driver.specs.declared.answer.DriveAnswer.TheVariants as ended
use Rattle.session_report.specs.Answers.{Answer}
use Rattle.session_report.specs.Parties.{Stream, IsUntouched}
use Rattle.session_report.specs.Reports.{Ending, ending_of}
use Rattle.session_report.specs.declared.fault.ReportFault.TheVariants as report_fault
use Rattle.session_report.specs.declared.reporting.Last.{Last}
use Rattle.session_report.specs.declared.reporting.Last.TheVariants.{End, Limit}
use Rattle.job_runs.specs.Runs.{IsHalted, TellsOf, last_of}

module _ (put : Ending → Type 0) (sink : Stream) (answer : Answer) where
  pub told_to_end : (end : DriveAnswer) (kept : Option ℕ) (last : Last) → IsHalted end kept → last_of end ≡ Some last → put (ending_of kept last) → TellsOf put end sink answer
  told_to_end ended.Done kept last none is told = let e : last ≡ End = (let f : Some End ≡ Some last = is in cc) in subst (λ (p : Option ℕ × Last). put (ending_of p.0 p.1)) (λ i. (none i, e i)) told
  told_to_end ended.CommandLimit kept last none is told = let e : last ≡ Limit = (let f : Some Limit ≡ Some last = is in cc) in subst (λ (p : Option ℕ × Last). put (ending_of p.0 p.1)) (λ i. (none i, e i)) told
  told_to_end (ended.Stopped fault) kept last halts is told = subst (λ (stop : Option ℕ). put (ending_of stop last)) halts told
  told_to_end ended.Memory kept last none is told = absurd (let e : None ≡ Some last = is in cc)

  pub told_nothing : (end : DriveAnswer) → last_of end ≡ None → answer ≡ Err report_fault.Memory → IsUntouched sink → TellsOf put end sink answer
  told_nothing ended.Done is memory same = absurd (let e : Some End ≡ None = is in cc)
  told_nothing ended.CommandLimit is memory same = absurd (let e : Some Limit ≡ None = is in cc)
  told_nothing (ended.Stopped fault) is memory same = absurd (let e : Some End ≡ None = is in cc)
  told_nothing ended.Memory is memory same = (memory, same)
