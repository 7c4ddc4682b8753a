-- A look at devices of which one unit of the table can't be read.
use Rattle.std.proofs.Common.{◌≡◌, ◌≢◌, ℕ, List, [], Option, Ok, Err, sym, ◌∙◌, subst}
use Rattle.mss_base.specs.Configs.{VolumeData}
use Rattle.mss_base.specs.Content.{Content, content}
use Rattle.mss_base.specs.Configs.{serial_in}
use Rattle.volume_table.specs.Row.{RowValue}
use Rattle.report_text.specs.OneLines.{one_line_text}
use Rattle.report_text.specs.declared.one_line.OneLine.{OneLine}
use Rattle.report_text.specs.declared.one_line.OneLine.TheVariants as line
use Rattle.shown_volumes.specs.declared.refused.Refused.{Refused}
use Rattle.shown_volumes.specs.declared.refused.Refused.TheVariants as refused
use Rattle.mss_restart.specs.Survey.{IsExact}
use Rattle.core_restart.specs.TakingUp.{NoneFailed}
use Rattle.serial_driver.specs.declared.answer.DriveAnswer.TheVariants as ended
use Rattle.session_report.specs.Answers.{Answer}
use Rattle.session_report.specs.Parties.{Stream}
use Rattle.session_report.specs.Reports.{AnswersNoRead}
use Rattle.session_report.specs.declared.fault.ReportFault.TheVariants as report_fault
use Rattle.job_runs.specs.Parties.{Devices}
use Rattle.mss_top.specs.Ending.{line_of}
use Rattle.mss_top.specs.Showing.{FRAMES, IsFaultPut, IsShown, Lists, LooksExactly, Put, RowsFound, none_asked}
use Rattle.mss_top.specs.Status.{IsLinePut, whole as line_whole, broken as line_broken, status_of}
use Rattle.mss_top.specs.declared.status.Status.{Status}
use Rattle.mss_top.specs.declared.status.Status.TheVariants as status
use Rattle.mss_top.proofs.Looked.{lists_shown, none_rises}

-- the survey of a look asks for no volume
pub exactly_of : (c : Content) (found : RowsFound) (frames : ℕ) (volumes : List VolumeData) → frames ≡ FRAMES → volumes ≡ [] → IsExact frames (serial_in volumes) c found → IsExact FRAMES none_asked c found
exactly_of c found frames volumes all none exact = subst (λ (p : ℕ × List VolumeData). IsExact p.0 (serial_in p.1) c found) (λ i. (all i, none i)) exact

-- the line of its refusal
pub line_exactly : (c : Content) (why : Refused) → IsExact FRAMES none_asked c (Err why) → LooksExactly c (Err (line_of why))
line_exactly c refused.Memory exact = tt
line_exactly c why exact = exact

-- a listing that wasn't stopped met no failed read
pub unstopped_read : (answer : Answer) (told : Status) → told ≡ status_of ended.Done answer → told ≢ status.Stopped → AnswersNoRead answer
unstopped_read (Ok x) told ends other = tt
unstopped_read (Err (report_fault.Read fault)) told ends other = absurd (other ends)
unstopped_read (Err report_fault.Output) told ends other = tt
unstopped_read (Err report_fault.Memory) told ends other = tt

-- nor is a listing stopped that met none
pub read_unstopped : (answer : Answer) (told : Status) → told ≡ status_of ended.Done answer → AnswersNoRead answer → told ≢ status.Stopped
read_unstopped (Ok x) told ends read stop = let e : status.Done ≡ status.Stopped = sym ends ∙ stop in cc
read_unstopped (Err (report_fault.Read fault)) told ends read stop = absurd read
read_unstopped (Err report_fault.Output) told ends read stop = let e : status.OutputFault ≡ status.Stopped = sym ends ∙ stop in cc
read_unstopped (Err report_fault.Memory) told ends read stop = let e : status.Memory ≡ status.Stopped = sym ends ∙ stop in cc

module _ (c : Content) (sink : Stream) (none : NoneFailed sink.faults_was sink.faults_now) where
  -- the line of a fault
  fault_line : (why : Refused) → LooksExactly c (Err (line.RestartRefused why)) → Put sink (one_line_text (line.RestartRefused why)) → IsFaultPut c sink
  fault_line refused.Memory exact put = absurd exact
  fault_line (refused.RowUnread volume fault) exact put = absurd exact
  fault_line (refused.Stopped fault) exact put = absurd exact
  fault_line why exact put = record { why = why; first = exact; put = put }

  pub line_by_one : (said : OneLine) (told : Status) → LooksExactly c (Err said) → IsLinePut said sink told → IsShown c sink told
  line_by_one said told exact (line_broken is rose front) = absurd (none_rises _ _ none rose)
  line_by_one line.WantOfMemory told exact (line_whole is counted bytes) = subst (λ (s : Status). IsShown c sink s) (sym is) tt
  line_by_one (line.RestartRefused why) told exact (line_whole is counted bytes) = subst (λ (s : Status). IsShown c sink s) (sym is) (fault_line why exact bytes)
  line_by_one line.WordsRefused told exact (line_whole is counted bytes) = absurd exact
  line_by_one line.InputFault told exact (line_whole is counted bytes) = absurd exact
  line_by_one (line.JobRefused n kind) told exact (line_whole is counted bytes) = absurd exact

  -- the listing
  pub listing_by_one : (rows : List (Option RowValue)) (site : Devices) (told : Status) → site.tells → content site.was.told ≡ c → LooksExactly c (Ok rows) → Lists rows site sink told → told ≢ status.Stopped → IsShown c sink told
  listing_by_one rows site told tells holds exact lists other = lists_shown c sink exact.1 (none_rises _ _ none) rows site told tells holds exact.0 lists (unstopped_read lists.answer told lists.ends other)
