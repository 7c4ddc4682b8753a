-- Statuses, and what a status says of one line that was put.
use Rattle.std.specs.Prelude.{◌≡◌, ℕ, List, ◌++◌, Ok, Err}
use Rattle.mss_base.specs.Counts.{Rises}
use Rattle.mss_base.specs.Puts.{PutsFront}
use Rattle.report_text.specs.OneLines.{one_line_text}
use Rattle.report_text.specs.declared.one_line.OneLine.{OneLine}
use Rattle.report_text.specs.declared.one_line.OneLine.TheVariants as line
use Rattle.serial_driver.specs.declared.answer.DriveAnswer.{DriveAnswer}
use Rattle.serial_driver.specs.declared.answer.DriveAnswer.TheVariants as ended
use Rattle.session_report.specs.Answers.{Answer}
use Rattle.session_report.specs.Parties.{Stream}
use Rattle.session_report.specs.declared.fault.ReportFault.TheVariants as report_fault
use Rattle.mss_top.specs.declared.status.Status.{Status}
use Rattle.mss_top.specs.declared.status.Status.TheVariants as status

-- the exit status of the process
abbrev pub code_of : Status → ℕ
code_of status.Done = 0
code_of status.WordsRefused = 1
code_of status.InputFault = 2
code_of status.JobRefused = 3
code_of status.RestartRefused = 4
code_of status.Stopped = 5
code_of status.Limit = 6
code_of status.OutputFault = 7
code_of status.Memory = 8

-- the status of an output of one line
abbrev pub line_status : OneLine → Status
line_status line.WordsRefused = status.WordsRefused
line_status line.InputFault = status.InputFault
line_status (line.JobRefused n kind) = status.JobRefused
line_status (line.RestartRefused why) = status.RestartRefused
line_status line.WantOfMemory = status.Memory

-- the status of a session that ended so, and whose report was put whole
abbrev pub end_status : DriveAnswer → Status
end_status ended.Done = status.Done
end_status ended.CommandLimit = status.Limit
end_status (ended.Stopped fault) = status.Stopped
end_status ended.Memory = status.Memory

-- the status of a session that ended so, and was told so
abbrev pub status_of : DriveAnswer → Answer → Status
status_of end (Ok _) = end_status end
status_of end (Err (report_fault.Read fault)) = status.Stopped
status_of end (Err report_fault.Output) = status.OutputFault
status_of end (Err report_fault.Memory) = status.Memory

-- What a status says of a text, behind which this one is due: that it was put whole, and no put
-- failed, or a front of it, since the sink failed.
pub data IsTextPut (text : List ℕ) (due : Status) (sink : Stream) (told : Status) : Type 0 where
  whole : told ≡ due → sink.faults_now ≡ sink.faults_was
      → (sink.tells → sink.now ≡ sink.was ++ text) → IsTextPut text due sink told
  broken : told ≡ status.OutputFault → Rises sink.faults_was sink.faults_now
      → (sink.tells → PutsFront sink.was sink.now text) → IsTextPut text due sink told

-- and of one line
abbrev pub IsLinePut : OneLine → Stream → Status → Type 0
IsLinePut said sink told = IsTextPut (one_line_text said) (line_status said) sink told
