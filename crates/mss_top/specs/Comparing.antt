-- What a comparison of choosers promises.
use Rattle.std.specs.Prelude.{◌≡◌, ◌≢◌, ◌⊎◌, List, [], Option, Some}
use Rattle.command_words.specs.declared.command.Command.{Command}
use Rattle.command_words.specs.declared.command.Command.TheVariants as command
use Rattle.compared_runs.specs.Comparing.{Compares, every_name}
use Rattle.compared_runs.specs.Texts.{policies_text}
use Rattle.core_restart.specs.TakingUp.{NoneFailed}
use Rattle.core_state.specs.declared.session.Session.{Session}
use Rattle.job_text.specs.Jobs.{JobData}
use Rattle.report_text.specs.declared.one_line.OneLine.{OneLine}
use Rattle.report_text.specs.declared.one_line.OneLine.TheVariants as line
use Rattle.serial_driver.specs.declared.answer.DriveAnswer.{DriveAnswer}
use Rattle.session_report.specs.Parties.{Stream, IsUntouched}
use Rattle.mss_top.specs.Admission.{IsJobText, IsNoJob, Reads}
use Rattle.mss_top.specs.Ending.{SaysWhy}
use Rattle.mss_top.specs.Serial.{Chooses}
use Rattle.mss_top.specs.Status.{IsTextPut, end_status}
use Rattle.mss_top.specs.declared.status.Status.{Status}

-- the words ask for a comparison
abbrev pub AskToCompare : Option Command → Type 0
AskToCompare asked = asked ≡ Some command.Compare

-- The sessions of a job by each chooser, and what was put of them. `other` is what the closure that
-- is handed in may answer.
pub record ComparesJob (other : Chooses) (job : JobData) (sink : Stream) (told : Status)
    (sessions : List Session) : Type 0 where
  -- how the last session ended
  pub end : DriveAnswer
  pub compares : Compares (Unit {0}) other job every_name sessions end
  pub put : IsTextPut (policies_text sessions end) (end_status end) sink told

-- the words ask for that, and the input has the job
pub record IsComparison (asked : Option Command) (other : Chooses) (input sink : Stream)
    (told : Status) (sessions : List Session) : Type 0 where
  pub job : JobData
  pub command : AskToCompare asked
  pub text : Reads input (λ text. IsJobText text job)
  pub done : ComparesJob other job sink told sessions

-- Why nothing is compared: the words, or the input. Of want of memory no cause is said, but that
-- the input is untouched, unless the words ask for its job.
abbrev pub IsUncompared : Option Command → Stream → OneLine → Type 0
IsUncompared asked input line.WordsRefused = (asked ≢ Some command.Compare) × IsUntouched input
IsUncompared asked input line.WantOfMemory = IsUntouched input ⊎ AskToCompare asked
IsUncompared asked input said = AskToCompare asked × IsNoJob input said

-- one line says so, and there is no session
pub record ComparedNone (asked : Option Command) (input sink : Stream) (told : Status)
    (sessions : List Session) : Type 0 where
  pub says : SaysWhy (IsUncompared asked input) sink told
  pub none : sessions ≡ []

-- a comparison ended
abbrev pub EndsCompared : Option Command → Chooses → Stream → Stream → Status → List Session
    → Type 0
EndsCompared asked other input sink told sessions =
    ComparedNone asked input sink told sessions
    ⊎ IsComparison asked other input sink told sessions

-- with whatever sessions
pub record IsCompared (asked : Option Command) (other : Chooses) (input sink : Stream)
    (told : Status) : Type 0 where
  pub sessions : List Session
  pub ended : EndsCompared asked other input sink told sessions

-- ---- completeness

-- the words ask for a comparison, the input has this job, and nothing fails
pub record ComparesWell (asked : Option Command) (input sink : Stream) (job : JobData)
    : Type 0 where
  pub command : AskToCompare asked
  pub can_read : input.tells
  pub text : IsJobText input.was job
  pub input_none : NoneFailed input.faults_was input.faults_now
  pub sink_none : NoneFailed sink.faults_was sink.faults_now
