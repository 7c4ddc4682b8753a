-- What a run of `threads` promises.
use Rattle.std.specs.Prelude.{◌≡◌, ◌≢◌, ◌⊎◌, List, [], Option, Some}
use Rattle.mss_base.specs.declared.site.Site.{Ghosts}
use Rattle.command_words.specs.declared.command.Command.{Command}
use Rattle.command_words.specs.declared.command.Command.TheVariants as command
use Rattle.command_words.specs.declared.command.CopyAsked.{CopyAsked}
use Rattle.job_text.specs.Jobs.{JobData}
use Rattle.report_text.specs.declared.one_line.OneLine.{OneLine}
use Rattle.report_text.specs.declared.one_line.OneLine.TheVariants as line
use Rattle.core_state.specs.SessionData.{SessionData}
use Rattle.core_state.specs.declared.session.Session.{Session}
use Rattle.mss_run.specs.Runs.{EndData}
use Rattle.serial_driver.specs.declared.answer.DriveAnswer.{DriveAnswer}
use Rattle.session_report.specs.Answers.{Answer}
use Rattle.session_report.specs.Parties.{Stream, IsUntouched}
use Rattle.job_runs.specs.Parties.{Devices}
use Rattle.thread_runs.specs.Runs.{IsSessionAtOnce}
use Rattle.job_runs.specs.Copies.{JobAsked}
use Rattle.mss_top.specs.Admission.{task_of}
use Rattle.mss_top.specs.Admission.{IsJobText, IsNoJob, Reads}
use Rattle.mss_top.specs.Ending.{SaysWhy}
use Rattle.mss_top.specs.Serial.{Closes, EndsAs, IsUntaken, JobBrokeOff, NothingFails, Output}
use Rattle.mss_top.specs.Serial.{since, until}
use Rattle.mss_top.specs.declared.status.Status.{Status}

-- ---- which run is admitted

-- the words ask for a run in threads, with this copy
abbrev pub AskForThreads : Option Command → Option CopyAsked → Type 0
AskForThreads asked copy = asked ≡ Some (command.Threads copy)

-- with some copy, or without one
pub record AskForSomeThreads (asked : Option Command) : Type 0 where
  pub copy : Option CopyAsked
  pub command : AskForThreads asked copy

-- they ask for none
abbrev pub AskForNoThreads : Option Command → Type 0
AskForNoThreads asked = (copy : Option CopyAsked) → asked ≢ Some (command.Threads copy)

-- they ask for one with this copy, and the input has this job
pub record IsThreadsJob (asked : Option Command) (input : Stream) (copy : Option CopyAsked)
    (job : JobData) : Type 0 where
  pub command : AskForThreads asked copy
  pub text : Reads input (λ text. IsJobText text job)

-- Why no run in threads is admitted: the words, or the input. Of want of memory no cause is said,
-- but that the input is untouched, unless the words ask for its job.
abbrev pub IsThreadless : Option Command → Stream → OneLine → Type 0
IsThreadless asked input line.WordsRefused = AskForNoThreads asked × IsUntouched input
IsThreadless asked input line.WantOfMemory = IsUntouched input ⊎ AskForSomeThreads asked
IsThreadless asked input said = AskForSomeThreads asked × IsNoJob input said

-- ---- a run without a session

-- no run is admitted, and the devices are untouched
pub record IsKeptOut (asked : Option Command) (input : Stream) (site : Devices) (said : OneLine)
    : Type 0 where
  pub threadless : IsThreadless asked input said
  pub devices_ : site.now ≡ site.was

-- the restart for the job doesn't take up the devices
pub record IsTurnedBack (asked : Option Command) (input : Stream) (site : Devices) (said : OneLine)
    : Type 0 where
  pub copy : Option CopyAsked
  pub job : JobData
  pub admitted : IsThreadsJob asked input copy job
  pub untaken : IsUntaken job site said

-- no session began, and so no host came to an end
pub record BeganNone (asked : Option Command) (input : Stream) (site : Devices) (sink : Stream)
    (told : Status) (hosts : List EndData) : Type 0 where
  pub says : SaysWhy
      (λ said. IsKeptOut asked input site said ⊎ IsTurnedBack asked input site said) sink told
  pub none : hosts ≡ []

-- ---- a run with one

-- a session in threads was told, and the run closed
pub record IsThreadsRunOf (task : JobAsked) (site : Devices) (sink : Stream) (told : Status)
    (hosts : List EndData) (s : SessionData) : Type 0 where
  pub end : DriveAnswer
  pub answer : Answer
  -- the output behind the report
  pub mid : Output
  pub session : IsSessionAtOnce task site (until sink mid) end answer hosts s
  pub closes : Closes end answer (since sink mid) told

-- a run in threads was admitted and done
pub record IsThreadsRun (asked : Option Command) (input : Stream) (site : Devices) (sink : Stream)
    (told : Status) (hosts : List EndData) (s : SessionData) : Type 0 where
  pub copy : Option CopyAsked
  pub job : JobData
  pub admitted : IsThreadsJob asked input copy job
  pub done : IsThreadsRunOf (task_of job copy) site sink told hosts s

-- ---- a run

-- a run that has its job
abbrev pub EndsJob : JobAsked → Devices → Stream → Status → List EndData → Option Session → Type 0
EndsJob task site sink told hosts session =
    EndsAs (SaysWhy (IsUntaken task.job site) sink told × (hosts ≡ []))
    (IsThreadsRunOf task site sink told hosts) session

abbrev pub EndsThreads : Option Command → Stream → Devices → Stream → Status → List EndData
    → Option Session → Type 0
EndsThreads asked input site sink told hosts session =
    EndsAs (BeganNone asked input site sink told hosts)
    (IsThreadsRun asked input site sink told hosts) session

-- the report of an admitted run in threads broke off
pub record ThreadsBrokeOff {S : Type 0} (g : Ghosts S) (s : S)
    (asked : Option Command) (input : Stream) (site : Devices) (sink : Stream)
    (session : SessionData) : Type 0 where
  pub copy : Option CopyAsked
  pub job : JobData
  pub admitted : IsThreadsJob asked input copy job
  pub broke : JobBrokeOff g s job site sink session

-- ---- completeness

-- the words ask for a run in threads, the input has this job, and nothing fails
pub record GoesWellAtOnce (asked : Option Command) (input : Stream) (site : Devices) (sink : Stream)
    (job : JobData) : Type 0 where
  pub command : AskForSomeThreads asked
  pub can_read : input.tells
  pub text : IsJobText input.was job
  pub fair : NothingFails job input site sink
