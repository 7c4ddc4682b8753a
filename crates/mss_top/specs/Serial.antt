-- What a run of `serial` promises.
use Rattle.std.specs.Prelude.{◌≡◌, ◌⊎◌, ℕ, List, Option, Some, None, Err}
use Rattle.mss_base.specs.Content.{content}
use Rattle.mss_base.specs.declared.site.Site.{Ghosts}
use Rattle.victim_choice.specs.declared.choose.Candidate.{Candidate}
use Rattle.command_words.specs.declared.command.Command.{Command}
use Rattle.draws.specs.Load.{load_job}
use Rattle.job_text.specs.Jobs.{JobData}
use Rattle.report_text.specs.declared.one_line.OneLine.{OneLine}
use Rattle.report_text.specs.declared.one_line.OneLine.TheVariants as line
use Rattle.shown_volumes.specs.declared.refused.Refused.{Refused}
use Rattle.core_restart.specs.TakingUp.{IsFaultless, NoneFailed}
use Rattle.core_state.specs.SessionData.{SessionData}
use Rattle.core_state.specs.Sessions.{session_data}
use Rattle.core_state.specs.declared.session.Session.{Session}
use Rattle.serial_driver.specs.declared.answer.DriveAnswer.{DriveAnswer}
use Rattle.serial_driver.specs.declared.answer.DriveAnswer.TheVariants as ended
use Rattle.session_report.specs.Answers.{Answer}
use Rattle.session_report.specs.Parties.{Stream, IsUntouched}
use Rattle.job_runs.specs.Parties.{Devices}
use Rattle.job_runs.specs.Runs.{IsLoadOf, IsSessionOf, RefusesStart, IsUntaken as IsNotTakenUp}
use Rattle.job_runs.specs.Runs.{ReportBrokeOff}
use Rattle.job_runs.specs.declared.run.Outcome.{Outcome}
use Rattle.job_runs.specs.declared.run.Outcome.TheVariants as outcome
use Rattle.job_runs.specs.Copies.{JobAsked}
use Rattle.mss_top.specs.Admission.{AskToRun, IsAdmitted, IsJobText, IsUnread, task_of}
use Rattle.mss_top.specs.Ending.{SaysWhy, line_of}
use Rattle.mss_top.specs.Status.{IsLinePut, status_of}
use Rattle.mss_top.specs.declared.admission.Admitted.{Admitted}
use Rattle.mss_top.specs.declared.admission.Settings.{Settings}
use Rattle.mss_top.specs.declared.status.Status.{Status}
use Rattle.mss_top.specs.declared.status.Status.TheVariants as status

-- which place of a list of candidates the chooser may answer
abbrev pub Chooses : Type 1
Chooses = List Candidate → ℕ → Type 0

-- ---- no session

-- no run is admitted, and the devices are untouched
pub record IsUnadmitted (asked : Option Command) (input : Stream) (site : Devices)
    (said : OneLine) : Type 0 where
  pub unread : IsUnread asked input said
  pub devices_ : site.now ≡ site.was

-- the restart for a job doesn't take up the devices
pub record IsUntaken (job : JobData) (site : Devices) (said : OneLine) : Type 0 where
  pub why : Refused
  pub opens : RefusesStart job.config site why
  pub line_ : said ≡ line_of why

pub record IsRefusedLate (asked : Option Command) (input : Stream) (site : Devices)
    (said : OneLine) : Type 0 where
  pub run : Admitted
  pub admitted : IsAdmitted asked input run
  pub untaken : IsUntaken run.job site said

-- no session began
abbrev pub IsRefused : Option Command → Stream → Devices → Stream → Status → Type 0
IsRefused asked input site sink told =
    SaysWhy (λ said. IsUnadmitted asked input site said ⊎ IsRefusedLate asked input site said)
    sink told

-- ---- a session

-- what is seen of an output at a moment
pub record Output : Type 0 where
  pub bytes : List ℕ
  pub faults : ℕ

-- an output up to a moment, and from it on
abbrev pub until : Stream → Output → Stream
until sink mid = record sink { now = mid.bytes; faults_now = mid.faults }

abbrev pub since : Stream → Output → Stream
since sink mid = record sink { was = mid.bytes; faults_was = mid.faults }

-- What is put behind a session that ended and was told so: where memory ran out in it, and so
-- nothing of it was told, the line of that; else nothing.
abbrev pub Closes : DriveAnswer → Answer → Stream → Status → Type 0
Closes ended.Memory report sink told = IsLinePut line.WantOfMemory sink told
Closes end report sink told = IsUntouched sink × (told ≡ status_of end report)

-- a session of a run, with what was put of it: its report, or of a load its summary
abbrev pub IsToldOf : Chooses → Option ℕ → JobAsked → List ℕ → Devices → Stream → DriveAnswer
    → Answer → SessionData → Type 0
IsToldOf may None task turns site sink end answer s =
    IsSessionOf may task turns site sink end answer s
IsToldOf may (Some programs) task turns site sink end answer s =
    IsLoadOf may task.job programs turns site sink end answer s

-- a session of a run was told, and the run closed
pub record IsRunOf (may : Chooses) (run : Admitted) (site : Devices) (sink : Stream)
    (told : Status) (s : SessionData) : Type 0 where
  pub end : DriveAnswer
  pub answer : Answer
  -- the output behind the report or the summary
  pub mid : Output
  pub session : IsToldOf may run.settings.load (task_of run.job run.settings.copy)
      run.turns.items site (until sink mid) end answer s
  pub closes : Closes end answer (since sink mid) told

-- a run was admitted and done
pub record IsRun (may : Chooses) (asked : Option Command) (input : Stream) (site : Devices)
    (sink : Stream) (told : Status) (s : SessionData) : Type 0 where
  pub run : Admitted
  pub admitted : IsAdmitted asked input run
  pub done : IsRunOf may run site sink told s

-- ---- a run

-- a run ended without a session or with one
abbrev pub EndsAs : Type 0 → (SessionData → Type 0) → Option Session → Type 0
EndsAs Refused Ran None = Refused
EndsAs Refused Ran (Some s) = Ran (session_data s)

-- an admitted run
abbrev pub EndsRun : Chooses → Admitted → Devices → Stream → Status → Option Session → Type 0
EndsRun may run site sink told session =
    EndsAs (SaysWhy (IsUntaken run.job site) sink told) (IsRunOf may run site sink told) session

abbrev pub EndsCommand : Option Command → Chooses → Stream → Devices → Stream → Status
    → Option Session → Type 0
EndsCommand asked may input site sink told session =
    EndsAs (IsRefused asked input site sink told) (IsRun may asked input site sink told) session

-- what running it leaves, told or not
abbrev pub RunsAdmitted : Chooses → Option ℕ → JobAsked → List ℕ → Devices → Stream → Outcome → Type 0
RunsAdmitted may load task turns site sink (outcome.Untaken why) =
    IsNotTakenUp task.job site sink why
RunsAdmitted may load task turns site sink (outcome.Ran session end answer) =
    IsToldOf may load task turns site sink end answer (session_data session)

-- ---- a report that broke off

-- what is so of a session that wasn't stopped, if there is one
abbrev pub OnUnstopped : Option Session → (SessionData → Type 0) → Type 0
OnUnstopped None P = Unit {0}
OnUnstopped (Some s) P = (session_data s).stopped ≡ None → P (session_data s)

-- the report of a job's session broke off, and tells a count of faults
pub record JobBrokeOff {S : Type 0} (g : Ghosts S) (s : S) (job : JobData)
    (site : Devices) (sink : Stream) (session : SessionData) : Type 0 where
  pub fault : ℕ
  pub broke : ReportBrokeOff g s job site sink session fault

-- that of an admitted run
pub record RunBrokeOff {S : Type 0} (g : Ghosts S) (s : S)
    (asked : Option Command) (input : Stream) (site : Devices) (sink : Stream)
    (session : SessionData) : Type 0 where
  pub run : Admitted
  pub admitted : IsAdmitted asked input run
  pub broke : JobBrokeOff g s run.job site sink session

-- ---- completeness

-- this is the job of a load, or the one that the input tells
abbrev pub AsksJob : Option ℕ → ℕ → Stream → JobData → Type 0
AsksJob (Some programs) order input job = job ≡ load_job order programs
AsksJob None order input job = input.tells × IsJobText input.was job

-- the devices tell content in which the job's configuration finds no fault, and no call fails
pub record NothingFails (job : JobData) (input : Stream) (site : Devices) (sink : Stream)
    : Type 0 where
  pub can_see : site.tells
  pub faultless : IsFaultless job.config (content site.was.told)
  pub input_none : NoneFailed input.faults_was input.faults_now
  pub site_none : NoneFailed site.was.faults site.now.faults
  pub sink_none : NoneFailed sink.faults_was sink.faults_now

-- the words ask for a run, this is its job, and nothing fails
pub record GoesWell (asked : Option Command) (input : Stream) (site : Devices) (sink : Stream)
    (settings : Settings) (job : JobData) : Type 0 where
  pub command : AskToRun asked settings
  pub asks : AsksJob settings.load settings.order input job
  pub fair : NothingFails job input site sink

-- the run did and told all that was asked, or came to the limit of entries, or memory ran out
abbrev pub IsComplete : Status → Type 0
IsComplete status.Done = Unit {0}
IsComplete status.Limit = Unit {0}
IsComplete status.Memory = Unit {0}
IsComplete _ = ⊥
