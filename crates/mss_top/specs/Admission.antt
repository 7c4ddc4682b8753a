-- Which run is admitted: what the words ask for, the job, and the turns that are drawn.
use Rattle.std.specs.Prelude.{◌≡◌, ◌≢◌, ◌⊎◌, ◌≤◌, ◌+◌, ℕ, List, drop, length, Option, Some, None}
use Rattle.std.specs.Prelude.{IfSome, Result, Ok, Err}
use Rattle.std.specs.Option.{option_map}
use Rattle.mss_base.specs.Counts.{Rises}
use Rattle.job_text.specs.declared.kind.JobKind.{JobKind}
use Rattle.job_text.specs.Grammar.{job_of}
use Rattle.job_text.specs.Jobs.{JobData}
use Rattle.command_words.specs.declared.command.Command.{Command}
use Rattle.command_words.specs.declared.command.Command.TheVariants.{Serial}
use Rattle.command_words.specs.declared.command.CopyAsked.{CopyAsked}
use Rattle.draws.specs.Draws.{schedule}
use Rattle.draws.specs.Load.{load_job}
use Rattle.report_text.specs.declared.one_line.OneLine.{OneLine}
use Rattle.report_text.specs.declared.one_line.OneLine.TheVariants as line
use Rattle.session_report.specs.Parties.{Stream, IsUntouched}
use Rattle.volume_copy.specs.Copies.{AskedCopy}
use Rattle.job_runs.specs.Copies.{JobAsked}
use Rattle.mss_top.specs.declared.admission.Admitted.{Admitted}
use Rattle.mss_top.specs.declared.admission.Settings.{Settings}

-- ---- what the words ask for

-- the command with these settings
abbrev pub command_of : Settings → Command
command_of s = Serial s.order s.turns s.load s.copy

-- the words ask for a run with these settings
abbrev pub AskToRun : Option Command → Settings → Type 0
AskToRun asked settings = asked ≡ Some (command_of settings)

-- the copy that they ask for, of a volume behind so many entries
abbrev pub copy_asked : Option CopyAsked → Option AskedCopy
copy_asked copy = option_map (λ c. record { volume = c.volume; after_ = c.after }) copy

-- a job, and that copy beside it
abbrev pub task_of : JobData → Option CopyAsked → JobAsked
task_of job copy = record { job = job; copy = copy_asked copy }

-- they ask for this, or are refused by this line; of want of memory nothing is said
abbrev pub Asks : Option Command → Result Command OneLine → Type 0
Asks asked (Ok command) = asked ≡ Some command
Asks asked (Err line.WordsRefused) = asked ≡ None
Asks asked (Err line.WantOfMemory) = Unit {0}
Asks asked (Err _) = ⊥

-- they ask for none
abbrev pub AskForNoRun : Option Command → Type 0
AskForNoRun asked = (settings : Settings) → asked ≢ Some (command_of settings)

-- a load has 1 to 1,000 programs
abbrev pub IsLoad : Option ℕ → Type 0
IsLoad load = IfSome load (λ programs. (1 ≤ programs) × (programs ≤ 1000))

-- ---- the job of the input

-- the text is this job
abbrev pub IsJobText : List ℕ → JobData → Type 0
IsJobText text job = job_of text ≡ Ok job

-- the text is no job: this is its first bad line, with the first kind that applies
abbrev pub IsBadText : List ℕ → ℕ → JobKind → Type 0
IsBadText text n kind = job_of text ≡ Err (record { line = n; kind = kind })

-- the text's job, or the line that refuses the text; of want of memory nothing is said
abbrev pub IsTaken : List ℕ → Result JobData OneLine → Type 0
IsTaken text (Ok job) = IsJobText text job
IsTaken text (Err (line.JobRefused n kind)) = IsBadText text n kind
IsTaken text (Err line.WantOfMemory) = Unit {0}
IsTaken text (Err _) = ⊥

-- the input is read to its end, or to one byte past the longest job text
abbrev pub READ_LIMIT : ℕ
READ_LIMIT = 4194305

-- so much of the input was read, and no take failed
pub record IsRead (input : Stream) : Type 0 where
  pub rest : input.tells → input.now ≡ drop READ_LIMIT input.was
  pub none_failed : input.faults_now ≡ input.faults_was

-- the input was read, and its text is so
pub record Reads (input : Stream) (IsText : List ℕ → Type 0) : Type 0 where
  pub text_ : input.tells → IsText input.was
  pub read : IsRead input

-- why the input gives no job: a fault of its own, or its text; of want of memory nothing is said
abbrev pub IsNoJob : Stream → OneLine → Type 0
IsNoJob input line.InputFault = Rises input.faults_was input.faults_now
IsNoJob input (line.JobRefused n kind) = Reads input (λ text. IsBadText text n kind)
IsNoJob input line.WantOfMemory = Unit {0}
IsNoJob input _ = ⊥

-- the job of the input's text, or the line that says why there is none
abbrev pub TakesText : Stream → Result JobData OneLine → Type 0
TakesText input (Ok job) = Reads input (λ text. IsJobText text job)
TakesText input (Err said) = IsNoJob input said

-- ---- the job

-- the job of a load, for which the input isn't read, or that of the input
abbrev pub IsJobOf : Option ℕ → ℕ → Stream → JobData → Type 0
IsJobOf (Some programs) order input job = (job ≡ load_job order programs) × IsUntouched input
IsJobOf None order input job = Reads input (λ text. IsJobText text job)

-- why there is no job; a load wants nothing but memory, and the input isn't read for it
abbrev pub IsJobless : Option ℕ → Stream → OneLine → Type 0
IsJobless (Some programs) input said = (said ≡ line.WantOfMemory) × IsUntouched input
IsJobless None input said = IsNoJob input said

abbrev pub GivesJob : Option ℕ → ℕ → Stream → Result JobData OneLine → Type 0
GivesJob load order input (Ok job) = IsJobOf load order input job
GivesJob load order input (Err said) = IsJobless load input said

-- ---- the turns

-- the hosts of a job come first, and then its recorders
abbrev pub actors : JobData → ℕ
actors job = length job.hosts + job.config.recorders

-- the turns that the settings draw
abbrev pub IsDrawn : Settings → JobData → List ℕ → Type 0
IsDrawn settings job turns = turns ≡ schedule settings.order settings.turns (actors job)

-- ---- the run

-- the run is admitted
pub record IsAdmitted (asked : Option Command) (input : Stream) (run : Admitted) : Type 0 where
  pub command : AskToRun asked run.settings
  pub job_ : IsJobOf run.settings.load run.settings.order input run.job
  pub drawn : IsDrawn run.settings run.job run.turns.items

-- the words ask for a run that has no job
pub record AskInVain (asked : Option Command) (input : Stream) (said : OneLine) : Type 0 where
  pub settings : Settings
  pub command : AskToRun asked settings
  pub jobless : IsJobless settings.load input said

-- the words ask for a run of the job that the input has
pub record AskForInput (asked : Option Command) : Type 0 where
  pub settings : Settings
  pub command : AskToRun asked settings
  pub unloaded : settings.load ≡ None

-- Why no run is admitted: the words, or the job. Of want of memory no cause is said, but that the
-- input is untouched, unless the words ask for its job.
abbrev pub IsUnread : Option Command → Stream → OneLine → Type 0
IsUnread asked input line.WordsRefused = AskForNoRun asked × IsUntouched input
IsUnread asked input line.WantOfMemory = IsUntouched input ⊎ AskForInput asked
IsUnread asked input said = AskInVain asked input said

-- a run is admitted, or the line says why not
abbrev pub Admits : Option Command → Stream → Result Admitted OneLine → Type 0
Admits asked input (Ok run) = IsAdmitted asked input run
Admits asked input (Err said) = IsUnread asked input said
