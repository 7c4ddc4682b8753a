-- What doing as the words ask promises, whatever they ask for.
use Rattle.std.specs.Prelude.{◌≡◌, ◌⊎◌, List, Option, Some, None}
use Rattle.mss_base.specs.Content.{content}
use Rattle.mss_base.specs.declared.site.Site.{Ghosts}
use Rattle.command_words.specs.declared.command.Command.{Command}
use Rattle.command_words.specs.declared.command.Command.TheVariants.{Serial, Policy, Threads}
use Rattle.command_words.specs.declared.command.Command.TheVariants.{Show, Audit, Compare}
use Rattle.job_text.specs.Jobs.{JobData}
use Rattle.report_text.specs.declared.one_line.OneLine.{OneLine}
use Rattle.report_text.specs.declared.one_line.OneLine.TheVariants as line
use Rattle.core_state.specs.declared.session.Session.{Session}
use Rattle.mss_run.specs.Runs.{EndData}
use Rattle.session_report.specs.Parties.{Stream, IsUntouched}
use Rattle.job_runs.specs.Parties.{Devices}
use Rattle.mss_top.specs.Auditing.{AuditBrokeOff, AuditsWell, EndsAudit, IsWrongPut}
use Rattle.mss_top.specs.Comparing.{ComparesWell, IsCompared}
use Rattle.mss_top.specs.Ending.{SaysWhy}
use Rattle.mss_top.specs.Serial.{Chooses, EndsCommand, GoesWell, IsComplete, OnUnstopped, RunBrokeOff}
use Rattle.mss_top.specs.Showing.{EndsShown, IsShown, LookBrokeOff, LooksWell}
use Rattle.mss_top.specs.Threads.{EndsThreads, GoesWellAtOnce, ThreadsBrokeOff}
use Rattle.mss_top.specs.declared.admission.Settings.{Settings}
use Rattle.mss_top.specs.declared.status.Status.{Status}
use Rattle.victim_rules.specs.Rules.{RulesMay}

-- the parties of a call: input, devices and output, each from before it to behind it
pub record Parties : Type 1 where
  pub input : Stream
  pub site : Devices
  pub sink : Stream

abbrev pub parties : Stream → Devices → Stream → Parties
parties input site sink = record { input = input; site = site; sink = sink }

-- the line of words that ask for nothing, or that memory ran out
abbrev pub IsRefusalLine : OneLine → Type 0
IsRefusalLine said = (said ≡ line.WordsRefused) ⊎ (said ≡ line.WantOfMemory)

-- one line refuses the words, and that is all that is done
pub record IsRefusal (p : Parties) (told : Status) (session : Option Session) : Type 0 where
  pub says : SaysWhy IsRefusalLine p.sink told
  pub unread : IsUntouched p.input
  pub devices_ : p.site.now ≡ p.site.was
  pub none : session ≡ None

-- What the words ask for is done: a look, an audit, a run in threads, a comparison or a run; or they
-- are refused. A run by rules is what `serial` promises with these settings, where the rules choose.
-- `other` is what the closure may answer by which a comparison chooses last.
abbrev pub Does : Option Command → Chooses → Chooses → Parties → Status → Option Session → Type 0
Does None may other p told session = IsRefusal p told session
Does (Some Show) may other p told session = EndsShown (Some Show) p.site p.sink told
Does (Some (Audit frames)) may other p told session =
    EndsAudit (Some (Audit frames)) p.site p.sink told
Does (Some Compare) may other p told session =
    IsCompared (Some Compare) other p.input p.sink told
    × (p.site.now ≡ p.site.was) × (session ≡ None)
Does (Some (Threads copy)) may other p told session = (hosts : List EndData)
    × EndsThreads (Some (Threads copy)) p.input p.site p.sink told hosts session
Does (Some (Serial order turns load copy)) may other p told session =
    EndsCommand (Some (Serial order turns load copy)) may p.input p.site p.sink told session
Does (Some (Policy rules order turns load copy)) may other p told session =
    EndsCommand (Some (Serial order turns load copy)) (RulesMay rules) p.input p.site p.sink told session

-- and what is answered where nothing fails
abbrev pub IsWhole : Option Command → Parties → Status → Type 0
IsWhole None p told = Unit {0}
IsWhole (Some Show) p told =
    LooksWell (Some Show) p.site p.sink → IsShown (content p.site.was.told) p.sink told
IsWhole (Some (Audit frames)) p told = AuditsWell (Some (Audit frames)) frames p.site p.sink
    → IsWrongPut frames (content p.site.was.told) p.sink told
IsWhole (Some Compare) p told =
    (job : JobData) → ComparesWell (Some Compare) p.input p.sink job → IsComplete told
IsWhole (Some (Threads copy)) p told = (job : JobData)
    → GoesWellAtOnce (Some (Threads copy)) p.input p.site p.sink job → IsComplete told
IsWhole (Some (Serial order turns load copy)) p told = (settings : Settings) (job : JobData)
    → GoesWell (Some (Serial order turns load copy)) p.input p.site p.sink settings job
    → IsComplete told
IsWhole (Some (Policy rules order turns load copy)) p told = (settings : Settings) (job : JobData)
    → GoesWell (Some (Serial order turns load copy)) p.input p.site p.sink settings job
    → IsComplete told

-- What was put broke off before a track of which a read may fail, or an audit at such a read; of
-- words that are refused none is, nor of a comparison.
abbrev pub OutputBrokeOff : {S : Type 0} → Ghosts S → S → Option Command → Parties → Option Session
    → Type 0
OutputBrokeOff g s None p session = ⊥
OutputBrokeOff g s (Some Show) p session = LookBrokeOff g s p.site p.sink
OutputBrokeOff g s (Some (Audit frames)) p session = AuditBrokeOff g s p.site p.sink
OutputBrokeOff g s (Some Compare) p session = ⊥
OutputBrokeOff g s (Some (Threads copy)) p session =
    OnUnstopped session (ThreadsBrokeOff g s (Some (Threads copy)) p.input p.site p.sink)
OutputBrokeOff g s (Some (Serial order turns load copy)) p session = OnUnstopped session
    (RunBrokeOff g s (Some (Serial order turns load copy)) p.input p.site p.sink)
OutputBrokeOff g s (Some (Policy rules order turns load copy)) p session = OnUnstopped session
    (RunBrokeOff g s (Some (Serial order turns load copy)) p.input p.site p.sink)
