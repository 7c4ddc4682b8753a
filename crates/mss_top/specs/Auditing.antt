-- What an audit promises.
use Rattle.std.specs.Prelude.{◌≡◌, ◌≢◌, ◌⊎◌, ℕ, List, Option, Some, Result, Ok, Err, IfOk}
use Rattle.mss_base.specs.Content.{Content, content}
use Rattle.mss_base.specs.Counts.{IsFaultSince}
use Rattle.mss_base.specs.declared.site.Site.{Ghosts}
use Rattle.command_words.specs.declared.command.Command.{Command}
use Rattle.command_words.specs.declared.command.Command.TheVariants.{Audit}
use Rattle.report_text.specs.OneLines.{one_line_text}
use Rattle.report_text.specs.declared.one_line.OneLine.{OneLine}
use Rattle.report_text.specs.declared.one_line.OneLine.TheVariants as line
use Rattle.mss_restart.specs.Survey.{NeverFails}
use Rattle.mss_audit.specs.Auditing.{CountsReads}
use Rattle.mss_audit.specs.Findings.{findings}
use Rattle.mss_audit.specs.Texts.{audit_text, unread_text}
use Rattle.mss_audit.specs.declared.finding.AuditFault.{AuditFault}
use Rattle.mss_audit.specs.declared.finding.AuditFault.TheVariants.{Read, Memory}
use Rattle.mss_audit.specs.declared.finding.Finding.{Finding}
use Rattle.core_restart.specs.TakingUp.{NoneFailed}
use Rattle.session_report.specs.Parties.{Stream}
use Rattle.job_runs.specs.Parties.{Devices}
use Rattle.mss_top.specs.Ending.{SaysWhy}
use Rattle.mss_top.specs.Showing.{Put, none_asked}
use Rattle.mss_top.specs.Status.{IsTextPut}
use Rattle.mss_top.specs.declared.status.Status.{Status}
use Rattle.mss_top.specs.declared.status.Status.TheVariants as status

-- the words ask for an audit of so many frames
abbrev pub AskToAudit : Option Command → ℕ → Type 0
AskToAudit asked frames = asked ≡ Some (Audit frames)

-- all that is wrong with a content of so many frames, where no volume is asked for
abbrev pub all_wrong : ℕ → Content → List Finding
all_wrong frames c = findings frames none_asked c

-- ---- an audit, and what is put of it

-- the findings, or why there are none
abbrev pub Answered : Type 0
Answered = Result (List Finding) AuditFault

-- the devices were audited
pub record IsAudit (frames : ℕ) (site : Devices) (answer : Answered) : Type 0 where
  pub list : site.tells
      → IfOk answer (λ listed. listed ≡ all_wrong frames (content site.was.told))
  pub counts : CountsReads site.was.faults site.now.faults answer

abbrev pub answer_text : Answered → List ℕ
answer_text (Ok listed) = audit_text listed
answer_text (Err (Read fault)) = unread_text fault
answer_text (Err Memory) = one_line_text line.WantOfMemory

abbrev pub answer_status : Answered → Status
answer_status (Ok listed) = status.Done
answer_status (Err (Read fault)) = status.Stopped
answer_status (Err Memory) = status.Memory

-- the devices were audited for so many frames, and what came of it was put
pub record Audits (frames : ℕ) (site : Devices) (sink : Stream) (told : Status) : Type 0 where
  pub answer : Answered
  pub audit : IsAudit frames site answer
  pub put : IsTextPut (answer_text answer) (answer_status answer) sink told

-- and the words ask for that
pub record IsAudited (asked : Option Command) (site : Devices) (sink : Stream) (told : Status)
    : Type 0 where
  pub frames : ℕ
  pub command : AskToAudit asked frames
  pub audits : Audits frames site sink told

-- why nothing is audited: the words, or memory ran out before they were read
abbrev pub IsUnaudited : Option Command → Devices → OneLine → Type 0
IsUnaudited asked site line.WordsRefused =
    ((frames : ℕ) → asked ≢ Some (Audit frames)) × (site.now ≡ site.was)
IsUnaudited asked site line.WantOfMemory = site.now ≡ site.was
IsUnaudited asked site _ = ⊥

-- an audit ended: with one line, which says why nothing is audited, or with what came of it
abbrev pub EndsAudit : Option Command → Devices → Stream → Status → Type 0
EndsAudit asked site sink told =
    SaysWhy (IsUnaudited asked site) sink told ⊎ IsAudited asked site sink told

-- an audit ended at a read that failed, of a site of which some call may
pub record AuditBrokeOff {S : Type 0} (g : Ghosts S) (s : S) (site : Devices) (sink : Stream)
    : Type 0 where
  pub fault : ℕ
  pub since : IsFaultSince site.was.faults site.now.faults fault
  pub may_fail : NeverFails g s → ⊥
  pub put : Put sink (unread_text fault)

-- ---- completeness

-- the words ask for an audit, the devices tell their content, and no call fails
pub record AuditsWell (asked : Option Command) (frames : ℕ) (site : Devices) (sink : Stream)
    : Type 0 where
  pub command : AskToAudit asked frames
  pub can_see : site.tells
  pub site_none : NoneFailed site.was.faults site.now.faults
  pub sink_none : NoneFailed sink.faults_was sink.faults_now

-- all that is wrong with a content was put, or memory ran out
abbrev pub IsWrongPut : ℕ → Content → Stream → Status → Type 0
IsWrongPut frames c sink status.Done = Put sink (audit_text (all_wrong frames c))
IsWrongPut frames c sink status.Memory = Unit {0}
IsWrongPut frames c sink _ = ⊥
