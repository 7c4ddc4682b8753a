-- What an audit leaves of a site, when it lists nothing, and what a survey has in common with it.
use Rattle.std.specs.Prelude.{◌≡◌, ℕ, List, Option, Some, None, Result, Ok, Err}
use Rattle.mss_base.specs.Counts.{IsFaultSince}
use Rattle.mss_base.specs.Sites.{OnlyReads}
use Rattle.mss_base.specs.declared.site.Site.{Ghosts}
use Rattle.volume_table.specs.Row.{RowValue}
use Rattle.shown_volumes.specs.declared.refused.Refused.{Refused}
use Rattle.shown_volumes.specs.declared.refused.Refused.TheVariants as refused
use Rattle.mss_restart.specs.Survey.{NeverFails}
use Rattle.mss_audit.specs.declared.finding.Finding.{Finding}
use Rattle.mss_audit.specs.declared.finding.AuditFault.{AuditFault}
use Rattle.mss_audit.specs.declared.finding.AuditFault.TheVariants.{Read, Memory}
use Rattle.mss_audit.specs.Findings.{first_refusal}

-- a failed read keeps the count of faults behind it, which rose; else the count stayed
abbrev pub CountsFault : ℕ → ℕ → AuditFault → Type 0
CountsFault before now (Read fault) = IsFaultSince before now fault
CountsFault before now Memory = now ≡ before

abbrev pub CountsReads : {T : Type 0} → ℕ → ℕ → Result T AuditFault → Type 0
CountsReads before now (Ok value) = now ≡ before
CountsReads before now (Err e) = CountsFault before now e

-- no failed read was answered
abbrev pub IsNoRead : AuditFault → Type 0
IsNoRead (Read fault) = ⊥
IsNoRead Memory = Unit {0}

abbrev pub TellsNoRead : {T : Type 0} → Result T AuditFault → Type 0
TellsNoRead (Ok value) = Unit {0}
TellsNoRead (Err e) = IsNoRead e

-- the site was read, and only a failed read or want of memory ends that
pub record Inspects {S T : Type 0} (g : Ghosts S) (old new : S) (result : Result T AuditFault) : Type 0 where
  pub devices : OnlyReads g old new
  pub counts : CountsReads (g.faults old) (g.faults new) result
  pub works : NeverFails g old → TellsNoRead result

-- a survey without a failed read told rows, where no finding is a refusal, or the first refusal, or memory ran out
abbrev pub TellsFirst : List Finding → Result (List (Option RowValue)) Refused → Type 0
TellsFirst findings (Ok rows) = first_refusal findings ≡ None
TellsFirst findings (Err (refused.RowUnread volume fault)) = ⊥
TellsFirst findings (Err (refused.Stopped fault)) = ⊥
TellsFirst findings (Err refused.Memory) = Unit {0}
TellsFirst findings (Err e) = first_refusal findings ≡ Some e
