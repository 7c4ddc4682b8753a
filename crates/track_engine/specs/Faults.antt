-- What a command that is done, or isn't, leaves of the devices.
use Rattle.std.specs.Prelude.{◌≡◌, ◌≤◌, ◌+◌, ℕ, Bool, false, length, IsTrue, Result, OnOk, IfErr}
use Rattle.mss_base.specs.Content.{SiteLog}
use Rattle.mss_base.specs.Counts.{Rises, IsFaultSince}
use Rattle.mss_base.specs.Sites.{OnlyReads, MayWrite}
use Rattle.mss_base.specs.declared.place.UnitNo.{UnitNo}
use Rattle.mss_base.specs.declared.site.Site.{Ghosts}
use Rattle.channel_commands.specs.Data.{ReplyData, done}
use Rattle.ckd_plain.specs.declared.done.DoneCommand.{DoneCommand}
use Rattle.ckd_plain.specs.Plain.{UNIT_CHECK}
use Rattle.track_engine.specs.declared.place.EngineFault.{EngineFault}
use Rattle.track_engine.specs.declared.place.EngineFault.TheVariants.{ReadFailed, WriteFailed, Memory}
use Rattle.track_engine.specs.declared.place.NotDone.{NotDone}
use Rattle.track_engine.specs.declared.place.NotDone.TheVariants.{Refused, Fault}

-- ---- no device failed

abbrev pub IsNoFailure : EngineFault → Type 0
IsNoFailure (ReadFailed fault) = ⊥
IsNoFailure (WriteFailed fault) = ⊥
IsNoFailure Memory = Unit {0}

abbrev pub HasNotFailed : NotDone → Type 0
HasNotFailed (Fault fault) = IsNoFailure fault
HasNotFailed (Refused refusal) = Unit {0}

abbrev pub IsNoFailedWrite : EngineFault → Type 0
IsNoFailedWrite (WriteFailed fault) = ⊥
IsNoFailedWrite _ = Unit {0}

abbrev pub HasNoFailedWrite : NotDone → Type 0
HasNoFailedWrite (Fault fault) = IsNoFailedWrite fault
HasNoFailedWrite (Refused refusal) = Unit {0}

-- ---- searches and reads

-- a read failed, and its fault is the count now
abbrev pub IsFailedRead : ℕ → EngineFault → Type 0
IsFailedRead now (ReadFailed fault) = fault ≡ now
IsFailedRead now _ = ⊥

-- what keeps a search or a read from being done: a failed read, whose fault is the count now; a refusal or want of
-- memory leave the count
abbrev pub IsReadFault : ℕ → ℕ → NotDone → Type 0
IsReadFault before now (Fault (ReadFailed fault)) = IsFaultSince before now fault
IsReadFault before now (Fault (WriteFailed fault)) = ⊥
IsReadFault before now (Fault Memory) = now ≡ before
IsReadFault before now (Refused refusal) = now ≡ before

-- the count of faults rises where a read failed, and stays else
pub record HasReadCause {X : Type 0} (before now : ℕ) (result : Result X NotDone) : Type 0 where
  pub same : OnOk result (now ≡ before)
  pub failed : IfErr result (IsReadFault before now)

-- What a search or a read leaves of its devices, whatever the site tells: it reads at most. The count of faults rises
-- where a read failed, which the fault tells; where none on this unit may fail, none keeps it from being done.
pub record ReadsDevices {S X : Type 0} (g : Ghosts S) (unit : UnitNo) (old new : S) (result : Result X NotDone)
    : Type 0 where
  pub reads : OnlyReads g old new
  pub cause : HasReadCause (g.faults old) (g.faults new) result
  pub works : (but : UnitNo → Bool) → g.never_fails_but old but → but unit ≡ false → IfErr result HasNotFailed

-- ---- writes

-- a site that was read at most, of which no call failed
pub record Untroubled {S : Type 0} (g : Ghosts S) (old new : S) : Type 0 where
  pub reads : OnlyReads g old new
  pub same : g.faults new ≡ g.faults old

-- a site that was read at most, and whose last read failed
pub record HasReadFault {S : Type 0} (g : Ghosts S) (old new : S) (fault : ℕ) : Type 0 where
  pub reads : OnlyReads g old new
  pub cause : IsFaultSince (g.faults old) (g.faults new) fault

-- a write was made and failed, and the command is one
pub record HasWriteFault {S : Type 0} (g : Ghosts S) (by_write : Bool) (old new : S) (fault : ℕ) : Type 0 where
  pub asked : IsTrue by_write
  pub wrote : Rises (g.writes old) (g.writes new)
  pub cause : IsFaultSince (g.faults old) (g.faults new) fault

-- why a command gave no reply, and the site then: only a failed write may have written
abbrev pub FailsBy : {S : Type 0} → Ghosts S → Bool → S → S → EngineFault → Type 0
FailsBy g by_write old new (ReadFailed fault) = HasReadFault g old new fault
FailsBy g by_write old new (WriteFailed fault) = HasWriteFault g by_write old new fault
FailsBy g by_write old new Memory = Untroubled g old new

-- why a command isn't done, and the site then
abbrev pub IsUndone : {S : Type 0} → Ghosts S → Bool → S → S → NotDone → Type 0
IsUndone g by_write old new (Refused refusal) = Untroubled g old new
IsUndone g by_write old new (Fault fault) = FailsBy g by_write old new fault

-- What a command leaves of its devices, done or not, whatever the site tells: it makes so many items of the log at
-- most, and one that is no write reads at most. The count of faults rises where a call failed, and the fault says
-- which; where none on this unit may fail, none did, and where only reads may, no write failed.
pub record UsesDevices {S : Type 0} (g : Ghosts S) (most : ℕ) (by_write : Bool) (unit : UnitNo) (old new : S)
    (result : Result DoneCommand NotDone) : Type 0 where
  pub devices : MayWrite g most old new
  pub few : g.tells → length (g.told new).log ≤ length (g.told old).log + most
  pub looks : by_write ≡ false → OnlyReads g old new
  pub same : OnOk result (g.faults new ≡ g.faults old)
  pub undone : IfErr result (IsUndone g by_write old new)
  pub works : (but : UnitNo → Bool) → g.never_fails_but old but → but unit ≡ false → IfErr result HasNotFailed
  pub only_reads_fail : (but : UnitNo → Bool) → g.never_fails_but old but → IfErr result HasNoFailedWrite

-- the reply has unit check
abbrev pub HasUnitCheck : ReplyData → Type 0
HasUnitCheck (done status bytes) = status ≡ UNIT_CHECK
HasUnitCheck _ = ⊥

-- ---- logs

-- only a failed write has written
abbrev pub LeavesSite : SiteLog → SiteLog → EngineFault → Type 0
LeavesSite old new (WriteFailed fault) = Unit {0}
LeavesSite old new _ = new ≡ old

-- the log of a command that isn't done
abbrev pub LeavesLog : SiteLog → SiteLog → NotDone → Type 0
LeavesLog old new (Refused refusal) = new ≡ old
LeavesLog old new (Fault fault) = LeavesSite old new fault
