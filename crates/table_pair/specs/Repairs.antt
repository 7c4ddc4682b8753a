-- When copies need no repair, which one is to be rewritten, and what a failed repair keeps.
use Rattle.std.specs.Prelude.{◌≡◌, ◌≢◌, ◌⊎◌, ◌≤◌, ℕ, false, ◌||◌, length, Option, Some, None, Result, Ok, Err}
use Rattle.mss_base.specs.Content.{Content, SiteLog, Settles, content}
use Rattle.mss_base.specs.declared.place.UnitNo.TheVariants.{TableA, TableB}
use Rattle.volume_table.specs.Row.{RowValue}
use Rattle.volume_table.specs.Grammar.{is_old}
use Rattle.table_pair.specs.declared.copy.TableCopy.{TableCopy}
use Rattle.table_pair.specs.declared.repairs.Stale.{Stale}
use Rattle.table_pair.specs.declared.repairs.Found.{Found}
use Rattle.table_pair.specs.declared.copy.TableCopy.TheVariants as copy
use Rattle.table_pair.specs.Copies.{CopyView, copy_at, HasGates}
use Rattle.table_pair.specs.Pair.{row_of, row_of_copies, known, IsOpenWith, HoldsRow}
use Rattle.table_pair.specs.declared.copy.SlotsUsed.{SlotsUsed}
use Rattle.table_pair.specs.declared.copy.Repaired.{Repaired}
use Rattle.table_pair.specs.Migrating.{AreNew}
use Rattle.table_pair.specs.Slots.{HasSlots, ClearsWritten, without_slots}
use Rattle.mss_base.specs.Counts.{IsFaultSince}
use Rattle.mss_base.specs.Sound.{StaysSound}
use Rattle.mss_base.specs.declared.site.Site.{Ghosts}
use Rattle.table_pair.specs.declared.copy.RepairFault.{RepairFault}
use Rattle.table_pair.specs.declared.copy.RepairFault.TheVariants.{Failed, Memory}

-- both copies are open with the same row
abbrev pub HoldSame : CopyView → CopyView → Type 0
HoldSame a b = (row : RowValue) × IsOpenWith row a × IsOpenWith row b

-- there is no row to follow, or both copies hold it
abbrev pub NeedNoRepair : CopyView → CopyView → Type 0
NeedNoRepair a b = ((row : RowValue) → row_of_copies a b ≢ known (Some row) false) ⊎ HoldSame a b

-- copies with the same body and the same slots in use
pub record AreAlike (a b : CopyView) : Type 0 where
  pub body : a.spelled ≡ b.spelled
  pub slots_ : a.slots ≡ b.slots

abbrev pub NeedsNoRepair : ℕ → Content → Type 0
NeedsNoRepair volume c = NeedNoRepair (copy_at (c TableA volume)) (copy_at (c TableB volume))

-- the row that an open copy tells, if any
abbrev pub TellsRow : Option RowValue → CopyView → Type 0
TellsRow None c = (row : RowValue) → IsOpenWith row c → ⊥
TellsRow (Some row) c = IsOpenWith row c

-- a copy hasn't the row which the other one tells: copy A is followed where it is open
abbrev pub IsBehind : TableCopy → RowValue → CopyView → CopyView → Type 0
IsBehind copy.A row a b = (a.is_open ≡ false) × IsOpenWith row b
IsBehind copy.B row a b = (HoldSame a b → ⊥) × IsOpenWith row a

abbrev pub one_of : TableCopy → CopyView → CopyView → CopyView
one_of copy.A a b = a
one_of copy.B a b = b

-- what is to be rewritten: a copy that is behind, with the gates that it has
pub record IsStale (stale : Stale) (a b : CopyView) : Type 0 where
  pub behind : IsBehind stale.copy stale.row a b
  pub gates : HasGates stale.gates (one_of stale.copy a b)

-- what is to be repaired, if anything
abbrev pub MayBeStale : Option Stale → CopyView → CopyView → Type 0
MayBeStale None a b = NeedNoRepair a b
MayBeStale (Some stale) a b = IsStale stale a b

abbrev pub IsStaleOn : Stale → ℕ → Content → Type 0
IsStaleOn stale volume c = IsStale stale (copy_at (c TableA volume)) (copy_at (c TableB volume))

-- what two copies are found to be: what is to be repaired, if anything, how many of their slots are in use, and
-- whether one of them is of version 1
pub record IsFound (found : Found) (a b : CopyView) : Type 0 where
  pub stale : MayBeStale found.stale a b
  pub used_a : length a.slots ≡ found.used.a
  pub used_b : length b.slots ≡ found.used.b
  pub age : found.is_old ≡ (is_old a.spelled || is_old b.spelled)

abbrev pub IsFoundOn : Found → ℕ → Content → Type 0
IsFoundOn found volume c = IsFound found (copy_at (c TableA volume)) (copy_at (c TableB volume))

-- the row stays
abbrev pub KeepsRow : ℕ → Content → Content → Type 0
KeepsRow volume old new = row_of new volume ≡ row_of old volume

-- no copy gets a made mark, and none loses its
pub record KeepsMarks (volume : ℕ) (old new : Content) : Type 0 where
  pub a : (copy_at (new TableA volume)).is_made ≡ (copy_at (old TableA volume)).is_made
  pub b : (copy_at (new TableB volume)).is_made ≡ (copy_at (old TableB volume)).is_made

-- a copy has no slots any more, and the other one those that it had
abbrev pub LosesSlots : TableCopy → ℕ → Content → Content → Type 0
LosesSlots which volume old new = (used : SlotsUsed) → HasSlots used volume old → HasSlots (without_slots which used) volume new

-- the row that was told, if any, stands in both copies
abbrev pub HoldsToldRow : ℕ → Content → Content → Type 0
HoldsToldRow volume old new = (row : RowValue) → row_of old volume ≡ known (Some row) false → HoldsRow row volume new

-- what a repair leaves that was done: the row that was told, if any, stands in both copies, firm; so many of their slots
-- are in use, they need no repair, and both are of version 2, unless one may not be. The gate of slot 0 of a copy that
-- was written is 00
pub record RepairsCopies (repaired : Repaired) (volume : ℕ) (old new : SiteLog) : Type 0 where
  pub held : HoldsToldRow volume (content old) (content new)
  pub slots_ : HasSlots repaired.used volume (content new)
  pub are_new : repaired.is_old ≡ false → AreNew volume (content new)
  pub settled : NeedsNoRepair volume (content new)
  pub clear : ClearsWritten repaired.used volume (content old) (content new)
  pub firm : Settles old new

-- a failed call is told with the count of faults behind it, which rose in the call. Elsewhere no call failed
abbrev pub KeepsRepairFault : {T : Type 0} → ℕ → ℕ → Result T RepairFault → Type 0
KeepsRepairFault before now (Ok value) = now ≡ before
KeepsRepairFault before now (Err (Failed fault)) = IsFaultSince before now fault
KeepsRepairFault before now (Err Memory) = now ≡ before

-- no call failed
abbrev pub FailsNever : {T : Type 0} → Result T RepairFault → Type 0
FailsNever (Err (Failed fault)) = ⊥
FailsNever _ = Unit {0}

-- a site that was read at most. It may have got room.
pub record GotRoom {S : Type 0} (g : Ghosts S) (old new : S) : Type 0 where
  pub log : g.tells → g.told new ≡ g.told old
  pub room : g.spare old ≤ g.spare new
  pub unwritten : g.writes new ≡ g.writes old
  pub later : g.faults old ≤ g.faults new
  pub sound : StaysSound g.never_fails_but old new

-- a site that was neither read nor written. It may have got room.
pub record LeavesSite {S : Type 0} (g : Ghosts S) (old new : S) : Type 0 where
  pub log : g.tells → g.told new ≡ g.told old
  pub room : g.spare old ≤ g.spare new
  pub unwritten : g.writes new ≡ g.writes old
  pub unfailed : g.faults new ≡ g.faults old
