-- The slots in use of both copies of a row, and what a change of the row leaves of them.
use Rattle.std.specs.Prelude.{◌≡◌, ◌⊎◌, ◌<◌, ℕ, ◌+◌, true, nat_lt, if◌then◌else◌, List, length, slice_index_or, slice_set}
use Rattle.mss_base.specs.Content.{Content, SiteLog, Settles, content}
use Rattle.mss_base.specs.declared.place.UnitNo.TheVariants.{TableA, TableB}
use Rattle.volume_table.specs.Row.{RowValue}
use Rattle.volume_table.specs.Changes.{IsAllowed, effect}
use Rattle.volume_table.specs.declared.changes.Change.{Change}
use Rattle.mss_base.specs.Geometry.{slot_count, slot_items}
use Rattle.table_pair.specs.declared.copy.SlotsUsed.{SlotsUsed}
use Rattle.table_pair.specs.declared.copy.TableCopy.{TableCopy}
use Rattle.table_pair.specs.declared.copy.TableCopy.TheVariants as copy
use Rattle.table_pair.specs.Copies.{copy_at}
use Rattle.table_pair.specs.Pair.{HoldsRow}

-- so many slots of a volume's copies are in use
pub record HasSlots (used : SlotsUsed) (volume : ℕ) (c : Content) : Type 0 where
  pub a : length (copy_at (c TableA volume)).slots ≡ used.a
  pub b : length (copy_at (c TableB volume)).slots ≡ used.b

abbrev pub no_slots : SlotsUsed
no_slots = record { a = 0; b = 0 }

-- after a copy was rewritten, which leaves it without slots
abbrev pub without_slots : TableCopy → SlotsUsed → SlotsUsed
without_slots copy.A used = record used { a = 0 }
without_slots copy.B used = record used { b = 0 }

-- after a change a copy has one slot more, or none where all were in use
abbrev pub slots_after : ℕ → ℕ
slots_after used = if nat_lt used slot_count then used + 1 else 0

-- how many items of the log a rewriting makes at most: four writes and three syncs
abbrev pub rewriting_items : ℕ
rewriting_items = 7

-- how many a change of a copy makes at most: those of a slot, or of a rewriting where all slots are in use
abbrev pub copy_items : ℕ → ℕ
copy_items used = if nat_lt used slot_count then slot_items else rewriting_items

-- and of both copies
abbrev pub change_items : SlotsUsed → ℕ
change_items used = copy_items used.a + copy_items used.b

abbrev pub used_after : SlotsUsed → SlotsUsed
used_after used = record { a = slots_after used.a; b = slots_after used.b }

-- a volume's row may be changed into this one, and so many slots of its copies are in use
pub record IsDue (volume : ℕ) (change : Change) (row : RowValue) (used : SlotsUsed) (c : Content) : Type 0 where
  pub old : RowValue
  pub holds : HoldsRow old volume c
  pub allowed : IsAllowed change old
  pub becomes : row ≡ effect change old
  pub slots_ : HasSlots used volume c

-- the gate of slot 0 is 00 of a copy that has no slots, where so many are in use, unless its block wasn't written
pub record ClearsWritten (used : SlotsUsed) (volume : ℕ) (old new : Content) : Type 0 where
  pub a : used.a ≡ 0 → (new TableA volume ≡ old TableA volume) ⊎ ((copy_at (new TableA volume)).is_clear ≡ true)
  pub b : used.b ≡ 0 → (new TableB volume ≡ old TableB volume) ⊎ ((copy_at (new TableB volume)).is_clear ≡ true)

-- what a change of a row leaves: both copies hold it, so many of their slots are in use, those that were written without
-- slots are clear of them, and no write of it is loose
pub record IsChanged (row : RowValue) (used : SlotsUsed) (volume : ℕ) (old new : SiteLog) : Type 0 where
  pub holds : HoldsRow row volume (content new)
  pub slots_ : HasSlots used volume (content new)
  pub clear : ClearsWritten used volume (content old) (content new)
  pub firm : Settles old new

-- ---- of all volumes, by number

abbrev pub used_at : List SlotsUsed → ℕ → SlotsUsed
used_at used volume = slice_index_or used volume no_slots

-- after a change of one volume's row
abbrev pub with_used_after : ℕ → List SlotsUsed → List SlotsUsed
with_used_after volume used = slice_set used volume (used_after (used_at used volume))

-- with no slots of one volume in use
abbrev pub with_none_used : ℕ → List SlotsUsed → List SlotsUsed
with_none_used volume used = slice_set used volume no_slots

-- so many slots of the copies of each volume are in use
abbrev pub AreUsed : List SlotsUsed → Content → Type 0
AreUsed used c = (volume : ℕ) → volume < 32 → HasSlots (used_at used volume) volume c
