-- The row of a volume, which stands in two copies.
use Rattle.std.specs.Prelude.{◌≡◌, ◌⊎◌, ℕ, Bool, true, false, ◌&&◌, ◌==◌, if◌then◌else◌, slice_index, Option, Some, None, Result, Ok, Err}
use Rattle.mss_base.specs.Content.{Content}
use Rattle.mss_base.specs.declared.place.UnitNo.{UnitNo}
use Rattle.mss_base.specs.declared.place.UnitNo.TheVariants.{TableA, TableB}
use Rattle.volume_table.specs.Row.{RowValue}
use Rattle.volume_table.specs.Slots.{told_by}
use Rattle.volume_table.specs.declared.fault.RowFault.{RowFault}
use Rattle.table_pair.specs.declared.copy.TableCopy.{TableCopy}
use Rattle.table_pair.specs.declared.copy.TableCopy.TheVariants as copy
use Rattle.mss_base.specs.Geometry.{made_mark_at, made_mark}
use Rattle.table_pair.specs.Copies.{CopyView, copy_at}

-- what a read of a copy tells: nothing; that it is closed, and whether its volume was ever created; its row, or no row
pub data CopyRead : Type 0 where
  unread : CopyRead
  closed : Bool → CopyRead
  opened : Result RowValue RowFault → CopyRead

-- the row of a copy's body after the changes of its slots, or the first of its fields or slots at fault
abbrev pub row_told : CopyView → Result RowValue RowFault
row_told c = told_by c.spelled c.slots

abbrev pub read_of : CopyView → CopyRead
read_of c = if c.is_open then opened (row_told c) else closed c.is_made

-- what is known of a row: that there is this one or none, and whether a copy was missing; that a copy is damaged; nothing
pub data RowReading : Type 0 where
  known : Option RowValue → Bool → RowReading
  damaged : TableCopy → RowFault → RowReading
  unknown : RowReading

abbrev pub copy_reading : TableCopy → Bool → Result RowValue RowFault → RowReading
copy_reading c missing (Ok row) = known (Some row) missing
copy_reading c missing (Err fault) = damaged c fault

-- the reading table: copy A counts where it is open, else an open copy B; a closed copy that was never made tells that
-- there is no row
abbrev pub reading : CopyRead → CopyRead → RowReading
reading (opened row) b = copy_reading copy.A false row
reading (closed made) (opened row) = copy_reading copy.B false row
reading (closed made) (closed other) = known None false
reading (closed false) unread = known None true
reading (closed true) unread = unknown
reading unread (opened row) = copy_reading copy.B true row
reading unread (closed false) = known None true
reading unread (closed true) = unknown
reading unread unread = unknown

-- the row of a volume is what its two copies tell
abbrev pub row_of_copies : CopyView → CopyView → RowReading
row_of_copies a b = reading (read_of a) (read_of b)

abbrev pub row_of : Content → ℕ → RowReading
row_of c volume = row_of_copies (copy_at (c TableA volume)) (copy_at (c TableB volume))

-- a copy is open with a row
pub record IsOpenWith (row : RowValue) (c : CopyView) : Type 0 where
  pub open_gate : c.is_open ≡ true
  pub row_is : row_told c ≡ Ok row

-- both copies are open with this row
pub record HoldsRow (row : RowValue) (volume : ℕ) (c : Content) : Type 0 where
  pub a : IsOpenWith row (copy_at (c TableA volume))
  pub b : IsOpenWith row (copy_at (c TableB volume))

-- both copies are closed
pub record AreClosed (volume : ℕ) (c : Content) : Type 0 where
  pub a : (copy_at (c TableA volume)).is_open ≡ false
  pub b : (copy_at (c TableB volume)).is_open ≡ false

-- both copies have their made mark
pub record AreMade (volume : ℕ) (c : Content) : Type 0 where
  pub a : (copy_at (c TableA volume)).is_made ≡ true
  pub b : (copy_at (c TableB volume)).is_made ≡ true

-- both copies have their made mark, and where one had none, it has the byte that stands for one
pub record AreMarked (volume : ℕ) (old new : Content) : Type 0 where
  pub made : AreMade volume new
  pub a : slice_index (old TableA volume) made_mark_at ≡ 0 → slice_index (new TableA volume) made_mark_at ≡ made_mark
  pub b : slice_index (old TableB volume) made_mark_at ≡ 0 → slice_index (new TableB volume) made_mark_at ≡ made_mark

abbrev pub is_table : UnitNo → Bool
is_table TableA = true
is_table TableB = true
is_table _ = false

-- of a copy that was written, a made mark stays
pub record StaysCopy (old new : CopyView) : Type 0 where
  pub made : old.is_made ≡ true → new.is_made ≡ true

-- only the two blocks of a volume's row differ, their made marks stay, and P holds
pub record ChangesRow (volume : ℕ) (P : Content → Type 0) (old new : Content) : Type 0 where
  pub others : (unit : UnitNo) (block : ℕ) → (is_table unit && (volume == block)) ≡ false → new unit block ≡ old unit block
  pub a : StaysCopy (copy_at (old TableA volume)) (copy_at (new TableA volume))
  pub b : StaysCopy (copy_at (old TableB volume)) (copy_at (new TableB volume))
  pub here : P new

-- what a stop within a change leaves: the old row, or the new one
abbrev pub OldOrNew : ℕ → RowValue → Content → Content → Type 0
OldOrNew volume row old new = (row_of new volume ≡ row_of old volume) ⊎ (row_of new volume ≡ known (Some row) false)

-- what a stop within a creation leaves: no row, or the new one in copies that are both made
abbrev pub NoneOrNew : ℕ → RowValue → Content → Type 0
NoneOrNew volume row new = (row_of new volume ≡ known None false) ⊎ ((row_of new volume ≡ known (Some row) false) × AreMade volume new)
