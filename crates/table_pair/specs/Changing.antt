-- One copy of a row, while the row is changed.
use Rattle.std.specs.Prelude.{◌≡◌, ◌⊎◌, ◌<◌, ℕ, true, false, length, Result, OnOk}
use Rattle.mss_base.specs.Content.{SiteLog, Settles}
use Rattle.mss_base.specs.declared.place.BlockPlace.{BlockPlace}
use Rattle.volume_table.specs.Row.{RowValue}
use Rattle.volume_table.specs.Changes.{IsAllowed, effect}
use Rattle.volume_table.specs.declared.changes.Change.{Change}
use Rattle.table_pair.specs.Copies.{CopyView, copy_on, WritesCopy}
use Rattle.table_pair.specs.Pair.{IsOpenWith}

-- a copy is open with a row that may be changed into this one, and so many of its slots are in use
pub record IsCopyDue (change : Change) (row : RowValue) (used : ℕ) (c : CopyView) : Type 0 where
  pub old : RowValue
  pub holds : IsOpenWith old c
  pub allowed : IsAllowed change old
  pub becomes : row ≡ effect change old
  pub slots_ : length c.slots ≡ used

-- a copy while its row is changed: as it was but for the gate of slot 0, or closed, or open with the new row. Its made
-- mark stays
pub record IsChanging (row : RowValue) (old now : CopyView) : Type 0 where
  pub made : now.is_made ≡ old.is_made
  pub stage : (now ≡ record old { is_clear = now.is_clear }) ⊎ ((now.is_open ≡ false) ⊎ IsOpenWith row now)

-- a copy is open with this row, and so many of its slots are in use
pub record IsCopyWith (row : RowValue) (used : ℕ) (c : CopyView) : Type 0 where
  pub holds : IsOpenWith row c
  pub slots_ : length c.slots ≡ used

-- what a call that changes the row of a copy does: at Ok it is changed, the gate of slot 0 is 00 where it has no slots
-- then, and no write of it is loose
pub record ChangesCopy {T E : Type 0} (row : RowValue) (used : ℕ) (at : BlockPlace) (old new : SiteLog) (result : Result T E) : Type 0 where
  pub moments : WritesCopy at (IsChanging row (copy_on old at)) old new
  pub done : OnOk result (IsCopyWith row used (copy_on new at))
  pub clear : OnOk result (used ≡ 0 → (copy_on new at).is_clear ≡ true)
  pub firm : OnOk result (Settles old new)
  pub grown : OnOk result (length old.log < length new.log)
