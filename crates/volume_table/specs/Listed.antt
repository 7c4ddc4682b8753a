-- Rows that stand in a list, by the numbers of their volumes.
use Rattle.std.specs.Prelude.{◌≡◌, ℕ, List, length, slice_index_or, slice_set, Option, None, Some}
use Rattle.std.specs.Option.{option_map}
use Rattle.volume_table.specs.Row.{RowValue, IsRow}
use Rattle.volume_table.specs.Changes.{effect}
use Rattle.volume_table.specs.declared.changes.Change.{Change}

-- the row of a volume, if the list has one
abbrev pub row_in_list : List (Option RowValue) → ℕ → Option RowValue
row_in_list rows volume = slice_index_or rows volume None

-- what stands in the list for a volume is a row
abbrev pub AreRows : List (Option RowValue) → Type 0
AreRows rows = (volume : ℕ) (r : RowValue) → row_in_list rows volume ≡ Some r → IsRow r

-- the list has a place for each of the 32 volumes, and rows stand in it
pub record AreAllRows (rows : List (Option RowValue)) : Type 0 where
  pub places : length rows ≡ 32
  pub are_rows : AreRows rows

-- a volume has a row, and it has P
abbrev pub HasRow : List (Option RowValue) → ℕ → (RowValue → Type 0) → Type 0
HasRow rows volume P = (r : RowValue) × (row_in_list rows volume ≡ Some r) × P r

-- with the change of one volume's row
abbrev pub with_changed : ℕ → Change → List (Option RowValue) → List (Option RowValue)
with_changed volume change rows =
    slice_set rows volume (option_map (effect change) (row_in_list rows volume))
