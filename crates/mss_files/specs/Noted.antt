-- A block that is noted for its slot.
use Rattle.std.specs.Prelude.{◌≡◌, ℕ, ◌%◌, List, Option, None, Some, slice_index_or}
use Rattle.mss_base.specs.declared.place.BlockPlace.{BlockPlace}

-- the slot of a block: those of 17 cylinders that follow one another have one each
abbrev pub slot_of : BlockPlace → ℕ
slot_of place = place.block % 323

-- this block is the one that is noted for its slot
abbrev pub IsNoted : List (Option BlockPlace) → BlockPlace → Type 0
IsNoted places place = slice_index_or places (slot_of place) None ≡ Some place
