-- The blocks, or the fronts of blocks, that one room keeps.
use Rattle.std.specs.Prelude.{◌≡◌, ◌≢◌, ℕ, ◌+◌, ◌≤◌, List, length}
use Rattle.mss_base.specs.declared.place.BlockPlace.{BlockPlace}
use Rattle.mss_files.specs.Allotted.{start_in}
use Rattle.mss_files.specs.Blocks.{block_from}
use Rattle.mss_files.specs.Files.{FileBytes, bytes_at, file_place}
use Rattle.mss_files.specs.Noted.{slot_of, IsNoted}
use Rattle.mss_files.specs.declared.kept_blocks.KeptBlocks.{KeptBlocks}

-- where the bytes of its slot begin
abbrev pub slot_start : KeptBlocks → BlockPlace → ℕ
slot_start kept place = start_in kept.pieces.size kept.pieces.of_slots.items (slot_of place)

-- this block is the one that is noted for its slot
abbrev pub Stands : KeptBlocks → BlockPlace → Type 0
Stands kept place = IsNoted kept.places.of_slots.items place

-- this block is kept, as far as the pieces of the room reach
pub record Keeps (kept : KeptBlocks) (place : BlockPlace) : Type 0 where
  pub stands : Stands kept place
  pub inside : slot_start kept place + kept.pieces.size ≤ length kept.bytes.items

-- so many bytes of its slot are those of this file
pub record HasBytes (size start : ℕ) (room : List ℕ) (file : ℕ → ℕ) (place : BlockPlace) : Type 0 where
  pub inside : start + size ≤ length room
  pub bytes : block_from size start room ≡ bytes_at file (file_place place.block 0) size

-- each block that is kept is what the files hold at its place
abbrev pub IsHeld : FileBytes → KeptBlocks → Type 0
IsHeld byte kept = (place : BlockPlace) → Stands kept place
    → HasBytes kept.pieces.size (slot_start kept place) kept.bytes.items (byte place.unit) place

-- slots but that of this block, if theirs were used, are where they were
abbrev pub KeepsStarts : BlockPlace → KeptBlocks → KeptBlocks → Type 0
KeepsStarts place old new = (other : BlockPlace) → slot_of other ≢ slot_of place
    → slot_start old other + old.pieces.size ≤ length old.bytes.items → slot_start new other ≡ slot_start old other

-- what is kept is the same, and lies where it lay
pub record SameBlocks (old new : KeptBlocks) : Type 0 where
  pub places : new.places ≡ old.places
  pub pieces : new.pieces ≡ old.pieces
  pub bytes : new.bytes.items ≡ old.bytes.items
