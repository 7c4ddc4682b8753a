-- Blocks that are zeros behind their first 1,024 bytes.
use Rattle.std.specs.Prelude.{◌≡◌, ℕ, Bool, true, false, List, length, drop, replicate}
use Rattle.mss_base.specs.declared.place.BlockPlace.{BlockPlace}
use Rattle.mss_base.specs.declared.place.UnitNo.{UnitNo}
use Rattle.mss_base.specs.declared.place.UnitNo.TheVariants.{Staging}
use Rattle.mss_files.specs.Files.{FileBytes, bytes_at, file_place}

-- the zeros behind the front
unfoldable pub zeros_behind : List ℕ
zeros_behind = replicate 15360 0

-- a staging disk: of the blocks of these alone it is noted that they are short
abbrev pub is_staging : UnitNo → Bool
is_staging (Staging _) = true
is_staging _ = false

-- a block of the files that is short
abbrev pub IsShort : FileBytes → BlockPlace → Type 0
IsShort byte place = bytes_at (byte place.unit) (file_place place.block 1024) 15360 ≡ zeros_behind

-- the bytes of a whole block, those behind the front zeros
pub record AreShort (bytes : List ℕ) : Type 0 where
  pub whole : length bytes ≡ 16384
  pub zeros : drop 1024 bytes ≡ zeros_behind
