-- What the files of a site hold.
use Rattle.std.specs.Prelude.{◌≡◌, ℕ, zero, suc, ◌+◌, ◌*◌, ◌<◌, ◌≤◌, List, [], ◌∷◌, length, false}
use Rattle.mss_base.specs.Content.{same_unit}
use Rattle.mss_base.specs.declared.place.BlockPlace.{BlockPlace}
use Rattle.mss_base.specs.declared.place.UnitNo.{UnitNo}

-- the byte at each place of each unit's file
abbrev pub FileBytes : Type 0
FileBytes = UnitNo → ℕ → ℕ

-- n bytes of a file, from a place on
unfoldable pub bytes_at : (ℕ → ℕ) → ℕ → ℕ → List ℕ
bytes_at file at zero = []
bytes_at file at (suc n) = file at ∷ bytes_at file (at + 1) n

-- a file holds nothing from a place on
abbrev pub EndsAt : ℕ → (ℕ → ℕ) → Type 0
EndsAt at file = (place : ℕ) → at ≤ place → file place ≡ 0

-- n bytes of a unit's file may have changed, from `at` on, and nothing else
pub record ChangesOnly (unit : UnitNo) (at n : ℕ) (old new : FileBytes) : Type 0 where
  pub before : (place : ℕ) → place < at → new unit place ≡ old unit place
  pub behind : (place : ℕ) → at + n ≤ place → new unit place ≡ old unit place
  pub others : (u : UnitNo) → same_unit unit u ≡ false → new u ≡ old u

-- where a byte of a block stands in its unit's file
abbrev pub file_place : ℕ → ℕ → ℕ
file_place block offset = block * 16384 + offset

-- these bytes were written into a block, and nothing else of the files changed
pub record GotBytes (place : BlockPlace) (offset : ℕ) (bytes : List ℕ) (old new : FileBytes) : Type 0 where
  pub put : bytes_at (new place.unit) (file_place place.block offset) (length bytes) ≡ bytes
  pub only : ChangesOnly place.unit (file_place place.block offset) (length bytes) old new
