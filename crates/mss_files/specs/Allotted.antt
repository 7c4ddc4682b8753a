-- The piece of a room that each of 323 slots has.
use Rattle.std.specs.Prelude.{◌≡◌, ℕ, ◌*◌, ◌<◌, List, slice_index_or}

-- the piece of a slot
abbrev pub piece_of : List ℕ → ℕ → ℕ
piece_of pieces slot = slice_index_or pieces slot 0

-- where it begins, if each piece has so many bytes
unfoldable pub start_in : ℕ → List ℕ → ℕ → ℕ
start_in size pieces slot = piece_of pieces slot * size

-- each is one of 323
abbrev pub AreInRoom : List ℕ → Type 0
AreInRoom pieces = (slot : ℕ) → slot < 323 → piece_of pieces slot < 323

-- no two slots have the same piece
abbrev pub AreApart : List ℕ → Type 0
AreApart pieces = (a b : ℕ) → a < 323 → b < 323 → piece_of pieces a ≡ piece_of pieces b → a ≡ b
