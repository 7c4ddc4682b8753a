-- Where the pieces of a room begin.
use Rattle.std.proofs.Common.{◌≡◌, ℕ, ◌+◌, ◌*◌, ◌/◌, ◌≤◌, ◌<◌, ◌⊎◌, inl, inr, List, ap, ap₂, arith}
use Rattle.std.proofs.Math.Nat.{mul-le-mul_right, lt-div-mul-add}
use Rattle.std.proofs.lemmas.Bool.{cases_lt}
use Rattle.mss_files.specs.Allotted.{piece_of, start_in, AreApart}

-- a piece ends where a later one begins, or before
pub piece_below : (size a b : ℕ) → a < b → a * size + size ≤ b * size
piece_below size a b below =
    let more : (a + 1) * size ≤ b * size = mul-le-mul_right size (omega (arith, below)) in
    omega (arith, more)

-- two slots are one, or the piece of one lies wholly before that of the other
pub starts_apart : (size : ℕ) (pieces : List ℕ) (a b : ℕ) → a < 323 → b < 323 → AreApart pieces
    → (a ≡ b) ⊎ ((start_in size pieces a + size ≤ start_in size pieces b) ⊎ (start_in size pieces b + size ≤ start_in size pieces a))
unfolding start_in
starts_apart size pieces a b first second apart = elim (cases_lt (piece_of pieces a) (piece_of pieces b)) [
  | inl below ↦ inr (inl (piece_below size (piece_of pieces a) (piece_of pieces b) below))
  | inr from ↦ elim (cases_lt (piece_of pieces b) (piece_of pieces a)) [
    | inl above ↦ inr (inr (piece_below size (piece_of pieces b) (piece_of pieces a) above))
    | inr upto ↦ inl (apart a b first second (omega (arith, from, upto)))
  ]
]

pub start_is : (size : ℕ) (pieces : List ℕ) (slot piece : ℕ) → piece ≡ piece_of pieces slot → piece * size ≡ start_in size pieces slot
unfolding start_in
start_is size pieces slot piece is = ap (λ (p : ℕ). p * size) is

pub start_same : (size new_size : ℕ) (pieces new : List ℕ) (slot : ℕ) → new_size ≡ size → piece_of new slot ≡ piece_of pieces slot → start_in new_size new slot ≡ start_in size pieces slot
unfolding start_in
start_same size new_size pieces new slot width is = ap₂ (λ (p n : ℕ). p * n) is width

-- a piece lies in the room
pub start_inside : (size : ℕ) (pieces : List ℕ) (slot : ℕ) → piece_of pieces slot < 323 → start_in size pieces slot + size ≤ 323 * size
unfolding start_in
start_inside size pieces slot below = piece_below size (piece_of pieces slot) 323 below

-- the first piece behind the bytes in use is none of those in use
pub piece_in_use : (size used : ℕ) (pieces : List ℕ) (slot : ℕ) → 1 ≤ size → start_in size pieces slot + size ≤ used → piece_of pieces slot ≡ used / size → ⊥
unfolding start_in
piece_in_use size used pieces slot some inside is =
    let next : used < used / size * size + size = lt-div-mul-add {b = size} some in
    let same : piece_of pieces slot * size ≡ used / size * size = ap (λ (p : ℕ). p * size) is in
    omega (arith, next, same, inside)
