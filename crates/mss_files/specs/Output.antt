-- What a clause sees of an output behind a buffer, and of an input.
use Rattle.std.specs.Prelude.{ℕ, List, [], Option, Some, None, ⊤, take}
use Rattle.std.specs.Io.KnownBytes.{Appends}

-- the bytes that the writer holds and then those that wait, where the writer tells its own; those
-- that wait in the buffer; how many calls failed
pub record Output : Type 0 where
  pub contents : Option (List ℕ)
  pub waiting : List ℕ
  pub faults : ℕ

-- the bytes that are left of the input, where it tells them, and how many calls failed
pub record Input : Type 0 where
  pub left : Option (List ℕ)
  pub faults : ℕ

-- known bytes grew by a front of these
abbrev pub AppendsFront : Option (List ℕ) → Option (List ℕ) → List ℕ → Type 0
AppendsFront old new bytes = (count : ℕ) × Appends old new (take count bytes)

-- bytes, where they are known
abbrev pub known_bytes : Option (List ℕ) → List ℕ
known_bytes None = []
known_bytes (Some bytes) = bytes

abbrev pub IsKnown : Option (List ℕ) → Type 0
IsKnown None = ⊥
IsKnown (Some bytes) = ⊤

-- of each reader or writer of a type the bytes are known
abbrev pub AlwaysKnown : {A : Type 0} → (A → Option (List ℕ)) → Type 0
AlwaysKnown {A = A} bytes_of = (a : A) → IsKnown (bytes_of a)
