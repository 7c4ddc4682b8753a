-- Lists that are made number by number.
use Rattle.std.specs.Prelude.{ℕ, zero, suc, List, [], ◌∷◌, ◌++◌, Option, Some, None}

-- what is there, as a list of one or none
abbrev pub one : {A : Type 0} → Option A → List A
one None = []
one (Some x) = x ∷ []

-- the lists of the numbers below n, one behind the other
unfoldable pub joined_below : {A : Type 0} → ℕ → (ℕ → List A) → List A
joined_below zero f = []
joined_below (suc n) f = joined_below n f ++ f n

-- all that are there for a number below n
abbrev pub all_below : {A : Type 0} → ℕ → (ℕ → Option A) → List A
all_below n f = joined_below n (λ i. one (f i))
