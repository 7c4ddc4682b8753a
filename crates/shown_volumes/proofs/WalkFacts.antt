-- Numbers that may be there.
use Rattle.std.proofs.Common.{◌≡◌, ℕ, true, Option, Some, None, ap}
use Rattle.std.proofs.lemmas.Bool.{eqb-true, eq-eqb}
use Rattle.shown_volumes.specs.Faults.{is_number}

pub number_is : (o : Option ℕ) (n : ℕ) → is_number o n ≡ true → o ≡ Some n
number_is None n is = absurd cc
number_is (Some m) n is = ap (λ (k : ℕ). Some k) (eqb-true m n is)

pub is_that_number : (o : Option ℕ) (n : ℕ) → o ≡ Some n → is_number o n ≡ true
is_that_number None n is = absurd cc
is_that_number (Some m) n is = let e : m ≡ n = cc in eq-eqb m n e
