-- Decimal digits.
use Rattle.std.specs.Prelude.{ℕ, ◌+◌, ◌-◌, ◌*◌, Bool, ◌&&◌, nat_le, List, fold}

abbrev pub is_digit : ℕ → Bool
is_digit byte = nat_le 48 byte && nat_le byte 57

-- the number that digits write
abbrev pub number_of : List ℕ → ℕ
number_of digits = fold (λ n b. 10 * n + (b - 48)) 0 digits
