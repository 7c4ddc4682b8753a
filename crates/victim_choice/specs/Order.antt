-- Frames by their last touch, the least recent first.
use Rattle.std.specs.Prelude.{ℕ, nat_eq, not, List, [], ◌∷◌, ◌++◌, length, filter, reverse}
use Rattle.std.specs.List.{range_with_len}
use Rattle.std.specs.List.Sorted.{IsPermutation}
use Rattle.std.specs.Map.{keys_of}

-- at a session's start frame 0 is the least recent
abbrev pub first_order : ℕ → List ℕ
first_order count = range_with_len 0 count

-- the others, in their order
abbrev pub without_frame : ℕ → List ℕ → List ℕ
without_frame frame order = filter (λ other. not (nat_eq frame other)) order

-- the frame is the most recent now
abbrev pub order_after : ℕ → List ℕ → List ℕ
order_after frame order = without_frame frame order ++ frame ∷ []

-- each of so many frames stands in it once, and nothing else
abbrev pub IsOrderOf : ℕ → List ℕ → Type 0
IsOrderOf count order = IsPermutation (first_order count) order

-- so of as many frames as it has
abbrev pub IsOrder : List ℕ → Type 0
IsOrder order = IsOrderOf (length order) order

-- a cache shows its keys, the most recent first
abbrev pub order_of : List (ℕ × Unit {0}) → List ℕ
order_of entries = reverse (keys_of entries)
