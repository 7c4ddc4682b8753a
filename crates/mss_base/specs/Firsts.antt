-- The first of several things that may be there.
use Rattle.std.specs.Prelude.{ℕ, zero, suc, Bool, true, false, Option, Some, None}

infixr 4 ◌or◌
-- the first of two that is there
abbrev pub ◌or◌ : {A : Type 0} → Option A → Option A → Option A
(Some x) or later = Some x
None or later = later

-- the first that is there for a number below n
unfoldable pub first_below : {A : Type 0} → ℕ → (ℕ → Option A) → Option A
first_below zero f = None
first_below (suc n) f = first_below n f or f n

-- a value, where a test holds
abbrev pub where_so : {A : Type 0} → Bool → A → Option A
where_so true x = Some x
where_so false x = None
