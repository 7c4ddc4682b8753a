-- Cartridges that no row names.
use Rattle.std.specs.Prelude.{◌≡◌, ◌≢◌, ◌⊎◌, ◌<◌, ℕ, Bool, true, Option, Some, is_some}
use Rattle.shown_volumes.specs.Shown.{RowsOf}
use Rattle.mss_base.specs.Firsts.{first_below}
use Rattle.shown_volumes.specs.Faults.{half_with}

-- whether a row names a cartridge
abbrev pub is_named : RowsOf → ℕ → Bool
is_named rows cartridge = is_some (first_below 32 (half_with rows cartridge))

-- the lowest cartridge that no row names and that isn't taken
pub record IsLowestFree (rows : RowsOf) (taken : Option ℕ) (cartridge : ℕ) : Type 0 where
  pub free : is_named rows cartridge ≡ true → ⊥
  pub untaken : taken ≢ Some cartridge
  pub lowest : (lower : ℕ) → lower < cartridge → (is_named rows lower ≡ true) ⊎ (taken ≡ Some lower)
