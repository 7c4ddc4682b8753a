-- The order of touch, and where the cartridges are.
use Rattle.std.specs.Prelude.{◌≡◌, ◌⊎◌, ℕ, List, length, slice_index_or, Option, Some, None}
use Rattle.victim_choice.specs.Order.{IsOrderOf}
use Rattle.cartridge_store.specs.declared.store.Place.{Place}
use Rattle.cartridge_store.specs.declared.store.Place.TheVariants.{Recorder}
use Rattle.cartridge_store.specs.Places.{place_of, home_of}

-- the cartridge in a recorder
abbrev pub held_at : List (Option ℕ) → ℕ → Option ℕ
held_at recorders recorder = slice_index_or recorders recorder None

-- each frame is once in the order of touch; a cartridge is in its cell, or in the recorder that
-- holds it
pub record IsBeside (frames count : ℕ) (recency : List ℕ) (recorders : List (Option ℕ))
    (store : List Place) : Type 0 where
  pub long : length recorders ≡ count
  pub order : IsOrderOf frames recency
  pub lies : (cartridge : ℕ) → (place_of store cartridge ≡ home_of cartridge)
      ⊎ ((i : ℕ) × (place_of store cartridge ≡ Recorder i) × (held_at recorders i ≡ Some cartridge))
  pub holds : (i cartridge : ℕ) → held_at recorders i ≡ Some cartridge
      → place_of store cartridge ≡ Recorder i
