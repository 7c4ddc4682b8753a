-- Where the cartridges are.
use Rattle.std.specs.Prelude.{◌≡◌, ◌≢◌, ℕ, ◌<◌, List, length, slice_set, slice_index_or, Result, Ok, Err}
use Rattle.cartridge_store.specs.declared.store.TheConstants.{CARTRIDGES}
use Rattle.cartridge_store.specs.declared.store.Place.{Place}
use Rattle.cartridge_store.specs.declared.store.Place.TheVariants.{Cell}
use Rattle.cartridge_store.specs.declared.store.MoveFault.{MoveFault}
use Rattle.cartridge_store.specs.declared.store.MoveFault.TheVariants.{CellTaken, NotThere}

-- the home cell of a cartridge is its number
abbrev pub home_of : ℕ → Place
home_of cartridge = Cell cartridge

-- the place of a cartridge, by its number
abbrev pub place_of : List Place → ℕ → Place
place_of places cartridge = slice_index_or places cartridge (home_of cartridge)

-- the places with that of one cartridge anew
abbrev pub with_place : ℕ → Place → List Place → List Place
with_place cartridge place places = slice_set places cartridge place

-- there are so many cartridges, each at a place of its own
pub record IsStore (places : List Place) : Type 0 where
  pub all_there : length places ≡ CARTRIDGES
  pub apart : (c d : ℕ) → c < CARTRIDGES → d < CARTRIDGES → place_of places c ≡ place_of places d → c ≡ d

-- no other cartridge is there
abbrev pub IsFreeFor : List Place → ℕ → Place → Type 0
IsFreeFor places cartridge place = (other : ℕ) → other < CARTRIDGES → place_of places other ≡ place → other ≡ cartridge

-- why a cartridge isn't moved: it isn't where it was said to be; or another one is where it was to go
abbrev pub IsMoveFault : List Place → ℕ → Place → Place → MoveFault → Type 0
IsMoveFault places cartridge from to (NotThere place) = (place_of places cartridge ≡ place) × (place ≢ from)
IsMoveFault places cartridge from to (CellTaken by) = (place_of places cartridge ≡ from) × (by ≢ cartridge) × (place_of places by ≡ to)

-- what a move answers and leaves
abbrev pub Moves : List Place → List Place → ℕ → Place → Place → Result (Unit {0}) MoveFault → Type 0
Moves old new cartridge from to (Ok done) = (place_of old cartridge ≡ from) × IsFreeFor old cartridge to × (new ≡ with_place cartridge to old)
Moves old new cartridge from to (Err fault) = IsMoveFault old cartridge from to fault × (new ≡ old)
