-- The slots of a block: eight bytes each, from place 512 on, one behind another. A slot is a gate and a body of seven
-- bytes. In use are the slots before the first whose gate is closed.
use Rattle.std.specs.Prelude.{◌≡◌, ◌⊎◌, ℕ, zero, suc, ◌+◌, ◌*◌, Bool, ◌==◌, if◌then◌else◌, List, [], ◌∷◌, ◌++◌, length, take, drop, slice_index}
use Rattle.mss_base.specs.Blocks.{WritesBlock, block_of}
use Rattle.mss_base.specs.Content.{SiteLog}
use Rattle.mss_base.specs.Geometry.{open_gate, slots_at, slot_count, slot_bytes, slot_body_bytes}
use Rattle.mss_base.specs.declared.place.BlockPlace.{BlockPlace}

-- the place of a slot's gate
abbrev pub slot_place : ℕ → ℕ
slot_place number = slots_at + slot_bytes * number

abbrev pub is_slot_open : ℕ → List ℕ → Bool
is_slot_open number block = slice_index block (slot_place number) == open_gate

abbrev pub slot_body : ℕ → List ℕ → List ℕ
slot_body number block = take slot_body_bytes (drop (suc (slot_place number)) block)

-- the bodies from a slot on, of so many at most, as far as the gates are open
unfoldable pub slots_from : ℕ → ℕ → List ℕ → List (List ℕ)
slots_from zero number block = []
slots_from (suc count) number block =
    if is_slot_open number block then slot_body number block ∷ slots_from count (suc number) block else []

-- the bodies of a block's slots in use
unfoldable pub slots : List ℕ → List (List ℕ)
slots block = slots_from slot_count 0 block

-- while a slot with this body is appended: the bytes before all slots stay, and the slots in use are as before, or one more
pub record IsAppending (body old now : List ℕ) : Type 0 where
  pub long : length now ≡ length old
  pub head : take slots_at now ≡ take slots_at old
  pub slots_ : (slots now ≡ slots old) ⊎ (slots now ≡ slots old ++ body ∷ [])

-- the slots in use of a block of a site
abbrev pub slots_on : SiteLog → BlockPlace → List (List ℕ)
slots_on s at = slots (block_of s at)

-- the log got writes into this block alone, which append a slot with this body
abbrev pub AppendsSlot : List ℕ → BlockPlace → SiteLog → SiteLog → Type 0
AppendsSlot body at old new = WritesBlock at (IsAppending body (block_of old at)) old new
