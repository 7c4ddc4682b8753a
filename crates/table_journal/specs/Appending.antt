-- What the two writes of an appending leave of a block.
use Rattle.std.specs.Prelude.{◌≡◌, ◌<◌, ℕ, suc, false, List, length, take}
use Rattle.mss_base.specs.Geometry.{slots_at, slot_count}
use Rattle.table_journal.specs.Slots.{is_slot_open, slots}

-- the slots in use stay, and the bytes before all slots
pub record KeepsSlots (old now : List ℕ) : Type 0 where
  pub long : length now ≡ length old
  pub head : take slots_at now ≡ take slots_at old
  pub slots_ : slots now ≡ slots old

-- the gate behind this slot's body is closed, where there is one
abbrev pub IsNextClosed : ℕ → List ℕ → Type 0
IsNextClosed number block = suc number < slot_count → is_slot_open (suc number) block ≡ false
