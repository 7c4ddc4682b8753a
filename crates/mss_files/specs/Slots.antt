-- Where a unit's file stands among those that are open, and which of these places are spoiled.
use Rattle.std.specs.Prelude.{◌≡◌, ℕ, ◌+◌, ◌%◌, true, false, slice_index_or}
use Rattle.mss_base.specs.declared.place.UnitNo.{UnitNo}
use Rattle.mss_base.specs.declared.place.UnitNo.TheVariants.{TableA, TableB, Staging, Cartridge}
use Rattle.mss_files.specs.declared.spoiled.Spoiled.{Spoiled}

-- the one place where a unit's file may stand
abbrev pub slot_number : UnitNo → ℕ
slot_number TableA = 0
slot_number TableB = 1
slot_number (Staging number) = 2 + number % 4
slot_number (Cartridge number) = 6 + number % 64

-- a sync of a file whose place is this unit's failed
abbrev pub IsSpoiled : Spoiled → UnitNo → Type 0
IsSpoiled spoiled unit = slice_index_or spoiled.slots (slot_number unit) false ≡ true

-- a sync of names failed
abbrev pub AreNamesSpoiled : Spoiled → Type 0
AreNamesSpoiled spoiled = spoiled.names ≡ true

-- what is spoiled stays so
abbrev pub StaysSpoiled : Spoiled → Spoiled → Type 0
StaysSpoiled old new = ((unit : UnitNo) → IsSpoiled old unit → IsSpoiled new unit)
    × (AreNamesSpoiled old → AreNamesSpoiled new)
