-- Places among the open files.
use Rattle.std.proofs.Common.{◌≡◌, ◌<◌, true, false, replicate, get_or, arith}
use Rattle.std.proofs.lemmas.List.{get_or-replicate}
use Rattle.mss_base.specs.declared.place.UnitNo.{UnitNo}
use Rattle.mss_base.specs.declared.place.UnitNo.TheVariants.{TableA, TableB, Staging, Cartridge}
use Rattle.mss_files.specs.Slots.{slot_number}

slot_below : (unit : UnitNo) → slot_number unit < 70
slot_below TableA = omega arith
slot_below TableB = omega arith
slot_below (Staging number) = omega arith
slot_below (Cartridge number) = omega arith

-- where no place is marked, none is spoiled
pub none_spoiled : (unit : UnitNo) → get_or (replicate 70 false) (slot_number unit) false ≡ true → ⊥
none_spoiled unit marked =
    let plain : get_or (replicate 70 false) (slot_number unit) false ≡ false = get_or-replicate 70 (slot_number unit) false false (slot_below unit) in
    cc
