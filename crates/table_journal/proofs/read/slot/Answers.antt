use Rattle.std.proofs.Common.{◌≡◌, ◌+◌, ◌-◌, ◌*◌, suc, Some, take, drop, ◌∙◌, arith}
use Rattle.table_journal.proofs.SlotLemmas.{few_slots, slot_in_use}
use Rattle.table_journal.proofs.read.slot.Goals as goal

pub slot_place-place-requires : goal.slot_place-place-requires
slot_place-place-requires c = omega (arith, few_slots c.args.block.now)

pub slice_bounds-result-end : goal.slice_bounds-result-end
slice_bounds-result-end c = omega (arith, c.slot_place-place.ensures, few_slots c.args.block.now)

pub returns : goal.returns
returns c =
    let from : suc (512 + 8 * c.args.index) ≡ c.slot_place-place.result + 1 = omega (arith, c.slot_place-place.ensures) in
    let long : 7 ≡ c.slot_place-place.result + 1 + 7 - (c.slot_place-place.result + 1) = omega arith in
    slot_in_use c.args.block.now c.args.index c.requires.used ∙ (λ i. Some (take (long i) (drop (from i) c.args.block.now)))
