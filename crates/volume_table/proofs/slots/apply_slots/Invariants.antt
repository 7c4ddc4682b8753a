use Rattle.std.proofs.Common.{◌≡◌, ◌+◌, ℕ}
use Rattle.volume_table.specs.Slots.{changed_by, slots_from}
use Rattle.volume_table.proofs.slots.apply_slots.Given as goal

abbrev pub invariant-loop-number : goal.invariant-loop-number
invariant-loop-number l = (left : ℕ) → left + l.number ≡ l.count → changed_by 0 l.fn.row (slots_from l.count 0 l.bytes) ≡ changed_by l.number l.row (slots_from left l.number l.bytes)
