use Rattle.std.proofs.Common.{◌≡◌, ◌<◌, ℕ, length}
use Rattle.mss_files.specs.Allotted.{piece_of}
use Rattle.mss_files.proofs.pieces.Pieces.new.Given as goal

abbrev pub invariant-loop-slot : goal.invariant-loop-slot
invariant-loop-slot l = record {
  count : length l.of_slots.items ≡ l.slot;
  numbers : (i : ℕ) → i < l.slot → piece_of l.of_slots.items i ≡ i;
}
