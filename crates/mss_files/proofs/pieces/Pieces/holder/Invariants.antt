use Rattle.std.proofs.Common.{◌≢◌, ◌<◌, ℕ}
use Rattle.mss_files.specs.Allotted.{piece_of}
use Rattle.mss_files.proofs.pieces.Pieces.holder.Given as goal

abbrev pub invariant-loop-slot : goal.invariant-loop-slot
invariant-loop-slot l = (i : ℕ) → i < l.slot → piece_of l.self.of_slots.items i ≢ l.piece
