use Rattle.std.proofs.Common.{◌≡◌, ◌≤◌, ◌<◌, ℕ, length, replicate, get_or}
use Rattle.mss_files.proofs.short_blocks.are_zeros.Given as goal

abbrev pub invariant-loop-byte : goal.invariant-loop-byte
invariant-loop-byte l = record {
  most : (i : ℕ) → i < l.byte-index → get_or l.bytes i 0 ≤ l.greatest;
  none : l.bytes ≡ replicate (length l.bytes) 0 → l.greatest ≡ 0;
}
