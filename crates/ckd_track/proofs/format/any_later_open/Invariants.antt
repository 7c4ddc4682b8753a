use Rattle.std.proofs.Common.{◌≡◌, ℕ, ◌+◌, ◌<◌, true, ◌==◌, get_or}
use Rattle.ckd_track.proofs.format.any_later_open.Given as goal

abbrev pub invariant-loop-place : goal.invariant-loop-place
invariant-loop-place l = (k : ℕ) → l.number < k → 128 + k < l.place → (get_or l.block (128 + k) 0 == 193) ≡ true → ⊥
