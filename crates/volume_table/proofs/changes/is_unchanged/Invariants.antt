use Rattle.std.proofs.Common.{◌≢◌, ◌*◌, ◌≤◌, ◌<◌, ℕ}
use Rattle.volume_table.specs.Row.{state_of}
use Rattle.volume_table.proofs.changes.is_unchanged.Given as goal

abbrev pub invariant-loop-number : goal.invariant-loop-number
invariant-loop-number l = (k : ℕ) → 8 * l.fn.page ≤ k → k < l.number → state_of l.row k ≢ 4
