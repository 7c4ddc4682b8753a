use Rattle.std.proofs.Common.{◌≡◌, ℕ, ◌*◌, ◌≤◌, ◌<◌, length, map, get_or}
use Rattle.volume_table.specs.States.{state_number}
use Rattle.volume_table.specs.Changes.{unstaged_state}
use Rattle.volume_table.proofs.changes.unstage.Given as goal

abbrev pub invariant-loop-cylinder : goal.invariant-loop-cylinder
invariant-loop-cylinder l = record {
  long : length l.states.items ≡ 404;
  before : (k : ℕ) → k < 8 * l.fn.page → get_or (map state_number l.states.items) k 0 ≡ get_or (map state_number l.fn.states.items) k 0;
  done : (k : ℕ) → 8 * l.fn.page ≤ k → k < l.cylinder → get_or (map state_number l.states.items) k 0 ≡ unstaged_state (get_or (map state_number l.fn.states.items) k 0);
  left : (k : ℕ) → l.cylinder ≤ k → get_or (map state_number l.states.items) k 0 ≡ get_or (map state_number l.fn.states.items) k 0;
}
