use Rattle.std.proofs.Common.{◌≡◌, ◌+◌, ◌≤◌, replicate, None}
use Rattle.core_restart.proofs.parts.empty_recorders.Given as goal

abbrev pub invariant-loop : goal.invariant-loop
invariant-loop l = record {
  items : l.recorders.items ≡ replicate l.counter None;
  room : l.count ≤ l.recorders.spare + l.counter;
}
