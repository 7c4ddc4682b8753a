use Rattle.std.proofs.Common.{◌≡◌, ◌≤◌, ◌++◌, length}
use Rattle.victim_choice.specs.Order.{order_of}
use Rattle.victim_choice.proofs.recency.Recency.order.Given as goal

abbrev pub invariant-loop-frame : goal.invariant-loop-frame
invariant-loop-frame l = record {
  whole : l.into.items ++ order_of l.frame-iterator.iter ≡ l.self;
  room : length l.frame-iterator.iter ≤ l.into.spare;
}
