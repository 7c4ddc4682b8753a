use Rattle.std.proofs.Common.{◌≡◌}
use Rattle.victim_choice.specs.Order.{first_order, order_of}
use Rattle.victim_choice.proofs.recency.Recency.new.Given as goal

abbrev pub invariant-loop-number : goal.invariant-loop-number
invariant-loop-number l = record {
  order : order_of l.touches.entries ≡ first_order l.number;
  room : l.touches.cap ≡ l.count;
}
