use Rattle.std.proofs.Common.{rules, ◌≡◌, ◌<◌, sym, subst}
use Rattle.victim_choice.specs.Order.{first_order, IsOrder}
use Rattle.victim_choice.proofs.OrderFacts.{untouched_is_order, order_whole}
use Rattle.victim_choice.proofs.CacheFacts.{order_of_put}
use Rattle.victim_choice.proofs.recency.Recency.new.Goals as goal

pub loop-number-preserved : goal.loop-number-preserved
loop-number-preserved c =
    let frame : c.unwrap-frame.result ≡ c.loop-number.number = search rules in
    let within : c.loop-number.number < c.loop-number.touches.cap = search rules in
    rw (c.in_ok-put.ensures.entries, frame) (record { order = order_of_put c.loop-number.number c.loop-number.touches.cap c.loop-number.touches.entries c.loop-number.invariant.order within; room = c.loop-number.invariant.room })

pub invariant_of-result : goal.invariant_of-result
invariant_of-result c =
    subst IsOrder (sym c.loop-number.invariant.order) (order_whole c.loop-number.number (first_order c.loop-number.number) (untouched_is_order c.loop-number.number))
