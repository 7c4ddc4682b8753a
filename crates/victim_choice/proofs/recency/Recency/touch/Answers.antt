use Rattle.std.proofs.Common.{◌≡◌, ◌∙◌, ◌<◌, ap, sym, subst, length, ℕ, List}
use Rattle.victim_choice.specs.Order.{order_after, IsOrder, order_of}
use Rattle.victim_choice.proofs.OrderFacts.{touched_is_order, order_whole}
use Rattle.victim_choice.proofs.CacheFacts.{order_of_promoted}
use Rattle.victim_choice.proofs.recency.Recency.touch.Goals as goal

pub invariant_of-self : goal.invariant_of-self
invariant_of-self c =
    let before : List ℕ = order_of c.self.inside.touches.entries in
    let below : c.args.frame < length before = subst (λ (l : List ℕ). c.args.frame < length l) (sym c.self.view_is) c.requires in
    let moved : order_of c.promote.new.cache.entries ≡ order_after c.args.frame before = rw c.promote.ensures (order_of_promoted c.args.frame c.self.inside.touches.entries c.self.invariant below) in
    subst IsOrder (sym moved) (order_whole (length before) (order_after c.args.frame before) (touched_is_order (length before) before c.args.frame c.self.invariant below))

pub returns : goal.returns
returns c =
    let below : c.args.frame < length (order_of c.self.inside.touches.entries) = subst (λ (l : List ℕ). c.args.frame < length l) (sym c.self.view_is) c.requires in
    rw c.promote.ensures (order_of_promoted c.args.frame c.self.inside.touches.entries c.self.invariant below ∙ ap (order_after c.args.frame) c.self.view_is)
