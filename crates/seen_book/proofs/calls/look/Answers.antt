use Rattle.seen_book.proofs.CallFacts.{look_ends}
use Rattle.seen_book.proofs.calls.look.Goals as goal

pub over-requires : goal.over-requires
over-requires g c =
    let n = g.N.Name in
    (look_ends n.table g.N.Opening.opening n.hosts c.pass.inside.host c.pass.inside.seat c.load-count.new.seat c.load-count.result c.pass.invariant c.load-count.ensures.seat c.load-count.ensures.looked).1
