use Rattle.seen_book.proofs.CallFacts.{see_ends}
use Rattle.seen_book.proofs.calls.see.Goals as goal

pub over-requires : goal.over-requires
over-requires g c =
    let n = g.N.Name in
    let w = c.split_book-whole in
    (see_ends n.table g.N.Opening.opening n.hosts c.pass.inside.host c.pass.inside.seat c.book.inside.seat c.join_book.new.pass c.load.new.seat w.new.pass w.result c.load.result c.pass.invariant c.book.invariant
    c.join_book.ensures c.load.ensures.seat c.load.ensures.looked w.ensures.pass w.ensures.book).book_

pub over-requires-2 : goal.over-requires-2
over-requires-2 g c =
    let n = g.N.Name in
    let w = c.split_book-whole in
    (see_ends n.table g.N.Opening.opening n.hosts c.pass.inside.host c.pass.inside.seat c.book.inside.seat c.join_book.new.pass c.load.new.seat w.new.pass w.result c.load.result c.pass.invariant c.book.invariant
    c.join_book.ensures c.load.ensures.seat c.load.ensures.looked w.ensures.pass w.ensures.book).pass_
