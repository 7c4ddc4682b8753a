use Rattle.std.proofs.Common.{List, ap, subst, All}
use Rattle.ckd_plain.specs.History.{EntryData}
use Rattle.seen_book.specs.Books.{Begins, AreMade, AreOfThese}
use Rattle.seen_book.proofs.CallFacts.{close_ends, nested}
use Rattle.seen_book.proofs.calls.close.Goals as goal

pub returns-clause-passes : goal.returns-clause-passes
returns-clause-passes g c =
    let v = c.book.inside.seat.me.0 in
    subst (λ (log : List EntryData). All (Begins log) c.args.passes.items) (ap (λ b. b.list) c.book.view_is)
    (close_ends v.seen v.made c.args.passes.items c.load.result c.end_passes.new.book c.load.new.seat c.end_passes.ensures.me c.load.ensures.looked c.load.ensures.seat.1).1

pub returns-clause-nested : goal.returns-clause-nested
returns-clause-nested g c =
    let v = c.book.inside.seat.me.0 in
    nested v.seen c.args.passes.items
    (close_ends v.seen v.made c.args.passes.items c.load.result c.end_passes.new.book c.load.new.seat c.end_passes.ensures.me c.load.ensures.looked c.load.ensures.seat.1).1

pub returns-clause-hosts : goal.returns-clause-hosts
returns-clause-hosts g c = subst (AreOfThese g.N.Name.hosts) (ap (λ b. b.list) c.book.view_is) c.book.invariant.entries

pub returns-clause-made : goal.returns-clause-made
returns-clause-made g c = subst (AreMade g.N.Name.hosts) (ap (λ b. b.made) c.book.view_is) c.book.invariant.made_

pub returns-clause-one_each : goal.returns-clause-one_each
returns-clause-one_each g c =
    let v = c.book.inside.seat.me.0 in
    (close_ends v.seen v.made c.args.passes.items c.load.result c.end_passes.new.book c.load.new.seat c.end_passes.ensures.me c.load.ensures.looked c.load.ensures.seat.1).2
