use Rattle.std.proofs.Common.{List, [], ◌∷◌, ◌++◌, ◌∙◌, ap, sym, subst}
use Rattle.ckd_plain.specs.History.{EntryData}
use Rattle.seen_book.specs.Openings.{IsLegalFrom}
use Rattle.seen_book.proofs.CallFacts.{append_ends}
use Rattle.seen_book.proofs.calls.append.Goals as goal

pub over-requires : goal.over-requires
over-requires g c =
    let n = g.N.Name in
    let opening = g.N.Opening.opening in
    let j = c.join_book.new.pass in
    let a = c.append_entry in
    let w = c.split_book-whole in
    (append_ends n.table opening n.hosts c.pass.inside.host c.pass.inside.seat c.book.inside.seat j a.new.pass w.new.pass w.result c.args.entry.now a.result c.pass.invariant c.book.invariant
    (ap (λ p. p.host) c.pass.view_is ∙ c.requires.host)
    (subst (λ (log : List EntryData). IsLegalFrom opening (log ++ c.args.entry.now ∷ [])) (ap (λ b. b.list) (sym c.book.view_is)) c.requires.legal)
    c.join_book.ensures a.ensures.seat a.ensures.appended w.ensures.pass w.ensures.book).book_

pub over-requires-2 : goal.over-requires-2
over-requires-2 g c =
    let n = g.N.Name in
    let opening = g.N.Opening.opening in
    let j = c.join_book.new.pass in
    let a = c.append_entry in
    let w = c.split_book-whole in
    (append_ends n.table opening n.hosts c.pass.inside.host c.pass.inside.seat c.book.inside.seat j a.new.pass w.new.pass w.result c.args.entry.now a.result c.pass.invariant c.book.invariant
    (ap (λ p. p.host) c.pass.view_is ∙ c.requires.host)
    (subst (λ (log : List EntryData). IsLegalFrom opening (log ++ c.args.entry.now ∷ [])) (ap (λ b. b.list) (sym c.book.view_is)) c.requires.legal)
    c.join_book.ensures a.ensures.seat a.ensures.appended w.ensures.pass w.ensures.book).pass_
