use Rattle.std.proofs.Common.{ℕ, List, [], ◌∷◌, ◌++◌, ◌∙◌, ap, sym, subst, Contains}
use Rattle.std.proofs.lemmas.List.Elements.{All-weaker, Contains-append_left}
use Rattle.seen_book.specs.Views.{with_made}
use Rattle.seen_book.specs.Books.{IsOfOne}
use Rattle.seen_book.proofs.Own.{own_none}
use Rattle.seen_book.proofs.BookFacts.{Knows, book_is, pass_is, made_more}
use Rattle.seen_book.proofs.calls.host_pass.Goals as goal

pub over-requires : goal.over-requires
over-requires g c =
    let n = g.N.Name in
    let i = c.book.invariant in
    let v = c.book.inside.seat.me.0 in
    let e = c.split_host-pass.ensures.book in
    let host = c.args.host in
    book_is n.table g.N.Opening.opening n.hosts c.split_host-pass.new.book v.seen (v.made ++ host ∷ []) (e.0 ∙ i.table_)
    (e.1 ∙ ap (λ (m : Knows). (with_made host m.0, m.1)) i.me) i.legal
    (made_more n.hosts v.made host i.made_ (subst (λ (m : List ℕ). Contains m host → ⊥) (ap (λ b. b.made) (sym c.book.view_is)) c.requires.fresh) c.requires.host)
    (All-weaker (IsOfOne v.made) (IsOfOne (v.made ++ host ∷ [])) (λ x has. Contains-append_left v.made (host ∷ []) x.host has) v.seen i.kept) i.entries

pub over-requires-2 : goal.over-requires-2
over-requires-2 g c =
    let n = g.N.Name in
    let i = c.book.invariant in
    let v = c.book.inside.seat.me.0 in
    let e = c.split_host-pass.ensures.pass in
    let host = c.args.host in
    pass_is n.table g.N.Opening.opening n.hosts host c.split_host-pass.result v.seen [] (e.0 ∙ i.table_) e.1 i.legal c.requires.host
    (own_none v.made host v.seen (subst (λ (m : List ℕ). Contains m host → ⊥) (ap (λ b. b.made) (sym c.book.view_is)) c.requires.fresh) i.kept) i.entries
