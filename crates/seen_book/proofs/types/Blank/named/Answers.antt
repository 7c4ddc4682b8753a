use Rattle.std.proofs.Common.{[], ◌∙◌}
use Rattle.std.proofs.lemmas.List.Elements.{All-nil}
use Rattle.seen_book.specs.Books.{IsOfOne}
use Rattle.seen_book.proofs.BookFacts.{book_is, legal_empty, none_made}
use Rattle.seen_book.proofs.types.Blank.named.Goals as goal

pub over-requires : goal.over-requires
over-requires g c =
    let i = c.self.invariant in
    let n = g.N.Name in
    let opening = g.N.Opening.opening in
    book_is n.table opening n.hosts c.self.inside.seat [] [] (i.table_ ∙ (c.self.view_is ∙ c.requires)) i.me (legal_empty opening)
    (none_made n.hosts) (All-nil (IsOfOne [])) (All-nil (IsOfOne n.hosts))
