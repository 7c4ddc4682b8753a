use Rattle.std.proofs.Common.{rules, ◌≡◌, false, List, [], ◌∷◌, ◌++◌, sym, subst}
use Rattle.channel_commands.specs.Data.{mount, demount, mounted, demounted}
use Rattle.ckd_plain.specs.History.{EntryData}
use Rattle.seen_book.specs.Openings.{IsLegalFrom}
use Rattle.tests_of_parts.proofs.RowFacts.{told, row_is_legal}
use Rattle.tests_of_parts.proofs.books.row.Goals as goal

pub append-book-requires-clause-legal : goal.append-book-requires-clause-legal
append-book-requires-clause-legal g c =
    let a = c.args in
    let d = c.requires.differ in
    let is : c.host_pass-book-2.result.0.list ++ c.entry-mounted.result ∷ [] ≡ told a.one 1 (mount a.volume false) mounted ∷ [] = search rules in
    subst (λ (l : List EntryData). IsLegalFrom g.N.Opening.opening l) (sym is) (row_is_legal g.N.Opening.opening a.volume a.one a.two c.requires.state d.0 d.1).0

pub append-book-requires-2-clause-legal : goal.append-book-requires-2-clause-legal
append-book-requires-2-clause-legal g c =
    let a = c.args in
    let d = c.requires.differ in
    let is : c.append-book.result.0.list ++ c.entry-demounted.result ∷ [] ≡ told a.one 1 (mount a.volume false) mounted ∷ told a.one 2 demount demounted ∷ [] = search rules in
    subst (λ (l : List EntryData). IsLegalFrom g.N.Opening.opening l) (sym is) (row_is_legal g.N.Opening.opening a.volume a.one a.two c.requires.state d.0 d.1).1

pub append-book-requires-3-clause-legal : goal.append-book-requires-3-clause-legal
append-book-requires-3-clause-legal g c =
    let a = c.args in
    let d = c.requires.differ in
    let is : c.append-book-2.result.0.list ++ c.entry-other.result ∷ []
    ≡ told a.one 1 (mount a.volume false) mounted ∷ told a.one 2 demount demounted ∷ told a.two 1 (mount a.volume false) mounted ∷ [] = search rules in
    subst (λ (l : List EntryData). IsLegalFrom g.N.Opening.opening l) (sym is) (row_is_legal g.N.Opening.opening a.volume a.one a.two c.requires.state d.0 d.1).2
