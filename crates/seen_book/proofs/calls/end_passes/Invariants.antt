use Rattle.std.proofs.Common.{◌≡◌, List, [], ◌++◌, length}
use Rattle.seen_book.specs.Books.{PassData, closing_view}
use Rattle.seen_book.proofs.calls.end_passes.Given as goal

abbrev pub invariant-loop-pass : goal.invariant-loop-pass
invariant-loop-pass g l =
    (ps : List PassData) × (l.initial.passes.items ≡ l.passes.items ++ ps) × (l.book.table_id ≡ l.initial.book.table_id)
    × (l.book.me ≡ (closing_view l.initial.book.me.0.seen l.initial.book.me.0.made ps, []))

abbrev pub decreases-loop-pass : goal.decreases-loop-pass
decreases-loop-pass g l = length l.passes.items
