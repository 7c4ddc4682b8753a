use Rattle.std.proofs.Common.{ℕ, arith, subst}
use Rattle.atomic_table.specs.Table.{Splits}
use Rattle.seen_book.specs.Rule.{Kept}
use Rattle.seen_book.specs.Views.{with_made, host_of}
use Rattle.seen_book.proofs.Keeps.{splits_host}
use Rattle.seen_book.proofs.moves.split_host.Goals as goal

pub split_seat-requires : goal.split_seat-requires
split_seat-requires g c =
    let w = c.requires.word in
    let v = c.args.book.now.me.0 in
    let id = c.args.book.now.id in
    (w.2, omega (arith, w.0), subst (λ (h : ℕ). Splits {S = Unit {0}} Kept id v (with_made h v) (host_of h v)) c.requires.host (splits_host c.args.host id v c.requires.holds c.requires.fresh))
