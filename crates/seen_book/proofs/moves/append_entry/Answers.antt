use Rattle.std.proofs.Common.{◌≡◌, ◌+◌, ◌%◌, ◌^◌, arith, sym, subst}
use Rattle.atomic_table.specs.Table.{Allows}
use Rattle.ckd_plain.specs.History.{EntryData}
use Rattle.seen_book.specs.Rule.{Kept, Appended}
use Rattle.seen_book.proofs.Keeps.{appends}
use Rattle.seen_book.proofs.moves.append_entry.Goals as goal

pub fetch_add-requires : goal.fetch_add-requires
fetch_add-requires g c =
    let w = c.requires.word in
    let h = c.requires.holds in
    let p = c.args.pass.now in
    let slots = c.args.table.now.shared.table_id.slots in
    (w.2, omega (arith, w.0), subst (λ (e : EntryData). Allows {S = Unit {0}} Kept slots p.id (p.me.0, p.me.1) 0 (λ n. (n + 1) % 2 ^ 64) (λ found w. Appended e p.me.0 found w.0 × (w.1 ≡ p.me.1))) c.requires.same_entry (appends c.args.entry.now slots p.id p.me.0 p.me.1 h.0 h.1 c.requires.host c.requires.room))

pub returns-clause-appended : goal.returns-clause-appended
returns-clause-appended g c = subst (λ (e : EntryData). Appended e c.args.pass.now.me.0 c.fetch_add.result c.fetch_add.new.seat.me.0) (sym c.requires.same_entry) c.fetch_add.ensures.2.0
