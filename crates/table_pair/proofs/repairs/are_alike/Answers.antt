use Rattle.std.proofs.Common.{rules, ◌≡◌, true}
use Rattle.table_pair.proofs.AlikeLemmas.{alike_blocks}
use Rattle.table_pair.proofs.repairs.are_alike.Goals as goal

pub returns : goal.returns
returns c = λ is.
    let one : c.has_same_body.result ≡ true = search rules in
    alike_blocks c.args.a.now c.args.b.now _ _ c.as_slice-a.ensures.bytes c.as_slice-b.ensures.bytes (c.has_same_body.ensures one) (c.has_same_slots.ensures is)
