use Rattle.std.proofs.Common.{rules, ◌≡◌, true, sym, ◌∙◌}
use Rattle.table_pair.specs.Copies.{copy_at}
use Rattle.table_pair.proofs.AlikeLemmas.{alike_need_none}
use Rattle.table_pair.proofs.repairs.tell_the_same.Goals as goal

pub returns : goal.returns
returns c = λ is.
    let open_a : c.is_open.result ≡ true = search rules in
    let open_b : c.is_open-2.result ≡ true = search rules in
    alike_need_none (copy_at c.args.a.now) (copy_at c.args.b.now) (sym c.is_open.ensures ∙ open_a) (sym c.is_open-2.ensures ∙ open_b) (c.are_alike.ensures is)
