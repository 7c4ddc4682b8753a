use Rattle.std.proofs.Common.{◌∙◌, sym, arith}
use Rattle.table_journal.specs.Slots.{slots}
use Rattle.table_pair.proofs.AlikeLemmas.{all_same}
use Rattle.table_pair.proofs.repairs.has_same_slots.Goals as goal

pub returns : goal.returns
returns c =
    let known = c.loop-index.invariant in
    λ _. all_same (slots c.args.a.now) (slots c.args.b.now) (sym known.count_a ∙ known.count_b)
    (λ i low. known.same i (omega (arith, low, known.count_a, c.loop-index-test.false)))
