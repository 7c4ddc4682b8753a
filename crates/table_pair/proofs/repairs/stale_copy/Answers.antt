use Rattle.std.proofs.Common.{◌≡◌, List, ℕ, Option, Some, subst}
use Rattle.volume_table.specs.Row.{RowValue}
use Rattle.table_pair.specs.Copies.{copy_at, HasGates}
use Rattle.table_pair.specs.Repairs.{TellsRow}
use Rattle.table_pair.proofs.FollowLemmas.{tells_other, refuted}
use Rattle.table_pair.proofs.repairs.stale_copy.Goals as goal

pub returns : goal.returns
returns c =
    let a = copy_at c.args.a.now in
    let b = copy_at c.args.b.now in
    let open_a = subst (λ (o : Option RowValue). TellsRow o a) c.in-Some-2.is c.in_ok-row.ensures in
    record {
      behind = (
        tells_other a b c.in_ok-by_b.by_b c.in_ok-by_b.ensures c.in-Some-2.row open_a (refuted c.tells.result (c.in_ok-by_b.by_b ≡ Some c.in-Some-2.row) c.if-tells.false c.tells.ensures.1),
        open_a,
      );
      gates = subst (λ (bytes : List ℕ). HasGates c.gates_of-2.result (copy_at bytes)) c.as_slice-2.ensures.bytes c.gates_of-2.ensures;
    }
