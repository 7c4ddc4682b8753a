use Rattle.std.proofs.Common.{Some, subst, arith}
use Rattle.volume_table.specs.Row.{IsRow}
use Rattle.volume_table.proofs.PlaceFacts.{placed}
use Rattle.volume_table.proofs.rows.Rows.change.Goals as goal

pub invariant_of-self : goal.invariant_of-self
invariant_of-self c =
    placed c.self.inside.places.items c.from.result (Some c.apply.new.row) c.self.invariant (omega (arith, c.from.ensures, c.get.ensures.in_range))
    (subst IsRow c.row.view_is c.row.invariant)
