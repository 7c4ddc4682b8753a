use Rattle.std.proofs.Common.{arith}
use Rattle.volume_table.proofs.PlaceFacts.{placed}
use Rattle.volume_table.proofs.rows.Rows.put.Goals as goal

pub invariant_of-self : goal.invariant_of-self
invariant_of-self c = placed c.self.inside.places.items c.from.result c.args.row c.self.invariant (omega (arith, c.from.ensures, c.get.ensures.in_range)) c.look.ensures
