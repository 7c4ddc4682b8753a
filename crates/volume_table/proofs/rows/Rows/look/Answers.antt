use Rattle.std.proofs.Common.{subst}
use Rattle.volume_table.specs.Listed.{AreRows}
use Rattle.volume_table.proofs.rows.Rows.look.Goals as goal

pub returns-clause-are_rows : goal.returns-clause-are_rows
returns-clause-are_rows c = subst AreRows c.self.view_is c.self.invariant.are_rows
