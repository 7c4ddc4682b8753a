use Rattle.volume_table.proofs.SlotFacts.{same_test}
use Rattle.volume_table.proofs.changes.is_allowed.Goals as goal

pub returns-clause-test : goal.returns-clause-test
returns-clause-test c = same_test c.args.change.now c.args.row.now c.may_change.result c.may_change.ensures
