use Rattle.volume_table.proofs.SlotFacts.{told_is_row}
use Rattle.volume_table.proofs.law.told_is_row.Goals as goal

pub returns : goal.returns
returns c = told_is_row
