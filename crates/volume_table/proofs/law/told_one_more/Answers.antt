use Rattle.volume_table.proofs.SlotFacts.{told_one_more}
use Rattle.volume_table.proofs.law.told_one_more.Goals as goal

pub returns : goal.returns
returns c = told_one_more
