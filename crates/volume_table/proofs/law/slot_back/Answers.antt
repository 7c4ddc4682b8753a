use Rattle.volume_table.proofs.SlotFacts.{slot_back}
use Rattle.volume_table.proofs.law.slot_back.Goals as goal

pub returns : goal.returns
returns c = slot_back
