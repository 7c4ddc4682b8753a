use Rattle.transfers.proofs.DueFacts.{stays}
use Rattle.transfers.proofs.law.copies_stay.Goals as goal

pub returns : goal.returns
returns c = stays
