use Rattle.volume_copy.proofs.EntryFacts.{whole_is}
use Rattle.volume_copy.proofs.law.whole_copies_are_their_volumes.Goals as goal

pub returns : goal.returns
returns c = whole_is
