use Rattle.table_pair.proofs.PairFacts.{closed_row}
use Rattle.table_pair.proofs.law.closed_copies_tell_none.Goals as goal

pub returns : goal.returns
returns c = closed_row
