use Rattle.table_pair.proofs.PairFacts.{held_row}
use Rattle.table_pair.proofs.law.held_row_is_told.Goals as goal

pub returns : goal.returns
returns c = held_row
