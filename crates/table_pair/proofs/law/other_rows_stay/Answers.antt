use Rattle.table_pair.proofs.LawLemmas.{others_stay}
use Rattle.table_pair.proofs.law.other_rows_stay.Goals as goal

pub returns : goal.returns
returns c = others_stay
