use Rattle.volume_table.proofs.RowLemmas.{row-changed}
use Rattle.volume_table.proofs.law.changed_row_is_row.Goals as goal

pub returns : goal.returns
returns c = row-changed
