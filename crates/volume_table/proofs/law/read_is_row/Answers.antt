use Rattle.volume_table.proofs.OneSpelling.{decoded_row}
use Rattle.volume_table.proofs.law.read_is_row.Goals as goal

pub returns : goal.returns
returns c = decoded_row
