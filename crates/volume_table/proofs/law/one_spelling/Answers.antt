use Rattle.volume_table.proofs.OneSpelling.{spelled_once}
use Rattle.volume_table.proofs.law.one_spelling.Goals as goal

pub returns : goal.returns
returns c = spelled_once
