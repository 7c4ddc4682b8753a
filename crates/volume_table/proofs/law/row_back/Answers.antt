use Rattle.volume_table.proofs.SpellingLemmas.{decode_spelling}
use Rattle.volume_table.proofs.law.row_back.Goals as goal

pub returns : goal.returns
returns c = decode_spelling
