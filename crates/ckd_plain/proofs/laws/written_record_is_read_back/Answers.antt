use Rattle.ckd_plain.proofs.WrittenFacts.{written_back}
use Rattle.ckd_plain.proofs.laws.written_record_is_read_back.Goals as goal

pub returns : goal.returns
returns c = written_back
