use Rattle.ckd_plain.proofs.ReadBackFacts.{read_back}
use Rattle.ckd_plain.proofs.laws.record_is_found_and_read.Goals as goal

pub returns : goal.returns
returns c = read_back
