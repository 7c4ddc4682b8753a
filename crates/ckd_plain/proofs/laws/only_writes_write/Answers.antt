use Rattle.ckd_plain.proofs.CommandFacts.{only_writes}
use Rattle.ckd_plain.proofs.laws.only_writes_write.Goals as goal

pub returns : goal.returns
returns c = only_writes
