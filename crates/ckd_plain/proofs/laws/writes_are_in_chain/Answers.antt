use Rattle.ckd_plain.proofs.WriteFacts.{in_chain}
use Rattle.ckd_plain.proofs.laws.writes_are_in_chain.Goals as goal

pub returns : goal.returns
returns c = in_chain
