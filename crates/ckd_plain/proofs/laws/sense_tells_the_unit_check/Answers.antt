use Rattle.ckd_plain.proofs.SenseFacts.{told}
use Rattle.ckd_plain.proofs.laws.sense_tells_the_unit_check.Goals as goal

pub returns : goal.returns
returns c = told
