use Rattle.ckd_plain.proofs.SenseFacts.{clears}
use Rattle.ckd_plain.proofs.laws.next_command_clears_the_sense.Goals as goal

pub returns : goal.returns
returns c = clears
