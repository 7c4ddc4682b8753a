use Rattle.ckd_plain.proofs.CommandFacts.{volume_stays}
use Rattle.ckd_plain.proofs.laws.volume_stays_mounted.Goals as goal

pub returns : goal.returns
returns c = volume_stays
