use Rattle.shown_volumes.proofs.MomentFacts.{repair_moments}
use Rattle.shown_volumes.proofs.law.repairs_show_the_same.Goals as goal

pub returns : goal.returns
returns c = repair_moments
