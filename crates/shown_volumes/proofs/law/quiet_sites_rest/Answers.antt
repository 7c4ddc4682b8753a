use Rattle.std.proofs.Common.{length, refl}
use Rattle.shown_volumes.proofs.QuietFacts.{quiet_rests}
use Rattle.shown_volumes.proofs.law.quiet_sites_rest.Goals as goal

pub returns : goal.returns
returns c = λ frames s tear sound quiet. quiet_rests frames s quiet sound (length s.log) tear refl
