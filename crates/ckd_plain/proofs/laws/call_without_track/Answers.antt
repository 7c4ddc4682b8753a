use Rattle.ckd_plain.proofs.ResponseFacts.{call_responds}
use Rattle.ckd_plain.proofs.laws.call_without_track.Goals as goal

pub returns : goal.returns
returns c = call_responds
