use Rattle.ckd_plain.proofs.CommandFacts.{control_sees_none}
use Rattle.ckd_plain.proofs.laws.control_sees_no_track.Goals as goal

pub returns : goal.returns
returns c = control_sees_none
