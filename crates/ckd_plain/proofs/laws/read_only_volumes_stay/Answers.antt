use Rattle.ckd_plain.proofs.MarkFacts.{read_only_stays}
use Rattle.ckd_plain.proofs.laws.read_only_volumes_stay.Goals as goal

pub returns : goal.returns
returns c = read_only_stays
