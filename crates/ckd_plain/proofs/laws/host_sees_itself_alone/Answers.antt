use Rattle.ckd_plain.proofs.HostFacts.{plain_same, other_stays}
use Rattle.ckd_plain.proofs.laws.host_sees_itself_alone.Goals as goal

pub returns-clause-same : goal.returns-clause-same
returns-clause-same c s t h call same = plain_same h s t call same

pub returns-clause-others : goal.returns-clause-others
returns-clause-others c s h other call differ = other_stays h s other call differ
