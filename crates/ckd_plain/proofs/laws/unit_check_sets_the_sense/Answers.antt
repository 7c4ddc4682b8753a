use Rattle.ckd_plain.proofs.SenseFacts.{checked, unchecked}
use Rattle.ckd_plain.proofs.laws.unit_check_sets_the_sense.Goals as goal

pub returns-clause-checked : goal.returns-clause-checked
returns-clause-checked c = checked

pub returns-clause-unchecked : goal.returns-clause-unchecked
returns-clause-unchecked c = unchecked
