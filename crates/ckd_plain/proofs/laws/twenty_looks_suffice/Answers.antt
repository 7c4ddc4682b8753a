use Rattle.ckd_plain.proofs.LooksFacts.{looks_suffice}
use Rattle.ckd_plain.proofs.laws.twenty_looks_suffice.Goals as goal

pub returns : goal.returns
returns c = looks_suffice
