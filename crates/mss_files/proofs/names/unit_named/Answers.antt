use Rattle.mss_files.proofs.Naming.{not_a_name}
use Rattle.mss_files.proofs.names.unit_named.Goals as goal

pub returns-in_default : goal.returns-in_default
returns-in_default c = λ unit. not_a_name c.args.name.now unit _ c.in_default.ensures.cases.0
