use Rattle.victim_rules.specs.Closures.{NarrowMay}
use Rattle.compared_runs.specs.Comparing.{every_name}
use Rattle.compared_runs.proofs.Alike.{compared_alike}
use Rattle.compared_runs.proofs.law.comparisons_of_one_host_are_alike.Goals as goal

pub returns : goal.returns
returns g c = λ job other sessions end host compares. compared_alike job host (NarrowMay g.F.Fn other) every_name sessions end compares
