use Rattle.victim_rules.proofs.Closing.{closure_narrows}
use Rattle.victim_rules.proofs.law.closures_narrow.Goals as goal

pub returns : goal.returns
returns g c = closure_narrows g.F.Fn
