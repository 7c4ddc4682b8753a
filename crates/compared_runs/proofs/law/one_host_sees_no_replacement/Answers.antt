use Rattle.compared_runs.proofs.Alike.{alike}
use Rattle.compared_runs.proofs.law.one_host_sees_no_replacement.Goals as goal

pub returns : goal.returns
returns g c = λ job one other s t host a b. alike job host (g.C.Choose.may one) (g.D.Choose.may other) s t a b
