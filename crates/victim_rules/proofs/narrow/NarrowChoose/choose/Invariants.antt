use Rattle.victim_rules.specs.Closures.{Refuses}
use Rattle.victim_rules.proofs.narrow.NarrowChoose.choose.Given as goal

abbrev pub invariant-loop-place : goal.invariant-loop-place
invariant-loop-place g l = Refuses g.F.Fn l.self-inside.keeps l.candidates l.place
