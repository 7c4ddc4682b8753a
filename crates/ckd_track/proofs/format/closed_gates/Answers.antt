use Rattle.std.proofs.Common.{◌∙◌, arith}
use Rattle.std.proofs.lemmas.List.{get_or-take, get_or-replicate}
use Rattle.ckd_track.proofs.format.closed_gates.Goals as goal

pub returns-clause-closed : goal.returns-clause-closed
returns-clause-closed c = λ i lt. get_or-take c.args.count _ i 0 lt ∙ get_or-replicate 97 i 0 0 (omega (arith, c.requires.few))
