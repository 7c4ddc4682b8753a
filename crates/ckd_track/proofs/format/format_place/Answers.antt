use Rattle.std.proofs.Common.{arith}
use Rattle.ckd_track.proofs.format.format_place.Goals as goal

pub returns-clause-bytes : goal.returns-clause-bytes
returns-clause-bytes c = λ i. omega (arith, c.type_inv.block i)
