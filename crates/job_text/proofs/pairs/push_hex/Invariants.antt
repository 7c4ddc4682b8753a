use Rattle.std.proofs.Common.{length}
use Rattle.mss_base.proofs.Putting.{Part}
use Rattle.job_text.specs.Canonical.{hex}
use Rattle.job_text.proofs.pairs.push_hex.Given as goal

abbrev pub invariant-loop-rest : goal.invariant-loop-rest
invariant-loop-rest l = Part l.fn.out.items l.out.items (hex l.rest) (hex l.bytes)

abbrev pub decreases-loop-rest : goal.decreases-loop-rest
decreases-loop-rest l = length l.rest
