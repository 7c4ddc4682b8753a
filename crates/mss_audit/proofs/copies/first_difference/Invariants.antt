use Rattle.std.proofs.Common.{◌≡◌, None}
use Rattle.mss_base.specs.Firsts.{first_below}
use Rattle.mss_audit.specs.Findings.{difference}
use Rattle.mss_audit.proofs.copies.first_difference.Given as goal

abbrev pub invariant-loop-number : goal.invariant-loop-number
invariant-loop-number l = first_below l.number (difference l.volume l.a l.b) ≡ None
