use Rattle.volume_copy.specs.Places.{IsReached}
use Rattle.volume_copy.proofs.taken.first_from.Given as goal

abbrev pub invariant-loop-number : goal.invariant-loop-number
invariant-loop-number l = IsReached l.tracks l.number
