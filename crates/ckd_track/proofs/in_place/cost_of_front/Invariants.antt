use Rattle.std.proofs.Common.{◌≡◌, ℕ, ◌+◌, take}
use Rattle.ckd_track.specs.Data.{cost}
use Rattle.ckd_track.specs.Track.{reading}
use Rattle.ckd_track.proofs.in_place.cost_of_front.Given as goal

-- what is passed, and the records still to pass, cost together what is asked
abbrev pub invariant-loop : goal.invariant-loop
invariant-loop l = (left : ℕ) → left + l.counter ≡ l.count → l.cost + cost (take left l.stored.records) ≡ cost (take l.count (reading l.block).records)
