use Rattle.std.proofs.Common.{◌≡◌, length}
use Rattle.ckd_track.specs.Track.{reading}
use Rattle.ckd_track.proofs.in_place.check_track.Given as goal

abbrev pub invariant-loop : goal.invariant-loop
invariant-loop l = (reading l.block).bad ≡ l.stored.bad

abbrev pub decreases-loop : goal.decreases-loop
decreases-loop l = length l.stored.records
