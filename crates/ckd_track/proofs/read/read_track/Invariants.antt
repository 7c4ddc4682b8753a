use Rattle.std.proofs.Common.{◌≡◌, length}
use Rattle.ckd_track.specs.Track.{reading}
use Rattle.ckd_track.proofs.ReadLemmas.{prepend}
use Rattle.ckd_track.proofs.read.read_track.Given as goal

abbrev pub invariant-loop-records : goal.invariant-loop-records
invariant-loop-records l = reading l.block ≡ prepend l.records.items l.stored

abbrev pub decreases-loop-records : goal.decreases-loop-records
decreases-loop-records l = length l.stored.records
