use Rattle.std.proofs.Common.{◌≡◌, ◌++◌}
use Rattle.ckd_track.specs.Track.{reading}
use Rattle.ckd_track.proofs.read.read_front.Given as goal

abbrev pub invariant-loop-record : goal.invariant-loop-record
invariant-loop-record l = l.records.items ++ l.record-iterator.records ≡ (reading l.block).records
