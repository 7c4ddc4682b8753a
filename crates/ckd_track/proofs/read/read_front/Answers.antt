use Rattle.ckd_track.proofs.TrackFacts.{all_read}
use Rattle.ckd_track.proofs.read.read_front.Goals as goal

pub invariant_of-result : goal.invariant_of-result
invariant_of-result c = all_read _ _ _ c.stored_records-record-items.ensures.track c.loop-record.invariant c.in-None.ensures.steps.0
