use Rattle.std.proofs.Common.{◌≡◌, [], sym, ap}
use Rattle.ckd_track.specs.Track.{Reading}
use Rattle.ckd_track.proofs.TrackFacts.{all_read}
use Rattle.ckd_track.proofs.read.read_track.Goals as goal

pub invariant_of-result : goal.invariant_of-result
invariant_of-result c =
    let ended = rw c.in_default.is at c.in_ok-record.ensures.next in
    let none : c.loop-records.stored.records ≡ [] = ap (λ (r : Reading). r.records) ended.0 in
    all_read _ _ _ c.stored_records-stored.ensures.track (sym (ap (λ (r : Reading). r.records) c.loop-records.invariant)) none
