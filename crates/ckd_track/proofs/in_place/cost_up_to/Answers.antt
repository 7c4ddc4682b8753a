use Rattle.std.proofs.Common.{◌≤◌, ◌+◌, length, refl, ap, arith}
use Rattle.ckd_track.specs.Track.{Reading, key_length, data_length, record_length}
use Rattle.ckd_track.proofs.ReadLemmas.{closed_byte_ends, dear_ends, one_read}
use Rattle.ckd_track.proofs.TrackFacts.{cost_of_lengths-ge}
use Rattle.ckd_track.proofs.in_place.cost_up_to.Goals as goal

pub returns-then-block-number : goal.returns-then-block-number
returns-then-block-number c = ap (λ (r : Reading). length r.records) (closed_byte_ends _ _ _ _ _ c.if-block-number.true)

pub returns-then-cost-gt-TRACK_COST : goal.returns-then-cost-gt-TRACK_COST
returns-then-cost-gt-TRACK_COST c = dear_ends _ _ _ _ c.requires.few c.if-block-number.false (omega (arith, c.cost_at.ensures))

pub returns : goal.returns
returns c =
    let more = cost_of_lengths-ge (key_length c.args.place c.args.block.now) (data_length c.args.place c.args.block.now) in
    let inside : c.args.place + record_length c.args.place c.args.block.now ≤ length c.args.block.now = omega (arith, more, c.cost_at.ensures) in
    record {
      cost_ = omega (arith, c.cost_at.ensures);
      cheap = omega arith;
      rest = one_read _ _ _ _ c.requires.few c.if-block-number.false inside _ _ _ refl refl (omega (arith, c.cost_at.ensures)) (omega arith);
    }
