use Rattle.std.proofs.Common.{◌≡◌, ℕ, ◌+◌, ◌-◌, ◌≤◌, length, sym, ap, ◌∙◌, arith}
use Rattle.ckd_track.specs.Track.{Reading, key_length, data_length, record_length, reading_from, reading, place_after}
use Rattle.ckd_track.proofs.FrontLemmas.{place_after-push, place_after-zero}
use Rattle.ckd_track.proofs.TrackFacts.{cost_of_lengths-ge}
use Rattle.ckd_track.proofs.PlaceLemmas.{begins_at}
use Rattle.ckd_track.proofs.in_place.find_place.Goals as goal

pub loop-earlier-init : goal.loop-earlier-init
unfolding reading
loop-earlier-init c = record {
  left = omega arith;
  behind = sym (place_after-zero 256 c.args.block.now);
  few = omega arith;
  cheap = omega arith;
  near = omega arith;
}

pub loop-earlier-preserved : goal.loop-earlier-preserved
loop-earlier-preserved c =
    let b = c.args.block.now in
    let k : ℕ = c.loop-earlier.earlier in
    let place : ℕ = c.loop-earlier.place in
    let one = c.in_ok-cost.ensures in
    let more = cost_of_lengths-ge (key_length place b) (data_length place b) in
    let length_is : c.record_length-place.result ≡ record_length place b = c.record_length-place.ensures in
    let behind = c.loop-earlier.invariant.behind in
    let next : k + 1 - 1 ≡ k - 1 + 1 = omega arith in
    record {
      left = omega (arith, c.loop-earlier.invariant.left, ap (λ (r : Reading). length r.records) one.rest, ap (λ (n : ℕ). length (reading_from (99 - (k + 1)) (k + 1) (place + n) c.in_ok-cost.cost b).records) length_is);
      behind = ap (λ (n : ℕ). place + n) length_is ∙ ap (λ (p : ℕ). p + record_length p b) behind ∙ sym (place_after-push (k - 1) 256 b)
          ∙ ap (λ (n : ℕ). place_after n 256 b) (sym next);
      few = omega (arith, c.loop-earlier.invariant.few, one.cost_, more);
      cheap = one.cheap;
      near = omega (arith, c.loop-earlier.invariant.near, one.cost_, more, length_is);
    }

pub returns : goal.returns
returns c =
    let b = c.args.block.now in
    let same : c.loop-earlier.earlier ≡ c.args.number = omega arith in
    let here = ap (λ (k : ℕ). length (reading_from (99 - k) k c.loop-earlier.place c.loop-earlier.cost b).records) same in
    let there : c.args.number ≤ length (reading b).records =
    omega (arith, c.loop-earlier.invariant.left, here, ap (λ (r : Reading). length r.records) c.in_ok-cost_up_to.ensures.rest) in
    begins_at c.args.number c.loop-earlier.place b c.requires.first there (c.loop-earlier.invariant.behind ∙ ap (λ (k : ℕ). place_after (k - 1) 256 b) same)
