use Rattle.std.proofs.Common.{◌≡◌, ◌≤◌, ◌+◌, ◌∙◌, sym, ap, arith, ℕ}
use Rattle.ckd_track.specs.Track.{place_after, record_length}
use Rattle.ckd_track.proofs.FrontLemmas.{place_after-push, place_after-zero, record_room}
use Rattle.ckd_track.proofs.format.record_place.Goals as goal

pub loop-i-init : goal.loop-i-init
loop-i-init c = (sym (place_after-zero 256 c.args.block.now), omega arith)

pub record_length-place-requires : goal.record_length-place-requires
record_length-place-requires c = omega (arith, c.loop-i.invariant.0, record_room c.loop-i.i c.args.block.now (omega arith), c.requires.whole)

pub overflow_add-place : goal.overflow_add-place
overflow_add-place c =
    let length_is : c.record_length-place.result ≡ record_length (place_after c.loop-i.i 256 c.args.block.now) c.args.block.now = c.record_length-place.ensures ∙ ap (λ (p : ℕ). record_length p c.args.block.now) c.loop-i.invariant.0 in
    let room = record_room c.loop-i.i c.args.block.now (omega arith) in
    let small : c.loop-i.place + c.record_length-place.result ≤ 16384 = omega (arith, c.loop-i.invariant.0, length_is, room, c.requires.whole) in
    omega (arith, small)

pub loop-i-preserved : goal.loop-i-preserved
loop-i-preserved c =
    let length_is : c.record_length-place.result ≡ record_length (place_after c.loop-i.i 256 c.args.block.now) c.args.block.now = c.record_length-place.ensures ∙ ap (λ (p : ℕ). record_length p c.args.block.now) c.loop-i.invariant.0 in
    let room = record_room c.loop-i.i c.args.block.now (omega arith) in
    let next = place_after-push c.loop-i.i 256 c.args.block.now in
    (omega (arith, c.loop-i.invariant.0, length_is, next), omega (arith, c.loop-i.invariant.0, length_is, room, c.requires.whole))
