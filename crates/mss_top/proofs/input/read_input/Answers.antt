use Rattle.std.proofs.Common.{◌≡◌, ◌≤◌, ℕ, ◌+◌, ◌-◌, ◌++◌, List, [], length, min, refl, sym, ap, ◌∙◌, arith}
use Rattle.mss_top.proofs.Inputs.{take_full, drop_full, take_whole, drop_whole, read_so}
use Rattle.mss_top.proofs.input.read_input.Goals as goal

pub loop-bytes-init : goal.loop-bytes-init
loop-bytes-init g c = record {
  parts = λ _. sym (ap (λ (l : List ℕ). l ++ g.I.Source.left c.args.input.now) c.new-bytes.ensures);
  few = omega (arith, ap length c.new-bytes.ensures);
  piece = omega (arith, c.in_ok-buffer.ensures.len);
  same = refl;
}

-- `room` is 0 only where all that is allowed was read
full : (most count piece room : ℕ) → room ≡ min (most - count) piece → 1 ≤ piece → count ≤ most → room ≡ 0 → count ≡ most
full most count piece room is some few none = omega arith

kept : (most count piece room n now : ℕ) → room ≡ min (most - count) piece → count ≤ most → n ≤ room → now ≡ count + n → now ≤ most
kept most count piece room n now is few within longer = omega arith

pub loop-bytes-preserved : goal.loop-bytes-preserved
loop-bytes-preserved g c =
    let measured : length c.as_slice.result.now ≡ length c.loop-bytes.bytes.items = ap length c.as_slice.ensures in
    record {
      parts = λ told. c.loop-bytes.invariant.parts told ∙ c.in-Ok.ensures.moved told;
      few = kept c.args.most (length c.loop-bytes.bytes.items) 16384 c.min-room.result c.in-Ok.taken _ (omega (arith, c.min-room.ensures, measured)) c.loop-bytes.invariant.few c.in-Ok.ensures.within c.in-Ok.ensures.longer;
      piece = c.loop-bytes.invariant.piece;
      same = c.in-Ok.ensures.cause.same ∙ c.loop-bytes.invariant.same;
    }

pub returns-then-room-eq0-clause-bytes : goal.returns-then-room-eq0-clause-bytes
returns-then-room-eq0-clause-bytes g c = λ told.
    let all : length c.loop-bytes.bytes.items ≡ c.args.most = omega (arith, ap length c.as_slice.ensures, c.min-room.ensures) in
    take_full _ _ (g.I.Source.left c.loop-bytes.input) c.args.most (c.loop-bytes.invariant.parts told) all

pub returns-then-room-eq0-clause-left : goal.returns-then-room-eq0-clause-left
returns-then-room-eq0-clause-left g c = λ told.
    let all : length c.loop-bytes.bytes.items ≡ c.args.most = omega (arith, ap length c.as_slice.ensures, c.min-room.ensures) in
    drop_full _ c.loop-bytes.bytes.items _ c.args.most (c.loop-bytes.invariant.parts told) all

pub returns-then-taken-eq0-clause-bytes : goal.returns-then-taken-eq0-clause-bytes
returns-then-taken-eq0-clause-bytes g c = λ told.
    let none : g.I.Source.left c.take_piece.new.input ≡ [] = c.in-Ok.ensures.end told c.if-taken-eq0.true (omega arith) in
    let few : length c.take_piece.new.bytes.items ≤ c.args.most = omega (arith, c.loop-bytes.invariant.few, c.in-Ok.ensures.longer) in
    take_whole _ _ (g.I.Source.left c.take_piece.new.input) c.args.most (c.loop-bytes.invariant.parts told ∙ c.in-Ok.ensures.moved told) none few

pub returns-then-taken-eq0-clause-left : goal.returns-then-taken-eq0-clause-left
returns-then-taken-eq0-clause-left g c = λ told.
    let none : g.I.Source.left c.take_piece.new.input ≡ [] = c.in-Ok.ensures.end told c.if-taken-eq0.true (omega arith) in
    let few : length c.take_piece.new.bytes.items ≤ c.args.most = omega (arith, c.loop-bytes.invariant.few, c.in-Ok.ensures.longer) in
    drop_whole _ c.take_piece.new.bytes.items _ c.args.most (c.loop-bytes.invariant.parts told ∙ c.in-Ok.ensures.moved told) none few

pub returns-then-room-eq0-clause-cause : goal.returns-then-room-eq0-clause-cause
returns-then-room-eq0-clause-cause g c = read_so _ _ c.loop-bytes.bytes c.loop-bytes.invariant.same

pub returns-then-taken-eq0-clause-cause : goal.returns-then-taken-eq0-clause-cause
returns-then-taken-eq0-clause-cause g c = read_so _ _ c.take_piece.new.bytes (c.in-Ok.ensures.cause.same ∙ c.loop-bytes.invariant.same)
