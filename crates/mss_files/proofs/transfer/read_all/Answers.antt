use Rattle.std.proofs.Common.{◌≡◌, ◌≤◌, ◌+◌, ◌++◌, ℕ, List, length, refl, sym, ap, ◌∙◌, arith, length-append}
use Rattle.mss_base.specs.declared.place.UnitNo.{UnitNo}
use Rattle.mss_files.specs.Files.{bytes_at}
use Rattle.mss_files.proofs.Transfers.{bytes_at-none, read_end, read_more}
use Rattle.mss_files.proofs.transfer.read_all.Goals as goal

pub loop-done-init : goal.loop-done-init
loop-done-init g c = record {
  same = refl;
  within = omega arith;
  front = λ _. sym (bytes_at-none _ c.args.at c.args.into.now);
  kept = λ _. refl;
  still = λ sound. sound;
}

pub loop-done-preserved : goal.loop-done-preserved
loop-done-preserved g c =
    let front = c.split_at_mut-rest.result.0.now in
    let rest = c.read_once.new.into in
    let long : length front ≡ c.loop-done.done = c.split_at_mut-rest.ensures.front_len in
    let left : length rest + c.loop-done.done ≡ length c.args.into.now = omega (arith, c.read_once.auto.into, c.split_at_mut-rest.ensures.back_len, c.loop-done.invariant.same, c.loop-done.invariant.within) in
    record {
      same = length-append front rest ∙ omega (arith, long, left);
      within = omega (arith, length-append front rest, long, left, c.in-Ok.ensures.within, c.read_once.auto.into);
      front = λ told. read_more _ c.args.at c.loop-done.done c.in-Ok.count front rest long (c.split_at_mut-rest.ensures.front ∙ c.loop-done.invariant.front told)
          (c.in-Ok.ensures.bytes told ∙ ap (λ (b : UnitNo → ℕ → ℕ). bytes_at (b c.args.unit.now) (c.args.at + c.loop-done.done) c.in-Ok.count) (c.loop-done.invariant.kept told));
      kept = λ told. c.in-Ok.ensures.kept told ∙ c.loop-done.invariant.kept told;
      still = λ sound. c.read_once.ensures.sound (c.loop-done.invariant.still sound);
    }

pub returns-then-count-eq0-clause-bytes : goal.returns-then-count-eq0-clause-bytes
returns-then-count-eq0-clause-bytes g c = λ told.
    let front = c.split_at_mut-rest.result.0.now in
    let room = length c.read_once.new.into in
    let f = g.F.UnitFiles.byte c.args.files.now c.args.unit.now in
    let whole : c.loop-done.done + room ≡ length c.args.into.now = omega (arith, c.read_once.auto.into, c.split_at_mut-rest.ensures.back_len, c.loop-done.invariant.same, c.loop-done.invariant.within) in
    let some : 1 ≤ length c.split_at_mut-rest.result.1.now = omega (arith, c.loop-done-test.true, c.split_at_mut-rest.ensures.back_len) in
    ap (λ (l : List ℕ). front ++ l) c.blank.ensures
    ∙ read_end f c.args.at c.loop-done.done room front (c.split_at_mut-rest.ensures.front ∙ c.loop-done.invariant.front told)
    (λ place far. sym (ap (λ (b : UnitNo → ℕ → ℕ). b c.args.unit.now place) (c.loop-done.invariant.kept told)) ∙ c.in-Ok.ensures.end told c.if-count-eq0.true some place far)
    ∙ ap (bytes_at f c.args.at) whole
