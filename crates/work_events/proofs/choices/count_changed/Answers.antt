use Rattle.std.proofs.Common.{◌≡◌, ◌∙◌, sym, ap, ℕ, ◌+◌, ◌*◌, Bool, true, false, length, Option, arith}
use Rattle.std.specs.Prelude.{cond, filter, is_some}
use Rattle.std.specs.List.{range_with_len}
use Rattle.core_state.specs.Pins.{is_changed}
use Rattle.work_events.proofs.FirstLemmas.{count_more, so_some}
use Rattle.work_events.proofs.choices.count_changed.Goals as goal
use Rattle.work_events.proofs.choices.count_changed.Goals.{then-is_some, else-is_some}

counted_more : (p : ℕ → Bool) (from offset count now : ℕ) (b : Bool) → p (from + offset) ≡ b → now ≡ count + cond b 1 0 → count ≡ length (filter p (range_with_len from offset)) → now ≡ length (filter p (range_with_len from (offset + 1)))
counted_more p from offset count now b is e so_far =
    e ∙ ap (λ (k : ℕ). k + cond b 1 0) so_far ∙ ap (λ (x : Bool). length (filter p (range_with_len from offset)) + cond x 1 0) (sym is) ∙ sym (count_more p offset from)

pub loop-offset-preserved : goal.loop-offset-preserved
loop-offset-preserved c =
    let changed : ℕ → Bool = is_changed c.args.rows.now c.args.volume in
    let at : c.from-from.result * 8 ≡ c.args.page * 8 = omega (arith, c.from-from.ensures, c.get.ensures.value) in
    let number : ℕ = c.from-from.result * 8 + c.loop-offset.offset in
    let tested : changed (c.args.page * 8 + c.loop-offset.offset) ≡ c.is_some.result = ap (λ (a : ℕ). changed (a + c.loop-offset.offset)) (sym at) ∙ sym (so_some (changed number) number) ∙ ap (λ (o : Option ℕ). is_some o) (sym c.changed_at.ensures) ∙ sym c.is_some.ensures in
    elim c.if-is_some.branch [
      | then-is_some w ↦ record {
        counted = counted_more changed (c.args.page * 8) c.loop-offset.offset c.loop-offset.count c.if-is_some.count true (tested ∙ w.if-is_some.true) w.count-is c.loop-offset.invariant.counted;
        within = let e = w.count-is in let so_far = c.loop-offset.invariant.within in omega (arith, e, so_far);
      }
      | else-is_some w ↦ record {
        counted = counted_more changed (c.args.page * 8) c.loop-offset.offset c.loop-offset.count c.if-is_some.count false (tested ∙ w.if-is_some.false) (let e = w.count-is in omega (arith, e)) c.loop-offset.invariant.counted;
        within = let e = w.count-is in let so_far = c.loop-offset.invariant.within in omega (arith, e, so_far);
      }
    ]
