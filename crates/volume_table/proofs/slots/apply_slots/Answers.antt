use Rattle.std.proofs.Common.{◌≡◌, ◌+◌, ◌*◌, ◌-◌, ◌∙◌, ap, sym, suc, ℕ, List, take, drop, Option, Some, None, Result, Err, arith, add-one}
use Rattle.std.proofs.lemmas.Result.{err_from_is_err_and}
use Rattle.volume_table.specs.Row.{RowValue}
use Rattle.volume_table.specs.declared.fault.RowFault.{RowFault}
use Rattle.volume_table.specs.Slots.{after_slot, changed_by, goes_on, slot_at, slot_fault, slots_from}
use Rattle.volume_table.proofs.slots.apply_slots.Goals as goal

slot_is : (n : ℕ) (bytes : List ℕ) → take (8 * n + 8 - (8 * n + 1)) (drop (8 * n + 1) bytes) ≡ slot_at n bytes
slot_is n bytes =
    let long : 8 * n + 8 - (8 * n + 1) ≡ 7 = omega arith in
    let from : 8 * n + 1 ≡ suc (8 * n) = omega arith in
    λ i. take (long i) (drop (from i) bytes)

module _ (left n : ℕ) (bytes slot : List ℕ) (r : RowValue) (total : Result RowValue RowFault) (so_far : total ≡ changed_by n r (slots_from (suc left) n bytes)) (is : slot ≡ slot_at n bytes) where
  opened : (o : Option RowValue) → after_slot slot r ≡ o → total ≡ goes_on n (slot_at n bytes) (λ next. changed_by (suc n) next (slots_from left (suc n) bytes)) o
  opened o after = so_far ∙ ap (goes_on n (slot_at n bytes) (λ next. changed_by (suc n) next (slots_from left (suc n) bytes))) (ap (λ (s : List ℕ). after_slot s r) (sym is) ∙ after)

  one_done : (next : RowValue) → after_slot slot r ≡ Some next → total ≡ changed_by (n + 1) next (slots_from left (n + 1) bytes)
  one_done next after = opened (Some next) after ∙ (λ i. changed_by (sym (add-one n) i) next (slots_from left (sym (add-one n) i) bytes))

  one_bad : (f : RowFault) → after_slot slot r ≡ None → f ≡ slot_fault n slot → total ≡ Err f
  one_bad f after fault = opened None after ∙ ap (λ (s : List ℕ). Err (slot_fault n s)) (sym is) ∙ ap (λ (g : RowFault). Err g) (sym fault)

pub returns-in_err-apply_slot-clause-err : goal.returns-in_err-apply_slot-clause-err
returns-in_err-apply_slot-clause-err c =
    let n = c.loop-number.number in
    let left = c.args.count - (n + 1) in
    let h = c.in_err-apply_slot.ensures in
    let so_far = c.loop-number.invariant (suc left) (omega arith) in
    let p = err_from_is_err_and c.from_residual.result c.from_residual.ensures.1 in
    rw (p.1, p.2) (one_bad left n c.args.bytes.now _ c.loop-number.row _ so_far (slot_is n c.args.bytes.now) _ h.err h.fault)

pub loop-number-preserved : goal.loop-number-preserved
loop-number-preserved c = λ left at.
    let n = c.loop-number.number in
    let so_far = c.loop-number.invariant (suc left) (omega arith) in
    one_done left n c.args.bytes.now _ c.loop-number.row _ so_far (slot_is n c.args.bytes.now) _ c.in_ok-apply_slot.ensures.ok

pub returns-clause-ok : goal.returns-clause-ok
returns-clause-ok c = c.loop-number.invariant 0 (omega arith)
