-- Each look finds the record, ends, or leaves one look less.
use Rattle.std.proofs.Common.{◌+◌, ◌-◌, sym, ◌∙◌, arith}
use Rattle.std.proofs.lemmas.Result.{err_from_is_err_and}
use Rattle.ckd_plain.specs.Index.{next_record}
use Rattle.ckd_plain.proofs.IndexFacts.{look_finds, look_passes, look_fails, none_left}
use Rattle.plain_machine.proofs.index.next_record.Goals as goal

pub returns-in-Some : goal.returns-in-Some
unfolding next_record
returns-in-Some c = record {
  found = sym c.loop.invariant ∙ look_finds _ (20 - (c.loop.counter + 1)) _ _ _ _ _ (omega arith) c.candidate-number.ensures _ c.in-Some.ensures.item;
  counted = c.in-Some.ensures.counted;
}

pub loop-preserved : goal.loop-preserved
loop-preserved c =
    sym (look_passes _ _ _ _ _ _ _ (omega arith) c.candidate-number.ensures _ c.in_default.ensures.item (sym c.in_ok-host.ensures)) ∙ c.loop.invariant

pub returns-in_err-host : goal.returns-in_err-host
unfolding next_record
returns-in_err-host c =
    let p = err_from_is_err_and c.from_residual.result c.from_residual.ensures.1 in
    rw (p.1, p.2) (record {
      found = sym c.loop.invariant ∙ look_fails _ (20 - (c.loop.counter + 1)) _ _ _ _ _ (omega arith) c.candidate-number.ensures _ c.in_default.ensures.item (sym c.in_err-host.ensures);
      counted = tt;
    })

pub returns : goal.returns
unfolding next_record
returns c = record { found = sym c.loop.invariant ∙ none_left _ _ _ _ _ (omega arith); counted = tt }
