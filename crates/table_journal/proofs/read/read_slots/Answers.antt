use Rattle.std.proofs.Common.{◌≡◌, ◌≤◌, inl, inr, true, false, sym, ◌∙◌, arith, rules}
use Rattle.table_journal.proofs.SlotLemmas.{count_begins, count_goes_on, count_ends}
use Rattle.table_journal.proofs.read.read_slots.Goals as goal

pub loop-number-init : goal.loop-number-init
loop-number-init c = count_begins c.args.block.now

pub returns-then-not-is_slot_open-clause-count : goal.returns-then-not-is_slot_open-clause-count
returns-then-not-is_slot_open-clause-count c =
    let shut : c.is_slot_open.result ≡ false = search rules in
    count_ends c.loop-number.number c.args.block.now (inr (sym c.is_slot_open.ensures ∙ shut)) c.loop-number.invariant

pub loop-number-preserved : goal.loop-number-preserved
loop-number-preserved c =
    let opened : c.is_slot_open.result ≡ true = search rules in
    count_goes_on c.loop-number.number c.args.block.now (omega arith) (sym c.is_slot_open.ensures ∙ opened) c.loop-number.invariant

pub returns-clause-count : goal.returns-clause-count
returns-clause-count c =
    let all : 1984 ≤ c.loop-number.number = omega arith in
    let counted = count_ends c.loop-number.number c.args.block.now (inl all) c.loop-number.invariant in
    omega (arith, counted)
