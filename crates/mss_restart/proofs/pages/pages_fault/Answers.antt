use Rattle.std.proofs.Common.{sym, ◌∙◌, ap, arith}
use Rattle.shown_volumes.specs.Faults.{pages_fault}
use Rattle.mss_base.proofs.FirstFacts.{none_yet, none_next, none_is, found_here}
use Rattle.volume_table.specs.Listed.{row_in_list}
use Rattle.mss_restart.proofs.pages.pages_fault.Goals as goal

pub loop-number-init : goal.loop-number-init
loop-number-init c = none_yet (pages_fault c.args.frames (row_in_list c.args.rows.now))

pub returns-then-is_some : goal.returns-then-is_some
returns-then-is_some c =
    let f = pages_fault c.args.frames (row_in_list c.args.rows.now) in
    found_here 32 f c.loop-number.number c.volume_fault-fault.result (omega (arith, c.loop-number-test.true)) c.loop-number.invariant
    (ap f (sym c.volume_at.ensures) ∙ sym c.volume_fault-fault.ensures) (sym c.is_some.ensures ∙ c.if-is_some.true)

pub loop-number-preserved : goal.loop-number-preserved
loop-number-preserved c =
    let f = pages_fault c.args.frames (row_in_list c.args.rows.now) in
    none_next c.loop-number.number f c.loop-number.invariant (ap f (sym c.volume_at.ensures) ∙ sym c.volume_fault-fault.ensures ∙ none_is c.volume_fault-fault.result (sym c.is_some.ensures ∙ c.if-is_some.false))
