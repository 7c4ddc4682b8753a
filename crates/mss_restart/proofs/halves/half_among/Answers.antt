use Rattle.std.proofs.Common.{sym, ◌∙◌, ap, arith}
use Rattle.shown_volumes.specs.Faults.{half_with}
use Rattle.mss_base.proofs.FirstFacts.{none_yet, none_next, none_is, found_here}
use Rattle.volume_table.specs.Listed.{row_in_list}
use Rattle.mss_restart.proofs.halves.half_among.Goals as goal

pub loop-number-init : goal.loop-number-init
loop-number-init c = none_yet (half_with (row_in_list c.args.rows.now) c.args.cartridge)

pub returns-then-is_some : goal.returns-then-is_some
returns-then-is_some c =
    let f = half_with (row_in_list c.args.rows.now) c.args.cartridge in
    found_here c.args.count f c.loop-number.number c.half_with-half.result (omega (arith, c.loop-number-test.true)) c.loop-number.invariant
    (ap f (sym c.volume_at.ensures) ∙ sym c.half_with-half.ensures) (sym c.is_some.ensures ∙ c.if-is_some.true)

pub loop-number-preserved : goal.loop-number-preserved
loop-number-preserved c =
    let f = half_with (row_in_list c.args.rows.now) c.args.cartridge in
    none_next c.loop-number.number f c.loop-number.invariant (ap f (sym c.volume_at.ensures) ∙ sym c.half_with-half.ensures ∙ none_is c.half_with-half.result (sym c.is_some.ensures ∙ c.if-is_some.false))
