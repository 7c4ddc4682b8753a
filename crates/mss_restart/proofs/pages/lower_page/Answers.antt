use Rattle.std.proofs.Common.{sym, ◌∙◌, ap, arith}
use Rattle.mss_restart.specs.Walks.{lower_pages}
use Rattle.mss_base.proofs.FirstFacts.{none_yet, none_next, none_is, found_here}
use Rattle.volume_table.specs.Listed.{row_in_list}
use Rattle.mss_restart.proofs.pages.lower_page.Goals as goal

pub loop-number-init : goal.loop-number-init
loop-number-init c = none_yet (lower_pages (row_in_list c.args.rows.now) c.args.frame)

pub returns-then-is_some : goal.returns-then-is_some
returns-then-is_some c =
    let f = lower_pages (row_in_list c.args.rows.now) c.args.frame in
    found_here c.args.volume f c.loop-number.number c.page_among-page.result (omega (arith, c.loop-number-test.true, c.get-number-end.ensures.value)) c.loop-number.invariant
    (ap f (sym c.volume_at.ensures) ∙ sym c.page_among-page.ensures) (sym c.is_some.ensures ∙ c.if-is_some.true)

pub loop-number-preserved : goal.loop-number-preserved
loop-number-preserved c =
    let f = lower_pages (row_in_list c.args.rows.now) c.args.frame in
    none_next c.loop-number.number f c.loop-number.invariant (ap f (sym c.volume_at.ensures) ∙ sym c.page_among-page.ensures ∙ none_is c.page_among-page.result (sym c.is_some.ensures ∙ c.if-is_some.false))
