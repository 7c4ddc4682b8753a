use Rattle.std.proofs.Common.{arith}
use Rattle.mss_base.proofs.Settling.{settles_then}
use Rattle.table_pair.specs.Copies.{copy_on}
use Rattle.table_pair.proofs.WriteLemmas.{shut_clear, rewriting_closed, rewriting_filled, writes_grow}
use Rattle.table_pair.proofs.write.rewrite_copy.Goals as goal

pub fill_copy-requires-clause-clear : goal.fill_copy-requires-clause-clear
fill_copy-requires-clause-clear g c = λ tells clear.
    shut_clear (copy_on (g.S.Site.told c.args.site.now) c.args.at.now) (copy_on (g.S.Site.told c.close_copy.new.site) c.args.at.now) (c.in_ok-close_copy.ensures.done tells) ((c.requires.told tells).clear clear)

pub returns-in_err-close_copy-clause-moments : goal.returns-in_err-close_copy-clause-moments
returns-in_err-close_copy-clause-moments g c = λ tells. rewriting_closed c.args.at.now c.args.body.now _ _ (c.close_copy.ensures.moments tells)

pub returns-in_err-fill_copy-clause-moments : goal.returns-in_err-fill_copy-clause-moments
returns-in_err-fill_copy-clause-moments g c = λ tells.
    let close = c.in_ok-close_copy.ensures in
    rewriting_filled c.args.at.now c.args.body.now _ _ (c.close_copy.ensures.moments tells) _ (close.done tells) (close.firm tells) (c.fill_copy.ensures.moments tells)

pub returns-clause-moments : goal.returns-clause-moments
returns-clause-moments g c = λ tells.
    let close = c.in_ok-close_copy.ensures in
    rewriting_filled c.args.at.now c.args.body.now _ _ (c.close_copy.ensures.moments tells) _ (close.done tells) (close.firm tells) (c.fill_copy.ensures.moments tells)

pub returns-clause-grown : goal.returns-clause-grown
returns-clause-grown g c = λ tells.
    let before = writes_grow _ _ _ (c.close_copy.ensures.moments tells) in
    omega (arith, before, c.in_ok-fill_copy.ensures.grown tells)

pub returns-clause-firm : goal.returns-clause-firm
returns-clause-firm g c = λ tells. settles_then _ _ _ (c.in_ok-close_copy.ensures.firm tells) (c.in_ok-fill_copy.ensures.firm tells)
