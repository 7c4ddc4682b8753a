use Rattle.std.proofs.Common.{◌∙◌, arith}
use Rattle.mss_base.proofs.Settling.{settles_then}
use Rattle.table_pair.proofs.WriteLemmas.{opening, gate_opened, mark_stays, adds_grow, writes_grow}
use Rattle.table_pair.proofs.write.fill_copy.Goals as goal

pub returns-in_err-write_firm-clause-moments : goal.returns-in_err-write_firm-clause-moments
returns-in_err-write_firm-clause-moments g c = λ tells.
    let at = c.args.at.now in
    let put = c.in_ok-put_body.ensures in
    let w = c.write_firm.ensures.logged tells in
    opening at c.args.body.now _ _ (c.requires.closed tells) (c.put_body.ensures.moments tells) (put.done tells) _ (g.met.S.Site.whole c.put_body.new.site at.unit at.block tells) w.0 w.1 (put.firm tells) w.2

pub returns-clause-moments : goal.returns-clause-moments
returns-clause-moments g c = λ tells.
    let at = c.args.at.now in
    let put = c.in_ok-put_body.ensures in
    let w = c.write_firm.ensures.logged tells in
    opening at c.args.body.now _ _ (c.requires.closed tells) (c.put_body.ensures.moments tells) (put.done tells) _ (g.met.S.Site.whole c.put_body.new.site at.unit at.block tells) w.0 w.1 (put.firm tells) w.2

pub returns-clause-done : goal.returns-clause-done
returns-clause-done g c = λ tells.
    let at = c.args.at.now in
    let put = c.in_ok-put_body.ensures in
    gate_opened at c.args.body.now _ _ (c.requires.closed tells) (c.put_body.ensures.moments tells) (put.done tells) _ (g.met.S.Site.whole c.put_body.new.site at.unit at.block tells) (c.in_ok-write_firm.ensures.ok tells)

pub returns-clause-mark : goal.returns-clause-mark
returns-clause-mark g c = λ tells.
    let at = c.args.at.now in
    let put = c.in_ok-put_body.ensures in
    mark_stays at _ _ (c.in_ok-write_firm.ensures.ok tells) ∙ put.mark tells

pub returns-clause-grown : goal.returns-clause-grown
returns-clause-grown g c = λ tells.
    let before = writes_grow _ _ _ (c.put_body.ensures.moments tells) in
    let after = adds_grow _ _ _ (c.in_ok-write_firm.ensures.ok tells) in
    omega (arith, before, after)

pub returns-clause-firm : goal.returns-clause-firm
returns-clause-firm g c = λ tells. settles_then _ _ _ (c.in_ok-put_body.ensures.firm tells) (c.in_ok-write_firm.ensures.firm tells)
