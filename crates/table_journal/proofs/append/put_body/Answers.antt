use Rattle.std.proofs.Common.{◌+◌, arith}
use Rattle.table_journal.proofs.AppendLemmas.{body_moments, body_there, next_there}
use Rattle.table_journal.proofs.append.put_body.Goals as goal

pub returns-in_err-put-clause-moments : goal.returns-in_err-put-clause-moments
returns-in_err-put-clause-moments g c = λ tells.
    let w = c.put.ensures.logged tells in
    body_moments c.args.at.now _ _ c.args.used c.requires.few (c.requires.there tells) _ w.0 (omega (arith, c.slot_place-place.ensures)) w.2

pub returns-clause-moments : goal.returns-clause-moments
returns-clause-moments g c = λ tells.
    let w = c.put.ensures.logged tells in
    body_moments c.args.at.now _ _ c.args.used c.requires.few (c.requires.there tells) _ w.0 (omega (arith, c.slot_place-place.ensures)) w.2

pub returns-clause-body_ : goal.returns-clause-body_
returns-clause-body_ g c = λ tells.
    let at = c.args.at.now in
    body_there at _ _ (g.met.S.Site.whole c.args.site.now at.unit at.block tells) c.args.used (c.slot_place-place.result + 1) c.min-length.result (omega (arith, c.slot_place-place.ensures))
    c.args.body.now c.with_next_gate-bytes.result c.requires.long c.with_next_gate-bytes.ensures
    (omega (arith, c.min-length.ensures, c.slot_place-place.ensures)) (omega (arith, c.min-length.ensures)) (omega (arith, c.min-length.ensures, c.slot_place-place.ensures)) (c.in_ok-put.ensures.ok tells)

pub returns-clause-next : goal.returns-clause-next
returns-clause-next g c = λ tells.
    let at = c.args.at.now in
    next_there at _ _ (g.met.S.Site.whole c.args.site.now at.unit at.block tells) c.args.used (c.slot_place-place.result + 1) c.min-length.result (omega (arith, c.slot_place-place.ensures))
    c.args.body.now c.with_next_gate-bytes.result c.requires.long c.with_next_gate-bytes.ensures
    (omega (arith, c.min-length.ensures, c.slot_place-place.ensures)) (omega (arith, c.min-length.ensures)) (omega (arith, c.min-length.ensures, c.slot_place-place.ensures)) (c.in_ok-put.ensures.ok tells)
    (λ there. omega (arith, c.min-length.ensures, c.slot_place-place.ensures))
