use Rattle.std.proofs.Common.{◌∷◌, [], refl}
use Rattle.table_journal.proofs.AppendLemmas.{adds_grow, gate_moments, gate_opened}
use Rattle.table_journal.proofs.append.open_slot.Goals as goal

pub returns-in_err-put-clause-moments : goal.returns-in_err-put-clause-moments
returns-in_err-put-clause-moments g c = λ tells.
    let at = c.args.at.now in
    let w = c.put.ensures.logged tells in
    gate_moments at _ _ c.args.used c.requires.few (c.requires.there tells) (g.met.S.Site.whole c.args.site.now at.unit at.block tells) (c.requires.next tells) _ c.slot_place.ensures w.0 w.1 w.2

pub returns-clause-moments : goal.returns-clause-moments
returns-clause-moments g c = λ tells.
    let at = c.args.at.now in
    let w = c.put.ensures.logged tells in
    gate_moments at _ _ c.args.used c.requires.few (c.requires.there tells) (g.met.S.Site.whole c.args.site.now at.unit at.block tells) (c.requires.next tells) _ c.slot_place.ensures w.0 w.1 w.2

pub returns-clause-done : goal.returns-clause-done
returns-clause-done g c = λ tells.
    let at = c.args.at.now in
    gate_opened at _ _ c.args.used c.requires.few (c.requires.there tells) (g.met.S.Site.whole c.args.site.now at.unit at.block tells) (c.requires.next tells) _ c.slot_place.ensures
    (193 ∷ []) refl refl (c.in_ok-put.ensures.ok tells)

pub returns-clause-grown : goal.returns-clause-grown
returns-clause-grown g c = λ tells. adds_grow _ _ _ (c.in_ok-put.ensures.ok tells)
