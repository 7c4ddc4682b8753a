use Rattle.std.proofs.Common.{ℕ, ◌∷◌, [], ◌++◌, List, length, ◌∙◌, ap, subst, arith}
use Rattle.mss_base.proofs.Settling.{settles_then}
use Rattle.table_journal.specs.Slots.{AppendsSlot}
use Rattle.table_journal.proofs.AppendLemmas.{writes_grow, appends_none, appends_then, slots_kept}
use Rattle.table_journal.proofs.append.append_slot.Goals as goal

pub open_slot-requires-clause-there : goal.open_slot-requires-clause-there
open_slot-requires-clause-there g c = λ tells.
    let kept = slots_kept c.args.at.now c.args.body.now _ _ (c.put_body.ensures.moments tells) in
    ap (λ (xs : List (List ℕ)). length xs) kept.slots_ ∙ c.requires.there tells

pub returns-in_err-put_body-clause-moments : goal.returns-in_err-put_body-clause-moments
returns-in_err-put_body-clause-moments g c = λ tells. appends_none c.args.at.now c.args.body.now _ _ (c.put_body.ensures.moments tells)

pub returns-in_err-open_slot-clause-moments : goal.returns-in_err-open_slot-clause-moments
returns-in_err-open_slot-clause-moments g c = λ tells.
    let at = c.args.at.now in
    appends_then at c.args.body.now _ _ (c.put_body.ensures.moments tells) _ (c.in_ok-put_body.ensures.firm tells)
    (subst (λ (body : List ℕ). AppendsSlot body at (g.S.Site.told c.put_body.new.site) (g.S.Site.told c.open_slot.new.site)) (c.in_ok-put_body.ensures.body_ tells) (c.open_slot.ensures.moments tells))

pub returns-clause-moments : goal.returns-clause-moments
returns-clause-moments g c = λ tells.
    let at = c.args.at.now in
    appends_then at c.args.body.now _ _ (c.put_body.ensures.moments tells) _ (c.in_ok-put_body.ensures.firm tells)
    (subst (λ (body : List ℕ). AppendsSlot body at (g.S.Site.told c.put_body.new.site) (g.S.Site.told c.open_slot.new.site)) (c.in_ok-put_body.ensures.body_ tells) (c.open_slot.ensures.moments tells))

pub returns-clause-done : goal.returns-clause-done
returns-clause-done g c = λ tells.
    let kept = slots_kept c.args.at.now c.args.body.now _ _ (c.put_body.ensures.moments tells) in
    let body = c.in_ok-put_body.ensures.body_ tells in
    c.in_ok-open_slot.ensures.done tells ∙ (λ i. kept.slots_ i ++ body i ∷ [])

pub returns-clause-firm : goal.returns-clause-firm
returns-clause-firm g c = λ tells. settles_then _ _ _ (c.in_ok-put_body.ensures.firm tells) (c.in_ok-open_slot.ensures.firm tells)

pub returns-clause-grown : goal.returns-clause-grown
returns-clause-grown g c = λ tells.
    let first = writes_grow _ _ _ _ (c.put_body.ensures.moments tells) in
    omega (arith, first, c.in_ok-open_slot.ensures.grown tells)
