-- Each volume is put beside those before it.
use Rattle.std.proofs.Common.{◌≡◌, ℕ, List, ◌∷◌, [], ◌++◌, take, get_or, sym, ap, subst, ◌∙◌}
use Rattle.std.proofs.lemmas.List.{get_or_read, take_more}
use Rattle.mss_base.specs.Configs.{VolumeData as Labelled}
use Rattle.ckd_plain.specs.Plain.{start_of, blank_volumes}
use Rattle.plain_machine.specs.StateData.{state_of}
use Rattle.plain_machine.proofs.BlankFacts.{nobody, IsNew, blank_none, blank_put, new_before}
use Rattle.plain_machine.proofs.state.PlainState.blank.Goals as goal

pub loop-number-init : goal.loop-number-init
loop-number-init c = blank_none c.in_ok-state.state c.in_ok-state.ensures

pub loop-number-preserved : goal.loop-number-preserved
loop-number-preserved c =
    let xs : List Labelled = c.args.volumes.now in
    let i : ℕ = c.loop-number.number-index in
    let x : Labelled = c.loop-number-item.result in
    let here : x ≡ get_or xs i nobody = get_or_read xs i x c.loop-number-test.true c.loop-number-item.is nobody in
    let new : IsNew x.0 (take i xs) = subst (λ (y : Labelled). IsNew y.0 (take i xs)) (sym here) (new_before xs i c.requires c.loop-number-test.true) in
    ap state_of c.put.ensures.value
    ∙ blank_put c.loop-number.state (take i xs) x c.in_ok-blank.field-0 c.loop-number.invariant c.put.ensures.place new c.in_ok-blank.ensures.serial c.in_ok-blank.ensures.read_only c.in_ok-blank.ensures.cylinders
    ∙ ap (λ (ys : List Labelled). start_of (blank_volumes ys)) (ap (λ (y : Labelled). take i xs ++ y ∷ []) here ∙ sym (take_more xs i nobody c.loop-number-test.true))
