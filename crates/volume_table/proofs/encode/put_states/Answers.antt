use Rattle.std.proofs.Common.{◌≡◌, ◌∙◌, ◌+◌, ◌++◌, [], ◌∷◌, sym, ap, ℕ, List, take, map, get_or, arith}
use Rattle.std.proofs.lemmas.List.{map_more, length-map, length-take}
use Rattle.mss_base.specs.Content.{splice}
use Rattle.volume_table.specs.States.{state_number}
use Rattle.volume_table.specs.declared.state.CylinderState.TheVariants.{Blank}
use Rattle.volume_table.proofs.SpellingLemmas.{more, splice_none}
use Rattle.volume_table.proofs.encode.put_states.Goals as goal

pub loop-cylinder-init : goal.loop-cylinder-init
loop-cylinder-init c = sym (splice_none c.args.at c.args.into.now)

pub loop-cylinder-preserved : goal.loop-cylinder-preserved
loop-cylinder-preserved c =
    let states = c.args.states.now in
    let i = c.loop-cylinder.cylinder in
    let byte : c.number.result ≡ state_number (get_or states i Blank) = c.number.ensures.value in
    let front = map state_number (take i states) in
    more c.args.at (c.args.at + i) front (c.number.result ∷ []) c.args.into.now c.loop-cylinder.into c.put.new.into c.loop-cylinder.invariant c.put.ensures (omega (arith, length-map (take i states) state_number, length-take i states)) (omega arith)
    ∙ ap (λ (l : List ℕ). splice c.args.at l c.args.into.now) (ap (λ (b : ℕ). front ++ b ∷ []) byte ∙ sym (map_more state_number states i Blank (omega arith)))
