use Rattle.std.proofs.Common.{◌≡◌, ℕ, zero, suc, ◌∷◌, map, replicate, refl, ◌∙◌, ap}
use Rattle.std.proofs.lemmas.Result.{IfOk-weaker}
use Rattle.volume_table.specs.declared.state.CylinderState.TheVariants.{Blank}
use Rattle.volume_table.specs.States.{state_number}
use Rattle.volume_table.proofs.lists.blank_states.Goals as goal

numbers : (n : ℕ) → map state_number (replicate n Blank) ≡ replicate n 0
numbers zero = refl
numbers (suc n) = ap (λ l. 0 ∷ l) (numbers n)

pub returns : goal.returns
returns c = IfOk-weaker c.of.result _ _ (λ states same. ap (map state_number) same ∙ numbers 404) c.of.ensures.items
