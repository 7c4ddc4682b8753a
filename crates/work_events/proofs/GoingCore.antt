-- A core that goes on is kept, also where it is seen through a reference.
use Rattle.std.proofs.Common.{◌≡◌, None, ◌∙◌, ap, subst}
use Rattle.core_state.specs.CoreValue.{CoreValue}
use Rattle.core_state.specs.IsCore.{IsCore}

pub going_core : {S C : Type 0} (inside v : CoreValue S C) → inside ≡ v → (inside.stopped ≡ None → IsCore inside) → v.stopped ≡ None → IsCore v
going_core {S} {C} inside v is kept going = subst (λ (x : CoreValue S C). IsCore x) is (kept (ap (λ (x : CoreValue S C). x.stopped) is ∙ going))
