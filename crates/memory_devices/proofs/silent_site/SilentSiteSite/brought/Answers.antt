use Rattle.std.proofs.Common.{◌∙◌, ap, ℕ, List, length}
use Rattle.memory_devices.specs.SilentState.{length-filled_block}
use Rattle.memory_devices.proofs.silent_site.SilentSiteSite.brought.Goals as goal

pub returns-clause-whole : goal.returns-clause-whole
returns-clause-whole c = ap (λ (b : List ℕ). length b) (c.deref.ensures.value ∙ c.self.invariant) ∙ length-filled_block c.self.inside.filler
