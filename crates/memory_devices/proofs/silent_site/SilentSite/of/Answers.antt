use Rattle.memory_devices.specs.SilentState.{filled_block}
use Rattle.memory_devices.proofs.silent_site.SilentSite.of.Goals as goal

pub invariant_of-result : goal.invariant_of-result
unfolding filled_block
invariant_of-result c = c.in_ok-vec.ensures.items_if_clones_equal (λ y is. is)
