use Rattle.std.proofs.Common.{◌∙◌, sym}
use Rattle.memory_devices.proofs.MemoryLemmas.{held_empty, length-held_empty}
use Rattle.memory_devices.proofs.memory_site.MemorySite.new.Goals as goal

pub holding-requires-clause-whole : goal.holding-requires-clause-whole
holding-requires-clause-whole c = length-held_empty c.new.result c.new.ensures.empty

pub holding-requires-clause-same : goal.holding-requires-clause-same
holding-requires-clause-same c i unit block = (held_empty c.new-2.result c.new-2.ensures.empty unit block ∙ sym (held_empty c.new.result c.new.ensures.empty unit block)) i
