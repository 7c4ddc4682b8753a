-- Each block of a site in memory has 16,384 bytes.
use Rattle.std.specs.Prelude.{◌≡◌, ℕ, List, length}
use Rattle.std.proofs.Common.{◌∙◌, ap}
use Rattle.mss_base.specs.Content.{content, length-after}
use Rattle.memory_devices.specs.Memory.{content_in}
use Rattle.memory_devices.specs.MemorySite.{told_of}
use Rattle.mss_base.specs.declared.place.UnitNo.{UnitNo}
use Rattle.memory_devices.specs.declared.memory_site.MemorySite.{MemorySite}

pub length-told : (s : MemorySite) (unit : UnitNo) (block : ℕ) → Unit {0} → length (content (told_of s) unit block) ≡ 16384
length-told s unit block _ = length-after (content_in s.start) s.log.items unit block ∙ s.whole unit block

-- the block that was brought last
abbrev pub brought_of : MemorySite → List ℕ
brought_of s = content_in s.blocks s.brought.unit s.brought.block

pub length-brought : (s : MemorySite) → length (brought_of s) ≡ 16384
length-brought s =
    ap (λ (b : List ℕ). length b) (s.kept s.brought.unit s.brought.block)
    ∙ length-told s s.brought.unit s.brought.block tt
