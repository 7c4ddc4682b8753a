use Rattle.std.proofs.Common.{◌≡◌, ◌∙◌, ap, length, Ok, Err, Result}
use Rattle.std.specs.Prelude.{option_map, IfOk}
use Rattle.mss_base.specs.Content.{Content, SiteLog, content}
use Rattle.memory_devices.specs.MemorySite.{told_of}
use Rattle.memory_devices.specs.Tears.{tear_in}
use Rattle.memory_devices.specs.declared.memory_site.MemorySite.{MemorySite}
use Rattle.mss_base.proofs.ContentLemmas.{length-image}
use Rattle.memory_devices.proofs.MemoryLemmas.{held_clone}
use Rattle.memory_devices.proofs.memory_site.MemorySite.stopped_at.Goals as goal

pub holding-requires-clause-whole : goal.holding-requires-clause-whole
holding-requires-clause-whole c unit block =
    let s = c.args.self.now in
    let tear = tear_in (told_of s) c.args.moment (option_map (λ t. t.now) c.args.tear) in
    ap (λ d. length (d unit block)) c.in_ok-start.ensures ∙ length-image (told_of s) c.args.moment tear unit block ∙ s.whole unit block

pub holding-requires-clause-same : goal.holding-requires-clause-same
holding-requires-clause-same c = held_clone c.in_ok-start.start c.in_ok-blocks.blocks c.in_ok-blocks.ensures.cases

-- a site of this log has its content
content_as : {E : Type 0} (log : SiteLog) (d : Content) → content log ≡ d → (r : Result MemorySite E)
    → IfOk r (λ site. told_of site ≡ log) → IfOk r (λ site. content (told_of site) ≡ d)
content_as log d is (Ok site) told = ap content told ∙ is
content_as log d is (Err e) told = tt

pub returns-clause-content : goal.returns-clause-content
returns-clause-content c = content_as _ _ c.in_ok-start.ensures c.holding.result c.holding.ensures.told
