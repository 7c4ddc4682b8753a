use Rattle.std.proofs.Common.{◌≡◌, ◌∙◌, sym, ap, List, [], ◌∷◌}
use Rattle.memory_devices.specs.Memory.{content_in}
use Rattle.mss_base.specs.Content.{Content, Write, Item, wrote, with_write, after}
use Rattle.mss_base.proofs.ContentLemmas.{after-append}
use Rattle.memory_devices.proofs.memory_site.MemorySiteSite.write.Goals as goal

pub invariant_of-self : goal.invariant_of-self
invariant_of-self c =
    let s = c.args.self.now in
    let w : Write = record { unit = c.args.unit; block = c.args.block; offset = c.args.offset; bytes = c.args.bytes.now } in
    let kept : content_in s.blocks ≡ after (content_in s.start) s.log.items = (λ i unit block. s.kept unit block i) in
    let new : content_in c.write_block.new.blocks ≡ after (content_in s.start) c.push.new.self.items =
    c.write_block.ensures.written ∙ ap (λ (d : Content). with_write d w) kept ∙ sym (after-append (content_in s.start) s.log.items (wrote w ∷ [])) ∙ ap (λ (l : List Item). after (content_in s.start) l) (sym c.push.ensures.items) in
    record { whole = s.whole; kept = λ unit block i. new i unit block; zeros_ = s.zeros_ }
