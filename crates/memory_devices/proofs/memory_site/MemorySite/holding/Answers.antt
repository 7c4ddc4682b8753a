use Rattle.std.proofs.Common.{◌∙◌, sym, ap, List}
use Rattle.mss_base.specs.Content.{Item, after}
use Rattle.memory_devices.specs.Memory.{content_in}
use Rattle.memory_devices.proofs.memory_site.MemorySite.holding.Goals as goal

pub invariant_of-result : goal.invariant_of-result
invariant_of-result c = record {
  whole = c.requires.whole;
  kept = λ unit block. (λ i. c.requires.same i unit block) ∙ ap (λ (l : List Item). after (content_in c.args.start) l unit block) (sym c.new-2.ensures);
  zeros_ = c.in_ok-zeros.ensures;
}
