use Rattle.std.proofs.Common.{◌∙◌, ap}
use Rattle.std.specs.Prelude.{option_map}
use Rattle.mss_base.specs.Content.{Content}
use Rattle.memory_devices.specs.Tears.{left_by_stop}
use Rattle.memory_devices.proofs.MemoryLemmas.{held_clone}
use Rattle.memory_devices.proofs.memory_site.MemorySite.blocks_left.Goals as goal

pub returns : goal.returns
returns c =
    let s = c.args.self.now in
    let left = λ (d : Content). left_by_stop (record { start = d; log = s.log.items }) c.args.moment (option_map (λ t. t.now) c.args.tear) in
    c.in_ok-stop.ensures ∙ ap left (held_clone s.start c.in_ok-blocks.blocks c.in_ok-blocks.ensures.cases)
