use Rattle.std.proofs.Common.{◌∙◌, ap}
use Rattle.mss_base.specs.Content.{Content, Write, with_write}
use Rattle.memory_devices.proofs.MemoryLemmas.{held_same}
use Rattle.memory_devices.proofs.memory.grow_block.Goals as goal

pub returns : goal.returns
returns c =
    let w : Write = record { unit = c.args.place.now.unit; block = c.args.place.now.block; offset = c.args.offset; bytes = c.args.bytes.now } in
    record { written = c.write_block.ensures.written ∙ ap (λ (d : Content). with_write d w) (held_same c.args.blocks.now c.reserve.new.self c.in_ok-reserve.ensures.entries) }
