use Rattle.std.proofs.Common.{◌∙◌, ap, ℕ, List}
use Rattle.mss_base.specs.Content.{splice}
use Rattle.memory_devices.specs.Memory.{content_in}
use Rattle.mss_base.proofs.ContentLemmas.{is_written}
use Rattle.memory_devices.proofs.memory.write_block.Goals as goal

pub returns-clause-written : goal.returns-clause-written
returns-clause-written c =
    is_written (content_in c.args.blocks.now) (content_in c.take_block-block.new.blocks) (content_in c.put_block.new.blocks) _ c.write.new.self (c.write.ensures ∙ ap (λ (l : List ℕ). splice c.args.offset c.args.bytes.now l) c.take_block-block.ensures.block)
    c.take_block-block.ensures.others c.put_block.ensures.held
