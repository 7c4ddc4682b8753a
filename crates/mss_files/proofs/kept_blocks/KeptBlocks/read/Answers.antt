use Rattle.std.proofs.Common.{◌∙◌}
use Rattle.mss_files.proofs.Keeping.{front_of}
use Rattle.mss_files.proofs.kept_blocks.KeptBlocks.read.Goals as goal

pub returns-then-keeps-clause-bytes : goal.returns-then-keeps-clause-bytes
returns-then-keeps-clause-bytes g c = λ told.
    let keeps = c.keeps.ensures.there c.if-keeps.true in
    c.copy_from_slice.ensures.after
    ∙ front_of _ _ _ _ _ c.requires.inside (c.block-block.ensures.bytes ∙ (c.requires.held told _ keeps.stands).bytes)
