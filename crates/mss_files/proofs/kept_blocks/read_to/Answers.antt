use Rattle.std.proofs.Common.{refl, ◌∙◌, arith}
use Rattle.mss_files.proofs.BlockFacts.{length-part, changes_put, read_whole}
use Rattle.mss_files.proofs.kept_blocks.read_to.Goals as goal

pub returns-clause-block : goal.returns-clause-block
returns-clause-block g c = λ told.
    read_whole c.args.size c.read_all.result c.args.from _ c.args.bytes.now _ _ _ _ _ (omega arith) c.requires.inside c.read_all.auto.into refl
    c.file_place-at.ensures (c.read_all.ensures.bytes told)

pub returns-clause-others : goal.returns-clause-others
returns-clause-others g c =
    changes_put c.args.size c.args.from _ c.args.bytes.now _ (omega arith) c.requires.inside
    (c.read_all.auto.into ∙ length-part c.args.size c.args.from _ c.args.bytes.now (omega arith) c.requires.inside)
