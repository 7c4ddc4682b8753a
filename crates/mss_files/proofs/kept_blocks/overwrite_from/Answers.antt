use Rattle.std.proofs.Common.{◌≡◌, length, ◌∙◌, arith}
use Rattle.mss_files.proofs.BlockFacts.{length-part, overwritten, changes_put}
use Rattle.mss_files.proofs.kept_blocks.overwrite_from.Goals as goal

pub returns-clause-block : goal.returns-clause-block
returns-clause-block c =
    let whole : length c.overwrite.new.block ≡ c.args.size = c.overwrite.auto.block ∙ length-part c.args.size c.args.from _ c.args.bytes.now (omega arith) c.requires.inside in
    overwritten c.args.size c.args.from _ c.args.offset c.args.bytes.now _ c.args.new.now (omega arith) c.requires.inside whole c.overwrite.ensures

pub returns-clause-others : goal.returns-clause-others
returns-clause-others c =
    let whole : length c.overwrite.new.block ≡ c.args.size = c.overwrite.auto.block ∙ length-part c.args.size c.args.from _ c.args.bytes.now (omega arith) c.requires.inside in
    changes_put c.args.size c.args.from _ c.args.bytes.now _ (omega arith) c.requires.inside whole
