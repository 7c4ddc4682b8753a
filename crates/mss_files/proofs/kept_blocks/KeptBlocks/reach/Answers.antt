use Rattle.std.proofs.Common.{◌≤◌, length, rules}
use Rattle.mss_files.proofs.BlockFacts.{grown}
use Rattle.mss_files.proofs.kept_blocks.KeptBlocks.reach.Goals as goal

pub returns-then-len-count-clause-blocks : goal.returns-then-len-count-clause-blocks
returns-then-len-count-clause-blocks c =
    let fits : length c.args.self.now.bytes.items ≤ c.args.count = search rules in
    grown c.args.self.now.pieces.size c.resize.result _ c.args.count _ c.args.self.now.bytes.items _ c.unwrap.ensures c.resize.ensures.items fits
