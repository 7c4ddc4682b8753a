use Rattle.std.proofs.Common.{arith}
use Rattle.mss_files.proofs.BlockFacts.{block_is}
use Rattle.mss_files.proofs.kept_blocks.block_from.Goals as goal

pub returns-clause-bytes : goal.returns-clause-bytes
returns-clause-bytes c = block_is c.args.size c.args.from _ c.args.bytes.now (omega arith)
