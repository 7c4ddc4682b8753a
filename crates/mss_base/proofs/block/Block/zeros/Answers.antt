use Rattle.mss_base.specs.Zeros.{zeros}
use Rattle.mss_base.proofs.block.Block.zeros.Goals as goal

pub returns : goal.returns
unfolding zeros
returns c = c.in_ok-bytes.ensures.items
