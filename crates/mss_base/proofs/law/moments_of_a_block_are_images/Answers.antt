use Rattle.mss_base.proofs.Moments.{moments_of_a_block}
use Rattle.mss_base.proofs.law.moments_of_a_block_are_images.Goals as goal

pub returns : goal.returns
returns g c = λ unit block old new. moments_of_a_block unit block g.P.BlockFact.holds old new
