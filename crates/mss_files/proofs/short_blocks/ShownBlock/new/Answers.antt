use Rattle.mss_files.proofs.ShortFacts.{zeros_at_first}
use Rattle.mss_files.proofs.short_blocks.ShownBlock.new.Goals as goal

pub invariant_of-result-clause-zeros : goal.invariant_of-result-clause-zeros
invariant_of-result-clause-zeros c = zeros_at_first _ c.in_ok-bytes.ensures
