use Rattle.shown_volumes.proofs.UnderFacts.{allowed_write}
use Rattle.shown_volumes.proofs.law.allowed_changes_may_be_written.Goals as goal

pub returns : goal.returns
returns c = allowed_write
