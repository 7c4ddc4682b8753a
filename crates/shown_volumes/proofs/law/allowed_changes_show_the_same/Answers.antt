use Rattle.shown_volumes.proofs.AllowedFacts.{allowed_may}
use Rattle.shown_volumes.proofs.law.allowed_changes_show_the_same.Goals as goal

pub returns : goal.returns
returns c = allowed_may
