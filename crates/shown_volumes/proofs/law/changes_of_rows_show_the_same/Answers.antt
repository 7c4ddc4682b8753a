use Rattle.shown_volumes.proofs.MomentFacts.{change_moments}
use Rattle.shown_volumes.proofs.law.changes_of_rows_show_the_same.Goals as goal

pub returns : goal.returns
returns c = change_moments
