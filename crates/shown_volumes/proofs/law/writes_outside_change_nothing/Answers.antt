use Rattle.shown_volumes.proofs.ShownFacts.{shows_outside}
use Rattle.shown_volumes.proofs.law.writes_outside_change_nothing.Goals as goal

pub returns : goal.returns
returns c = shows_outside
