use Rattle.core_state.proofs.AnsweredFacts.{stop_adds_none}
use Rattle.core_state.proofs.law.stops_are_not_answered.Goals as goal

pub returns : goal.returns
returns c = stop_adds_none
