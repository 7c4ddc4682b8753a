use Rattle.core_state.proofs.AnsweredFacts.{entry_adds_one, later_adds_none}
use Rattle.core_state.proofs.law.entries_are_answered_from_their_marks.Goals as goal

pub returns : goal.returns
returns c = record { since = entry_adds_one; before = later_adds_none }
