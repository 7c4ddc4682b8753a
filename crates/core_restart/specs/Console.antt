-- The messages of what a restart did to the volumes.
use Rattle.std.specs.Prelude.{◌≡◌, List, [], ◌∷◌, map, None}
use Rattle.mss_restart.specs.declared.steps.OpeningStep.{OpeningStep}
use Rattle.core_state.specs.declared.session.Message.{Message}

-- the message of a step, and the step that a message tells
abbrev pub message_in : OpeningStep → Message
message_in step = record { mark = step.writes; volume = step.volume; change = step.change; freed = None }

abbrev pub step_in : Message → OpeningStep
step_in m = record { volume = m.volume; change = m.change; writes = m.mark }

abbrev pub steps_in : List Message → List OpeningStep
steps_in messages = map step_in messages

-- no message tells that a frame was freed
abbrev pub FreeNone : List Message → Type 0
FreeNone [] = Unit {0}
FreeNone (m ∷ ms) = (m.freed ≡ None) × FreeNone ms
