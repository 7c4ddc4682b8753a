use Rattle.shown_volumes.proofs.FaultFacts.{sound_from_none, none_from_sound}
use Rattle.shown_volumes.proofs.law.first_fault_is_of_unsound_content.Goals as goal

pub returns : goal.returns
returns c = λ frames asked d. (sound_from_none frames asked d, none_from_sound frames asked d)
