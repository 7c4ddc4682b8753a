use Rattle.channel_program.proofs.ScriptEnds.{not_to_end}
use Rattle.channel_program.proofs.law.script_is_left.Goals as goal

pub returns : goal.returns
returns c = not_to_end
