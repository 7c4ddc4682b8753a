use Rattle.std.proofs.Common.{arith}
use Rattle.channel_program.specs.Script.{at_start}
use Rattle.channel_program.proofs.Scripts.{commands-few}
use Rattle.channel_program.proofs.law.commands_are_few.Goals as goal

pub returns : goal.returns
returns c = λ words xs to run. omega (arith, commands-few words at_start to xs (omega arith) run)
