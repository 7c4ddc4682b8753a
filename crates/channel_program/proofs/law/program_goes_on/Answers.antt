use Rattle.channel_program.proofs.Scripts.{Runs-push}
use Rattle.channel_program.proofs.law.program_goes_on.Goals as goal

pub returns : goal.returns
returns c = Runs-push
