use Rattle.channel_program.proofs.Scripts.{FollowsToEnd-push, Follows-begun}
use Rattle.channel_program.proofs.law.script_goes_on.Goals as goal

pub returns-clause-finished : goal.returns-clause-finished
returns-clause-finished c = FollowsToEnd-push

pub returns-clause-begun : goal.returns-clause-begun
returns-clause-begun c = Follows-begun
