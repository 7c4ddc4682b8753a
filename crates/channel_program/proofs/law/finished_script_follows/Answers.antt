use Rattle.channel_program.proofs.Scripts.{FollowsToEnd-follows}
use Rattle.channel_program.proofs.law.finished_script_follows.Goals as goal

pub returns : goal.returns
returns c = FollowsToEnd-follows
