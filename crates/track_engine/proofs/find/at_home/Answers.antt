use Rattle.track_engine.proofs.Volumes.{home_volume}
use Rattle.track_engine.proofs.find.at_home.Goals as goal

pub returns-clause-volume : goal.returns-clause-volume
returns-clause-volume c = home_volume c.args.host.now c.args.multi c.to_home.result c.to_home.ensures
