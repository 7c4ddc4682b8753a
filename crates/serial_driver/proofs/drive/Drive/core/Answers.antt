use Rattle.std.proofs.Common.{subst}
use Rattle.channel_program.specs.Script.{Follows}
use Rattle.script_places.specs.Scripts.{script_of, exchanges_of}
use Rattle.script_places.proofs.ScriptFacts.{plays_follows}
use Rattle.serial_driver.proofs.drive.Drive.core.Goals as goal

pub returns-clause-follows : goal.returns-clause-follows
returns-clause-follows g c = λ h. subst (λ d. Follows (script_of d.scripts h) (exchanges_of h d.core.history)) c.self.view_is (plays_follows _ _ (c.self.invariant.plays h))
