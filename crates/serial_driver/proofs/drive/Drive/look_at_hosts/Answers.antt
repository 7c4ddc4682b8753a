use Rattle.std.proofs.Common.{◌≡◌, None, subst}
use Rattle.core_state.specs.CoreValue.{seen_core}
use Rattle.core_progress.specs.Progress.{OwnersCall}
use Rattle.script_places.specs.Scripts.{script_of, exchanges_of, calls_of}
use Rattle.script_places.proofs.ScriptFacts.{plays_to_end}
use Rattle.channel_program.specs.Script.{FollowsToEnd}
use Rattle.serial_driver.specs.Drives.{DriveValue, AreScripts}
use Rattle.serial_driver.proofs.OwnerFacts.{owners_call}
use Rattle.serial_driver.proofs.drive.Drive.look_at_hosts.Goals as goal

pub returns-clause-scripts : goal.returns-clause-scripts
returns-clause-scripts g c = subst (λ (d : DriveValue g.row.S.Denot g.row.C.Denot). AreScripts d.scripts) c.self.view_is c.self.invariant.scripts_

pub returns-clause-owners : goal.returns-clause-owners
returns-clause-owners g c =
    subst (λ (d : DriveValue g.row.S.Denot g.row.C.Denot). d.core.stopped ≡ None → OwnersCall (seen_core g.S.Site d.core) (calls_of d.scripts d.core.history)) c.self.view_is
    (owners_call g.S.Site c.self.inside.session.core c.self.inside.scripts.now c.self.inside.places.items c.self.invariant)

pub returns-clause-ended : goal.returns-clause-ended
returns-clause-ended g c = λ h none.
    subst (λ (d : DriveValue g.row.S.Denot g.row.C.Denot). calls_of d.scripts d.core.history h ≡ None → FollowsToEnd (script_of d.scripts h) (exchanges_of h d.core.history)) c.self.view_is
    (plays_to_end (script_of c.self.inside.scripts.now h) (exchanges_of h c.self.inside.session.core.history) (c.self.invariant.plays h)) none
