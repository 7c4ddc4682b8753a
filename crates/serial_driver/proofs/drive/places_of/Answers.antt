use Rattle.std.proofs.Common.{[], ◌+◌, List, take, sym, subst}
use Rattle.script_places.specs.declared.place.Place.{Place}
use Rattle.serial_driver.specs.Drives.{AllStand}
use Rattle.serial_driver.proofs.ScriptPlaces.{stand_next}
use Rattle.serial_driver.proofs.drive.places_of.Goals as goal

pub loop-script-preserved : goal.loop-script-preserved
loop-script-preserved c =
    subst (λ (l : List Place). AllStand [] (take (c.loop-script.script-index + 1) c.args.scripts.now) l)
    (sym c.in_ok-push.ensures.items)
    (stand_next c.args.scripts.now c.loop-script.script-index c.script-item.result c.loop-script.places.items c.start_of.result c.loop-script-test.true c.script-item.is c.loop-script.invariant c.start_of.ensures)
