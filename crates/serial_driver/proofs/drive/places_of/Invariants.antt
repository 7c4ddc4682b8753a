use Rattle.std.proofs.Common.{[], take}
use Rattle.serial_driver.specs.Drives.{AllStand}
use Rattle.serial_driver.proofs.drive.places_of.Given as goal

abbrev pub invariant-loop-script : goal.invariant-loop-script
invariant-loop-script l = AllStand [] (take l.script-index l.scripts) l.places.items
