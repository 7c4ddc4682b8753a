use Rattle.std.proofs.Common.{◌≡◌, drop}
use Rattle.script_places.specs.Scripts.{script_of}
use Rattle.serial_driver.proofs.drive.script_number.Given as goal

abbrev pub invariant-loop-number : goal.invariant-loop-number
invariant-loop-number l = script_of l.scripts l.host ≡ script_of (drop l.number l.scripts) l.host
