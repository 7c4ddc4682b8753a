use Rattle.std.proofs.Common.{◌≡◌, drop}
use Rattle.core_state.specs.Chains.{has_call}
use Rattle.core_state.specs.CoreValue.{seen_core}
use Rattle.script_places.specs.Scripts.{calls_of}
use Rattle.serial_driver.specs.Drives.{hosts_of}
use Rattle.serial_driver.proofs.drive.Drive.some_host_calls.Given as goal

abbrev pub invariant-loop-number : goal.invariant-loop-number
invariant-loop-number g l =
    has_call (calls_of l.self.scripts) (hosts_of l.self.scripts) (seen_core g.S.Site l.self.core)
    ≡ has_call (calls_of l.self.scripts) (drop l.number (hosts_of l.self.scripts)) (seen_core g.S.Site l.self.core)
