use Rattle.std.proofs.Common.{◌≡◌, drop}
use Rattle.mss_base.specs.Configs.{serial_in}
use Rattle.mss_restart.proofs.rows.serial_asked.Given as goal

abbrev pub invariant-loop-entry : goal.invariant-loop-entry
invariant-loop-entry l = serial_in (drop l.entry-index l.volumes) l.volume ≡ serial_in l.volumes l.volume
