use Rattle.std.proofs.Common.{◌≡◌, drop}
use Rattle.volume_table.specs.Grammar.{first_in, serial_fault}
use Rattle.volume_table.proofs.decode.check_serial.Given as goal

abbrev pub invariant-loop-i : goal.invariant-loop-i
invariant-loop-i l = first_in serial_fault 0 l.bytes ≡ first_in serial_fault l.i (drop l.i l.bytes)
