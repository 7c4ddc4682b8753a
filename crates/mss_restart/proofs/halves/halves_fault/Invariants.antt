use Rattle.std.proofs.Common.{◌≡◌, None}
use Rattle.mss_base.specs.Firsts.{first_below}
use Rattle.shown_volumes.specs.Faults.{halves_fault}
use Rattle.volume_table.specs.Listed.{row_in_list}
use Rattle.mss_restart.proofs.halves.halves_fault.Given as goal

abbrev pub invariant-loop-number : goal.invariant-loop-number
invariant-loop-number l = first_below l.number (halves_fault (row_in_list l.rows)) ≡ None
