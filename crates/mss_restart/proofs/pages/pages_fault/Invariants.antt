use Rattle.std.proofs.Common.{◌≡◌, None}
use Rattle.mss_base.specs.Firsts.{first_below}
use Rattle.shown_volumes.specs.Faults.{pages_fault}
use Rattle.volume_table.specs.Listed.{row_in_list}
use Rattle.mss_restart.proofs.pages.pages_fault.Given as goal

abbrev pub invariant-loop-number : goal.invariant-loop-number
invariant-loop-number l = first_below l.number (pages_fault l.frames (row_in_list l.rows)) ≡ None
