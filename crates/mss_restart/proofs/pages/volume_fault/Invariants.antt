use Rattle.std.proofs.Common.{◌≡◌, None}
use Rattle.mss_base.specs.Firsts.{first_below}
use Rattle.shown_volumes.specs.Faults.{page_fault}
use Rattle.volume_table.specs.Listed.{row_in_list}
use Rattle.mss_restart.proofs.pages.volume_fault.Given as goal

abbrev pub invariant-loop-number : goal.invariant-loop-number
invariant-loop-number l = first_below l.number (page_fault l.frames (row_in_list l.rows) l.volume) ≡ None
