use Rattle.std.proofs.Common.{◌≡◌, None}
use Rattle.mss_base.specs.Firsts.{first_below}
use Rattle.shown_volumes.specs.Faults.{page_with}
use Rattle.volume_table.specs.Listed.{row_in_list}
use Rattle.mss_restart.proofs.pages.page_among.Given as goal

abbrev pub invariant-loop-number : goal.invariant-loop-number
invariant-loop-number l = first_below l.number (page_with (row_in_list l.rows) l.frame l.volume) ≡ None
