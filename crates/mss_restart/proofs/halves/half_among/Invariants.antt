use Rattle.std.proofs.Common.{◌≡◌, None}
use Rattle.mss_base.specs.Firsts.{first_below}
use Rattle.shown_volumes.specs.Faults.{half_with}
use Rattle.volume_table.specs.Listed.{row_in_list}
use Rattle.mss_restart.proofs.halves.half_among.Given as goal

abbrev pub invariant-loop-number : goal.invariant-loop-number
invariant-loop-number l = first_below l.number (half_with (row_in_list l.rows) l.cartridge) ≡ None
