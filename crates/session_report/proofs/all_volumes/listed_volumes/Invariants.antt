use Rattle.std.proofs.Common.{◌≡◌, ◌+◌, ◌≤◌}
use Rattle.std.specs.Option.{option_map}
use Rattle.volume_table.specs.Listed.{row_in_list}
use Rattle.shown_volumes.specs.Shown.{is_marked}
use Rattle.session_report.specs.Reports.{volumes_below}
use Rattle.session_report.proofs.all_volumes.listed_volumes.Given as goal

abbrev pub invariant-loop-number : goal.invariant-loop-number
invariant-loop-number l =
    (l.volumes.items ≡ volumes_below l.number (λ volume. option_map (λ r. r.serial) (row_in_list l.rows volume))
    (λ volume. is_marked (row_in_list l.rows volume)))
    × (32 ≤ l.volumes.spare + l.number)
