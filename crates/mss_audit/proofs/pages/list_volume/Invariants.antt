use Rattle.std.proofs.Common.{◌≡◌, ◌++◌}
use Rattle.volume_table.specs.Listed.{row_in_list}
use Rattle.shown_volumes.specs.Faults.{page_fault}
use Rattle.mss_audit.specs.Listing.{one, joined_below}
use Rattle.mss_audit.specs.Findings.{refusal}
use Rattle.mss_audit.proofs.pages.list_volume.Given as goal

abbrev pub invariant-loop-number : goal.invariant-loop-number
invariant-loop-number l =
    l.findings.items ≡ l.initial.findings.items ++ joined_below l.number (λ page. one (refusal (page_fault l.frames (row_in_list l.rows) l.volume page)))
