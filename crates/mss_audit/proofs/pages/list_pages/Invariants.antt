use Rattle.std.proofs.Common.{◌≡◌, ◌++◌}
use Rattle.volume_table.specs.Listed.{row_in_list}
use Rattle.mss_audit.specs.Listing.{joined_below}
use Rattle.mss_audit.specs.Findings.{page_findings}
use Rattle.mss_audit.proofs.pages.list_pages.Given as goal

abbrev pub invariant-loop-number : goal.invariant-loop-number
invariant-loop-number l =
    l.findings.items ≡ l.initial.findings.items ++ joined_below l.number (page_findings l.frames (row_in_list l.rows))
