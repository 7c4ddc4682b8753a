use Rattle.volume_table.specs.Listed.{row_in_list}
use Rattle.mss_audit.specs.Listing.{joined_below}
use Rattle.mss_audit.specs.Findings.{track_findings}
use Rattle.mss_audit.proofs.Inspecting.{IsListing}
use Rattle.mss_audit.proofs.tracks.list_tracks.Given as goal

abbrev pub invariant-loop-number : goal.invariant-loop-number
invariant-loop-number g l =
    IsListing g.S.Site l.initial.site l.site l.initial.findings.items l.findings.items
    (λ c. joined_below l.number (track_findings (row_in_list l.rows) c))
