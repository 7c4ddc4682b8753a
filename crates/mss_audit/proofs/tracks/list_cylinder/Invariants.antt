use Rattle.shown_volumes.specs.Faults.{row_track_fault}
use Rattle.mss_audit.specs.Listing.{one, joined_below}
use Rattle.mss_audit.specs.Findings.{refusal}
use Rattle.mss_audit.proofs.Inspecting.{IsListing}
use Rattle.mss_audit.proofs.tracks.list_cylinder.Given as goal

abbrev pub invariant-loop-number : goal.invariant-loop-number
invariant-loop-number g l =
    IsListing g.S.Site l.initial.site l.site l.initial.findings.items l.findings.items
    (λ c. joined_below l.number (λ head. one (refusal (row_track_fault c l.volume l.cylinder head l.row))))
