use Rattle.mss_base.specs.Content.{content}
use Rattle.mss_base.specs.Configs.{serial_in}
use Rattle.mss_audit.specs.Listing.{joined_below}
use Rattle.mss_audit.specs.Findings.{row_findings}
use Rattle.mss_audit.proofs.Inspecting.{IsListing}
use Rattle.mss_audit.proofs.RowFacts.{AreSoFar}
use Rattle.mss_audit.proofs.rows.list_rows.Given as goal

abbrev pub invariant-loop-number : goal.invariant-loop-number
invariant-loop-number g l = record {
  rows : g.S.Site.tells → AreSoFar l.number (content (g.S.Site.told l.initial.site)) l.rows;
  going : IsListing g.S.Site l.initial.site l.site l.initial.findings.items l.findings.items (λ c. joined_below l.number (row_findings (serial_in l.volumes) c));
}
