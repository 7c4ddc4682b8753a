-- The findings of the four walks, as they were listed.
use Rattle.std.proofs.Common.{◌≡◌, ℕ, List, [], ◌++◌, ◌∙◌}
use Rattle.mss_base.specs.Configs.{VolumeData}
use Rattle.mss_base.specs.Content.{Content}
use Rattle.mss_base.specs.Configs.{serial_in}
use Rattle.shown_volumes.specs.Shown.{RowsOf, rows_of}
use Rattle.mss_audit.specs.declared.finding.Finding.{Finding}
use Rattle.mss_audit.specs.Listing.{joined_below}
use Rattle.mss_audit.specs.Findings.{row_findings, rest_findings, findings}

pub all_listed : (asked frames : ℕ) (given volumes : List VolumeData) (now c : Content) (rows : RowsOf) (start of_rows all : List Finding) → asked ≡ frames → given ≡ volumes → now ≡ c → rows ≡ rows_of c → start ≡ []
    → of_rows ≡ start ++ joined_below 32 (row_findings (serial_in given) c) → all ≡ of_rows ++ rest_findings asked rows now → all ≡ findings frames (serial_in volumes) c
unfolding findings
all_listed asked frames given volumes now c rows start of_rows all same_frames same_volumes same_content same_rows none first rest =
    rest ∙ (λ i. (first ∙ (λ j. none j ++ joined_below 32 (row_findings (serial_in (same_volumes j)) c))) i ++ rest_findings (same_frames i) (same_rows i) (same_content i))
