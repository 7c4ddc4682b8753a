-- The findings of tracks, by their row.
use Rattle.std.proofs.Common.{◌≡◌, ℕ, List, [], Option, Some, None, refl, ap, ◌∙◌}
use Rattle.std.specs.Option.{option_and_then}
use Rattle.mss_base.specs.declared.numbers.TheConstants.{CYLINDERS, HEADS}
use Rattle.mss_base.specs.Content.{Content}
use Rattle.volume_table.specs.Row.{RowValue}
use Rattle.shown_volumes.specs.Shown.{RowsOf}
use Rattle.shown_volumes.specs.Faults.{row_track_fault}
use Rattle.mss_audit.specs.declared.finding.Finding.{Finding}
use Rattle.mss_audit.specs.Listing.{joined_below, all_below}
use Rattle.mss_audit.specs.Findings.{refusal, track_findings}
use Rattle.mss_audit.specs.Walks.{row_tracks_findings}
use Rattle.mss_audit.proofs.Joining.{joined_empty}

abbrev tracks_of : Content → ℕ → Option RowValue → List Finding
tracks_of c volume o = joined_below CYLINDERS (λ y. all_below HEADS (λ h. refusal (option_and_then (row_track_fault c volume y h) o)))

pub row_tracks : (rows : RowsOf) (c : Content) (volume : ℕ) (r : RowValue) → rows volume ≡ Some r → track_findings rows c volume ≡ row_tracks_findings c volume r
row_tracks rows c volume r is = ap (tracks_of c volume) is

pub no_tracks : (rows : RowsOf) (c : Content) (volume : ℕ) → rows volume ≡ None → track_findings rows c volume ≡ []
no_tracks rows c volume is = ap (tracks_of c volume) is ∙ joined_empty CYLINDERS _ (λ y _. joined_empty HEADS _ (λ h _. refl))
