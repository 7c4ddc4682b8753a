-- Parts of walks that loops go over.
use Rattle.std.specs.Prelude.{ℕ, List}
use Rattle.mss_base.specs.Geometry.{volume_cylinders, cylinder_heads}
use Rattle.mss_base.specs.Content.{Content}
use Rattle.volume_table.specs.Row.{RowValue}
use Rattle.shown_volumes.specs.Faults.{row_track_fault}
use Rattle.mss_audit.specs.declared.finding.Finding.{Finding}
use Rattle.mss_audit.specs.Listing.{joined_below, all_below}
use Rattle.mss_audit.specs.Findings.{refusal}

-- the findings of one row's tracks
abbrev pub row_cylinder_findings : Content → ℕ → RowValue → ℕ → List Finding
row_cylinder_findings c volume r cylinder = all_below cylinder_heads (λ head. refusal (row_track_fault c volume cylinder head r))

abbrev pub row_tracks_findings : Content → ℕ → RowValue → List Finding
row_tracks_findings c volume r = joined_below volume_cylinders (row_cylinder_findings c volume r)
