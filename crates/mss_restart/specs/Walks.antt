-- Parts of walks that loops go over.
use Rattle.std.specs.Prelude.{ℕ, Option}
use Rattle.mss_base.specs.Content.{Content}
use Rattle.volume_table.specs.Row.{RowValue}
use Rattle.shown_volumes.specs.declared.refused.Refused.{Refused}
use Rattle.shown_volumes.specs.Shown.{RowsOf}
use Rattle.mss_base.specs.Firsts.{◌or◌, first_below}
use Rattle.mss_base.specs.Geometry.{volume_cylinders, cylinder_heads}
use Rattle.shown_volumes.specs.Faults.{page_with, halves_fault, pages_fault, row_track_fault, tracks_fault}

-- the first page of a volume that has a frame
abbrev pub lower_pages : RowsOf → ℕ → ℕ → Option (ℕ × ℕ)
lower_pages rows frame v = first_below 51 (page_with rows frame v)

-- the faults of one row's tracks
abbrev pub row_cylinder_fault : Content → ℕ → RowValue → ℕ → Option Refused
row_cylinder_fault c volume r cylinder = first_below cylinder_heads (λ head. row_track_fault c volume cylinder head r)

abbrev pub row_tracks_fault : Content → ℕ → RowValue → Option Refused
row_tracks_fault c volume r = first_below volume_cylinders (row_cylinder_fault c volume r)

-- the first fault of the walks behind that over the rows
abbrev pub rest_fault : ℕ → RowsOf → Content → Option Refused
rest_fault frames rows c =
    first_below 32 (halves_fault rows)
    or first_below 32 (pages_fault frames rows)
    or first_below 32 (tracks_fault rows c)
