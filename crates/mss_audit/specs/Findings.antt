-- All that is wrong with a content, in the order of the four walks of its first fault: over the rows, over the halves
-- of volumes, over the pages, over the tracks. Each item's fault is the one that the first fault takes; where that ends at
-- the first, the list goes on.
use Rattle.std.specs.Prelude.{ℕ, ◌+◌, ◌==◌, false, true, not, List, [], ◌∷◌, ◌++◌, slice_index, Option, Some, None, Ok, Err}
use Rattle.std.specs.Option.{option_map}
use Rattle.mss_base.specs.Geometry.{volume_cylinders, cylinder_heads, row_body_at, row_body_bytes}
use Rattle.mss_base.specs.declared.place.UnitNo.{UnitNo}
use Rattle.mss_base.specs.declared.place.UnitNo.TheVariants.{TableA, TableB}
use Rattle.mss_base.specs.Content.{Content}
use Rattle.mss_base.specs.Firsts.{◌or◌, first_below, where_so}
use Rattle.volume_table.specs.Row.{RowValue}
use Rattle.volume_table.specs.Grammar.{spelling}
use Rattle.table_pair.specs.declared.copy.TableCopy.TheVariants.{A, B}
use Rattle.table_pair.specs.Copies.{copy_at}
use Rattle.table_pair.specs.Pair.{CopyRead, unread, closed, opened, read_of, reading}
use Rattle.shown_volumes.specs.Shown.{RowsOf, rows_of}
use Rattle.shown_volumes.specs.Faults.{read_fault, half_fault, page_fault, track_fault}
use Rattle.shown_volumes.specs.declared.refused.Refused.{Refused}
use Rattle.mss_audit.specs.declared.finding.Finding.{Finding}
use Rattle.mss_audit.specs.declared.finding.Finding.TheVariants.{Refusal, CopyClosed, CopyDamaged, CopyDiffers}
use Rattle.mss_audit.specs.Listing.{one, joined_below, all_below}

-- what a restart would refuse, if there is anything
abbrev pub refusal : Option Refused → Option Finding
refusal = option_map Refusal

-- ---- the two copies of a row, as they were read

-- that two bytes of rows differ, by the place in their blocks, whose bodies stand from place 1 on, behind the gate
abbrev pub unequal : ℕ → ℕ → ℕ → ℕ → Option Finding
unequal volume place a b = where_so (not (a == b)) (CopyDiffers volume place a b)

-- that two bodies differ in the byte of this number
abbrev pub difference : ℕ → List ℕ → List ℕ → ℕ → Option Finding
difference volume a b number =
    unequal volume (number + row_body_at) (slice_index a number) (slice_index b number)

-- the first one of two rows, whatever slots their copies have
abbrev pub differs_at : ℕ → RowValue → RowValue → Option Finding
differs_at volume a b = first_below row_body_bytes (difference volume (spelling a) (spelling b))

-- what copy B says beside the row of copy A
abbrev pub beside_a : ℕ → RowValue → CopyRead → Option Finding
beside_a volume row (closed made) = Some (CopyClosed volume B)
beside_a volume row (opened (Err fault)) = Some (CopyDamaged volume B fault)
beside_a volume row (opened (Ok other)) = differs_at volume row other
beside_a volume row unread = None

-- copy A is closed, which is a fault where copy B has a row
abbrev pub beside_b : ℕ → CopyRead → Option Finding
beside_b volume (opened (Ok row)) = Some (CopyClosed volume A)
beside_b volume _ = None

-- what the copy says that doesn't count, where there is a row
abbrev pub copies_finding : ℕ → CopyRead → CopyRead → Option Finding
copies_finding volume (opened (Ok row)) b = beside_a volume row b
copies_finding volume (closed made) b = beside_b volume b
copies_finding volume _ b = None

-- ---- the four walks

-- a volume's copies, and then its row, beside the serial that is asked of it
abbrev pub copies_findings : ℕ → Option (List ℕ) → CopyRead → CopyRead → List Finding
copies_findings volume asked a b =
    one (copies_finding volume a b) ++ one (refusal (read_fault volume asked (reading a b)))

-- a copy of a volume's row, as it reads
abbrev pub copy_read : Content → UnitNo → ℕ → CopyRead
copy_read c unit volume = read_of (copy_at (c unit volume))

abbrev pub row_findings : (ℕ → Option (List ℕ)) → Content → ℕ → List Finding
row_findings asked c volume =
    copies_findings volume (asked volume) (copy_read c TableA volume) (copy_read c TableB volume)

-- its two halves, the first one first
abbrev pub half_findings : RowsOf → ℕ → List Finding
half_findings rows volume =
    one (refusal (half_fault rows volume false)) ++ one (refusal (half_fault rows volume true))

abbrev pub page_findings : ℕ → RowsOf → ℕ → List Finding
page_findings frames rows volume = all_below 51 (λ page. refusal (page_fault frames rows volume page))

abbrev pub cylinder_findings : RowsOf → Content → ℕ → ℕ → List Finding
cylinder_findings rows c volume cylinder =
    all_below cylinder_heads (λ head. refusal (track_fault rows c volume cylinder head))

abbrev pub track_findings : RowsOf → Content → ℕ → List Finding
track_findings rows c volume = joined_below volume_cylinders (cylinder_findings rows c volume)

-- the findings behind those of the rows
abbrev pub rest_findings : ℕ → RowsOf → Content → List Finding
rest_findings frames rows c =
    joined_below 32 (half_findings rows)
    ++ joined_below 32 (page_findings frames rows)
    ++ joined_below 32 (track_findings rows c)

-- all findings of a content for so many frames, where these serials are asked
unfoldable pub findings : ℕ → (ℕ → Option (List ℕ)) → Content → List Finding
findings frames asked c = joined_below 32 (row_findings asked c) ++ rest_findings frames (rows_of c) c

-- ---- the first refusal of a list

abbrev pub refusal_in : Finding → Option Refused
refusal_in (Refusal refused) = Some refused
refusal_in _ = None

abbrev pub first_refusal : List Finding → Option Refused
first_refusal [] = None
first_refusal (x ∷ xs) = refusal_in x or first_refusal xs
