-- The first fault of a content, in the order of four walks: over the rows and their serials, over the halves of volumes,
-- over the pages, over the tracks.
use Rattle.std.specs.Prelude.{ℕ, ◌==◌, nat_lt, nat_eq, Bool, true, false, not, ◌&&◌, if◌then◌else◌, List, length, Option, Some, None, is_some}
use Rattle.std.specs.Option.{option_map, option_and_then}
use Rattle.std.specs.Cmp.Lexicographic.{pointwise}
use Rattle.mss_base.specs.Geometry.{volume_cylinders, cylinder_heads}
use Rattle.mss_base.specs.Content.{Content}
use Rattle.mss_base.specs.Firsts.{◌or◌, first_below, where_so}
use Rattle.mss_base.specs.declared.place.BlockPlace.{BlockPlace}
use Rattle.ckd_track.specs.Track.{Reading, reading}
use Rattle.volume_table.specs.Row.{RowValue, state_of}
use Rattle.table_pair.specs.Pair.{RowReading, known, damaged, unknown, row_of}
use Rattle.shown_volumes.specs.Shown.{RowsOf, rows_in, block_at, on_cartridge, in_page, source}
use Rattle.shown_volumes.specs.Sound.{cartridge_of, frame_in}
use Rattle.shown_volumes.specs.declared.refused.Half.{Half}
use Rattle.shown_volumes.specs.declared.refused.Refused.{Refused}
use Rattle.shown_volumes.specs.declared.refused.Refused.TheVariants.{RowDamaged, SerialDiffers, CartridgeTwice, FrameGone, FrameTwice, TornTrack, StagedDiffers}

abbrev pub is_same_list : List ℕ → List ℕ → Bool
is_same_list = pointwise nat_eq

-- whether it is there, and this number
abbrev pub is_number : Option ℕ → ℕ → Bool
is_number None n = false
is_number (Some m) n = m == n

-- ---- the rows: the copy that counts spells a row, and the row has the serial that is asked

abbrev pub serial_fault : ℕ → Option RowValue → Option (List ℕ) → Option Refused
serial_fault volume (Some r) (Some asked) = where_so (not (is_same_list r.serial asked)) (SerialDiffers volume r.serial asked)
serial_fault volume _ _ = None

abbrev pub read_fault : ℕ → Option (List ℕ) → RowReading → Option Refused
read_fault volume asked (damaged copy fault) = Some (RowDamaged volume copy fault)
read_fault volume asked (known row missing) = serial_fault volume row asked
read_fault volume asked unknown = None

abbrev pub row_fault : (ℕ → Option (List ℕ)) → (ℕ → RowReading) → ℕ → Option Refused
row_fault asked readings volume = read_fault volume (asked volume) (readings volume)

-- ---- the halves: no earlier one has the same cartridge

abbrev pub half : ℕ → Bool → Half
half volume second = record { volume = volume; second = second }

-- the first half of a volume that has a cartridge
abbrev pub half_with : RowsOf → ℕ → ℕ → Option Half
half_with rows cartridge volume =
    where_so (is_number (cartridge_of rows volume false) cartridge) (half volume false) or where_so (is_number (cartridge_of rows volume true) cartridge) (half volume true)

-- the first half before this one that has a cartridge
abbrev pub earlier_half : RowsOf → ℕ → ℕ → Bool → Option Half
earlier_half rows cartridge volume second =
    first_below volume (half_with rows cartridge) or where_so (second && is_number (cartridge_of rows volume false) cartridge) (half volume false)

abbrev pub half_fault : RowsOf → ℕ → Bool → Option Refused
half_fault rows volume second =
    option_and_then (λ cartridge. option_map (λ first. CartridgeTwice cartridge first (half volume second)) (earlier_half rows cartridge volume second))
    (cartridge_of rows volume second)

abbrev pub halves_fault : RowsOf → ℕ → Option Refused
halves_fault rows volume = half_fault rows volume false or half_fault rows volume true

-- ---- the pages: the frame is one of the first so many, and no earlier page has it

abbrev pub page_with : RowsOf → ℕ → ℕ → ℕ → Option (ℕ × ℕ)
page_with rows frame volume page = where_so (is_number (frame_in rows volume page) frame) (volume, page)

-- the first page before this one that has a frame
abbrev pub earlier_page : RowsOf → ℕ → ℕ → ℕ → Option (ℕ × ℕ)
earlier_page rows frame volume page = first_below volume (λ v. first_below 51 (page_with rows frame v)) or first_below page (page_with rows frame volume)

abbrev pub frame_fault : ℕ → RowsOf → ℕ → ℕ → ℕ → Option Refused
frame_fault frames rows volume page frame =
    where_so (not (nat_lt frame frames)) (FrameGone frame) or option_map (λ first. FrameTwice frame first (volume, page)) (earlier_page rows frame volume page)

abbrev pub page_fault : ℕ → RowsOf → ℕ → ℕ → Option Refused
page_fault frames rows volume page = option_and_then (frame_fault frames rows volume page) (frame_in rows volume page)

abbrev pub pages_fault : ℕ → RowsOf → ℕ → Option Refused
pages_fault frames rows volume = first_below 51 (page_fault frames rows volume)

-- ---- the tracks: the shown block is a track, and the frame's block stands for it where the cylinder is staged

abbrev pub is_torn : Content → Option BlockPlace → Bool
is_torn c None = false
is_torn c (Some place) = is_some (reading (block_at c place)).bad

abbrev pub is_blank : Reading → Bool
is_blank r = (length r.records == 0) && not (is_some r.bad)

-- whether the block in a frame doesn't stand for the track, by the cylinder's state
abbrev pub differs : Content → ℕ → Option BlockPlace → BlockPlace → Bool
differs c state None cartridge = false
differs c state (Some place) cartridge =
    if state == 2 then not (is_blank (reading (block_at c place)))
    else ((state == 3) && not (is_same_list (block_at c place) (block_at c cartridge)))

abbrev pub row_track_fault : Content → ℕ → ℕ → ℕ → RowValue → Option Refused
row_track_fault c volume cylinder head r =
    where_so (is_torn c (source r cylinder head)) (TornTrack volume cylinder head)
    or where_so (differs c (state_of r cylinder) (in_page r cylinder head) (on_cartridge r cylinder head)) (StagedDiffers volume cylinder head)

abbrev pub track_fault : RowsOf → Content → ℕ → ℕ → ℕ → Option Refused
track_fault rows c volume cylinder head = option_and_then (row_track_fault c volume cylinder head) (rows volume)

abbrev pub cylinder_fault : RowsOf → Content → ℕ → ℕ → Option Refused
cylinder_fault rows c volume cylinder = first_below cylinder_heads (track_fault rows c volume cylinder)

abbrev pub tracks_fault : RowsOf → Content → ℕ → Option Refused
tracks_fault rows c volume = first_below volume_cylinders (cylinder_fault rows c volume)

-- ---- the four walks, one after the other

-- the first fault of rows as they were read, over a content
unfoldable pub first_fault_of : ℕ → (ℕ → Option (List ℕ)) → (ℕ → RowReading) → Content → Option Refused
first_fault_of frames asked readings c =
    first_below 32 (row_fault asked readings)
    or first_below 32 (halves_fault (rows_in readings))
    or first_below 32 (pages_fault frames (rows_in readings))
    or first_below 32 (tracks_fault (rows_in readings) c)

-- the first fault of a content for so many frames, where these serials are asked
abbrev pub first_fault : ℕ → (ℕ → Option (List ℕ)) → Content → Option Refused
first_fault frames asked c = first_fault_of frames asked (row_of c) c
