-- The volumes that a content shows.
use Rattle.std.specs.Prelude.{◌≡◌, ℕ, ◌/◌, ◌==◌, nat_lt, Bool, true, false, ◌&&◌, ◌||◌, if◌then◌else◌, List, [], Option, Some, None}
use Rattle.std.specs.Option.{option_map, option_and_then}
use Rattle.mss_base.specs.Geometry.{volume_cylinders, cylinder_heads}
use Rattle.mss_base.specs.Content.{Content}
use Rattle.mss_base.specs.Places.{cartridge_block, frame_block}
use Rattle.mss_base.specs.declared.place.BlockPlace.{BlockPlace}
use Rattle.mss_base.specs.declared.place.UnitNo.{UnitNo}
use Rattle.mss_base.specs.declared.place.UnitNo.TheVariants.{Cartridge}
use Rattle.ckd_track.specs.Data.{RecordData, Volumes}
use Rattle.ckd_track.specs.Track.{reading}
use Rattle.volume_table.specs.Row.{RowValue, frame_of, state_of, cartridge_with}
use Rattle.table_pair.specs.Pair.{RowReading, known, row_of, is_table}

-- the rows of volumes, by number
abbrev pub RowsOf : Type 0
RowsOf = ℕ → Option RowValue

-- the row that a reading of both copies tells
abbrev pub told_row : RowReading → Option RowValue
told_row (known row missing) = row
told_row _ = None

-- the rows that readings tell; there are volumes 0 to 31
abbrev pub rows_in : (ℕ → RowReading) → RowsOf
rows_in readings volume = if nat_lt volume 32 then told_row (readings volume) else None

-- the rows of a content
abbrev pub rows_of : Content → RowsOf
rows_of c = rows_in (row_of c)

-- the blocks of the table are the same
abbrev pub SameTables : Content → Content → Type 0
SameTables c d = (unit : UnitNo) (block : ℕ) → is_table unit ≡ true → d unit block ≡ c unit block

abbrev pub block_at : Content → BlockPlace → List ℕ
block_at c place = c place.unit place.block

-- where a track lies on its cartridge
abbrev pub on_cartridge : RowValue → ℕ → ℕ → BlockPlace
on_cartridge r cylinder head = record { unit = Cartridge (cartridge_with r cylinder); block = cartridge_block cylinder head }

-- where it lies in its page's frame, if the page has one
abbrev pub in_page : RowValue → ℕ → ℕ → Option BlockPlace
in_page r cylinder head = option_map (λ frame. frame_block frame cylinder head) (frame_of r (cylinder / 8))

-- the place that is shown, by the cylinder's state: none for 0 and 2, which are blank, the cartridge's for 1 and 3, the frame's for 4
abbrev pub source_by : ℕ → Option BlockPlace → BlockPlace → Option BlockPlace
source_by state framed cartridge = if state == 4 then framed else (if (state == 1) || (state == 3) then Some cartridge else None)

-- a volume has 404 cylinders of 19 tracks
abbrev pub is_on_volume : ℕ → ℕ → Bool
is_on_volume cylinder head = nat_lt cylinder volume_cylinders && nat_lt head cylinder_heads

-- where the shown track of a row lies, if it isn't blank anyway
abbrev pub source : RowValue → ℕ → ℕ → Option BlockPlace
source r cylinder head = if is_on_volume cylinder head then source_by (state_of r cylinder) (in_page r cylinder head) (on_cartridge r cylinder head) else None

-- the records of the block at a place, or none
abbrev pub track_at : Content → Option BlockPlace → List RecordData
track_at c None = []
track_at c (Some place) = (reading (block_at c place)).records

-- whether a row, if there is one, makes its volume read-only
abbrev pub is_marked : Option RowValue → Bool
is_marked None = false
is_marked (Some r) = r.read_only

-- what these rows show over a content
abbrev pub shown_by : RowsOf → Content → Volumes
shown_by rows c = record {
  serial = λ volume. option_map (λ r. r.serial) (rows volume);
  read_only = λ volume. is_marked (rows volume);
  track = λ volume cylinder head. track_at c (option_and_then (λ r. source r cylinder head) (rows volume));
}

-- the shown volumes of a content
abbrev pub volumes_shown : Content → Volumes
volumes_shown c = shown_by (rows_of c) c
