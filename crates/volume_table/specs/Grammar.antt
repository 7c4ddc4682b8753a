-- How a row is spelled, and the first field that spells none.
--
-- A row's block begins with its gate (byte 0), its body (bytes 1 to 510) and its made mark (byte 511). The body has
-- one byte of version, six of the serial, two for each cartridge, one for each page, the mark of a read-only volume,
-- one for each cylinder, and 43 zeros. Version 1, which is read as well, has a zero in the place of the mark. Places
-- here count from the first byte of the body.
use Rattle.std.specs.Prelude.{◌≡◌, ℕ, suc, ◌+◌, ◌*◌, ◌/◌, ◌%◌, ◌==◌, nat_lt, Bool, true, false, ◌&&◌, ◌||◌, if◌then◌else◌, List, [], ◌∷◌, ◌++◌, take, drop, map, replicate, slice_index, Option, Some, None, Result, Ok, Err}
use Rattle.mss_base.specs.Serial.{is_serial_byte}
use Rattle.volume_table.specs.Row.{RowValue}
use Rattle.mss_base.specs.Geometry.{volume_cylinders, row_body_at, row_body_bytes, row_version, old_row_version, row_version_at, row_serial_at, row_first_at, row_second_at, row_pages_at, row_mark_at, row_states_at, row_spares_at, volume_pages, row_spares}
use Rattle.volume_table.specs.declared.fault.RowField.{RowField}
use Rattle.volume_table.specs.declared.fault.RowField.TheVariants as field
use Rattle.volume_table.specs.declared.fault.RowFault.{RowFault}
use Rattle.volume_table.specs.declared.fault.DecodeFault.{DecodeFault}
use Rattle.volume_table.specs.declared.fault.DecodeFault.TheVariants.{Bad, Memory}

-- the part of a block that spells the row
abbrev pub body : List ℕ → List ℕ
body block = take row_body_bytes (drop row_body_at block)

-- a number of two bytes, the higher one first
abbrev pub two : ℕ → List ℕ
two n = n / 256 ∷ n % 256 ∷ []

-- the byte of a page: its frame, or FF for none
abbrev pub page_byte : Option ℕ → ℕ
page_byte None = 255
page_byte (Some frame) = frame

abbrev pub page_of : ℕ → Option ℕ
page_of byte = if nat_lt byte 200 then Some byte else None

-- the mark of a volume that is read-only, or isn't
abbrev pub mark_byte : Bool → ℕ
mark_byte true = 1
mark_byte false = 0

-- how a row is spelled
unfoldable pub spelling : RowValue → List ℕ
spelling r =
    row_version ∷ r.serial ++ (two r.first ++ (two r.second ++ (map page_byte r.pages
    ++ (mark_byte r.read_only ∷ r.states ++ replicate row_spares 0))))

-- the parts of a body
abbrev pub serial_part : List ℕ → List ℕ
serial_part body = take 6 (drop row_serial_at body)

abbrev pub two_at : ℕ → List ℕ → ℕ
two_at place body = 256 * slice_index body place + slice_index body (suc place)

abbrev pub pages_part : List ℕ → List ℕ
pages_part body = take volume_pages (drop row_pages_at body)

abbrev pub states_part : List ℕ → List ℕ
states_part body = take volume_cylinders (drop row_states_at body)

abbrev pub spares_part : List ℕ → List ℕ
spares_part body = take row_spares (drop row_spares_at body)

-- whether a body is of version 1
abbrev pub is_old : List ℕ → Bool
is_old body = slice_index body row_version_at == old_row_version

-- the row of a body, if it spells one
abbrev pub row_at : List ℕ → RowValue
row_at body = record {
  serial = serial_part body;
  read_only = slice_index body row_mark_at == 1;
  first = two_at row_first_at body;
  second = two_at row_second_at body;
  pages = map page_of (pages_part body);
  states = states_part body;
}

-- a field with this value is at fault, unless it is good
abbrev pub unless : Bool → RowField → ℕ → Option RowFault
unless true f value = None
unless false f value = Some (record { field = f; value = value })

infixr 4 ◌then◌
-- the first of two that is there
abbrev pub ◌then◌ : Option RowFault → Option RowFault → Option RowFault
(Some f) then later = Some f
None then later = later

-- the first fault among bytes, by their number and value
abbrev pub first_in : (ℕ → ℕ → Option RowFault) → ℕ → List ℕ → Option RowFault
first_in fault number [] = None
first_in fault number (b ∷ bytes) = fault number b then first_in fault (suc number) bytes

abbrev pub serial_fault : ℕ → ℕ → Option RowFault
serial_fault number b = unless (is_serial_byte b) (field.Serial number) b

abbrev pub cartridge_fault : RowField → ℕ → Option RowFault
cartridge_fault f number = unless (nat_lt number 2048) f number

abbrev pub is_page_byte : ℕ → Bool
is_page_byte b = nat_lt b 200 || (b == 255)

abbrev pub page_fault : ℕ → ℕ → Option RowFault
page_fault page b = unless (is_page_byte b) (field.Page page) b

abbrev pub spare_fault : ℕ → ℕ → Option RowFault
spare_fault number b = unless (b == 0) (field.Spare number) b

abbrev pub version_fault : ℕ → Option RowFault
version_fault b = unless (b == old_row_version || (b == row_version)) field.Version b

-- the byte in front of the states, which is the mark from version 2 on
abbrev pub mark_fault : Bool → ℕ → Option RowFault
mark_fault true b = spare_fault 0 b
mark_fault false b = unless (nat_lt b 2) field.Mark b

-- a state that a cylinder may have, whose page has a frame or has none
abbrev pub is_state : Bool → ℕ → Bool
is_state has_frame b = nat_lt b 2 || (nat_lt b 5 && has_frame)

-- the state of a cylinder, where these are the bytes of the pages
abbrev pub state_fault : List ℕ → ℕ → ℕ → Option RowFault
state_fault pages cylinder b = unless (is_state (nat_lt (slice_index pages (cylinder / 8)) 200) b) (field.State cylinder) b

-- the first field of a body that no row has so, in order of places
unfoldable pub first_fault : List ℕ → Option RowFault
first_fault body =
    version_fault (slice_index body row_version_at)
    then first_in serial_fault 0 (serial_part body)
    then cartridge_fault field.First (two_at row_first_at body)
    then cartridge_fault field.Second (two_at row_second_at body)
    then first_in page_fault 0 (pages_part body)
    then mark_fault (is_old body) (slice_index body row_mark_at)
    then first_in (state_fault (pages_part body)) 0 (states_part body)
    then first_in spare_fault 1 (spares_part body)

abbrev pub row_or_fault : Option RowFault → RowValue → Result RowValue RowFault
row_or_fault None row = Ok row
row_or_fault (Some fault) row = Err fault

-- the row that a body spells, or its first fault
abbrev pub decode : List ℕ → Result RowValue RowFault
decode body = row_or_fault (first_fault body) (row_at body)

-- what a check answered
abbrev pub Finds : {T : Type 0} → Result T RowFault → Option RowFault → Type 0
Finds (Ok _) fault = fault ≡ None
Finds (Err f) fault = fault ≡ Some f

-- what a function returned is what reading gives, unless memory ran out
abbrev pub Gives : Result RowValue DecodeFault → Result RowValue RowFault → Type 0
Gives (Ok row) reading = reading ≡ Ok row
Gives (Err (Bad fault)) reading = reading ≡ Err fault
Gives (Err Memory) reading = Unit {0}
