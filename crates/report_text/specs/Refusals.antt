-- Why a site is refused, as one line.
use Rattle.std.specs.Prelude.{ℕ, List, [], ◌++◌, Option, Some, None, if◌then◌else◌, codes, decimal}
use Rattle.volume_table.specs.declared.fault.RowField.{RowField}
use Rattle.volume_table.specs.declared.fault.RowField.TheVariants as field
use Rattle.table_pair.specs.declared.copy.TableCopy.{TableCopy}
use Rattle.table_pair.specs.declared.copy.TableCopy.TheVariants.{A, B}
use Rattle.shown_volumes.specs.declared.refused.Half.{Half}
use Rattle.shown_volumes.specs.declared.refused.Refused.{Refused}
use Rattle.shown_volumes.specs.declared.refused.Refused.TheVariants as refused
use Rattle.report_text.specs.Texts.{place_text}

-- a number, where there is one
abbrev pub number_text : Option ℕ → List ℕ
number_text (Some n) = decimal n
number_text None = []

-- a field of a row, with its place where there are several of its kind
abbrev pub row_field_text : RowField → List ℕ
row_field_text field.Version = codes "version"
row_field_text (field.Serial place) = codes "serial " ++ decimal place
row_field_text field.First = codes "first"
row_field_text field.Second = codes "second"
row_field_text (field.Page page) = codes "page " ++ decimal page
row_field_text (field.Spare place) = codes "spare " ++ decimal place
row_field_text field.Mark = codes "mark"
row_field_text (field.State cylinder) = codes "state " ++ decimal cylinder
row_field_text (field.Slot number) = codes "slot " ++ decimal number

-- a copy of the table
abbrev pub copy_name : TableCopy → List ℕ
copy_name A = codes "A"
copy_name B = codes "B"

-- a part of a volume, by what it is and its number
abbrev pub part_text : List ℕ → ℕ × ℕ → List ℕ
part_text word part = codes " volume " ++ decimal part.0 ++ word ++ decimal part.1

-- a half, by its number
abbrev pub numbered_half : Half → ℕ × ℕ
numbered_half h = (h.volume, if h.second then 2 else 1)

-- a half of a volume
abbrev pub half_text : Half → List ℕ
half_text h = part_text (codes " half ") (numbered_half h)

-- a page of a volume
abbrev pub page_text : ℕ × ℕ → List ℕ
page_text p = part_text (codes " page ") p

-- the line of each refusal; want of memory has its own
unfoldable pub refusal_text : Refused → List ℕ
refusal_text (refused.RowDamaged volume copy fault) =
    codes "restart refused volume " ++ decimal volume ++ codes " copy " ++ copy_name copy
    ++ codes " row " ++ row_field_text fault.field ++ codes " value " ++ decimal fault.value
    ++ codes "\n"
refusal_text (refused.RowUnread volume fault) =
    codes "restart refused volume " ++ decimal volume ++ codes " unread fault " ++ decimal fault
    ++ codes "\n"
refusal_text (refused.SerialDiffers volume kept asked) =
    codes "restart refused volume " ++ decimal volume ++ codes " serial " ++ kept ++ codes " asked "
    ++ asked ++ codes "\n"
refusal_text (refused.CartridgeTwice cartridge first second) =
    codes "restart refused cartridge " ++ decimal cartridge ++ codes " twice" ++ half_text first
    ++ half_text second ++ codes "\n"
refusal_text (refused.FrameGone frame) =
    codes "restart refused frame " ++ decimal frame ++ codes " gone\n"
refusal_text (refused.FrameTwice frame first second) =
    codes "restart refused frame " ++ decimal frame ++ codes " twice" ++ page_text first
    ++ page_text second ++ codes "\n"
refusal_text (refused.TornTrack volume cylinder head) =
    codes "restart refused torn track volume " ++ place_text volume cylinder head ++ codes "\n"
refusal_text (refused.StagedDiffers volume cylinder head) =
    codes "restart refused staged differs volume " ++ place_text volume cylinder head ++ codes "\n"
refusal_text (refused.Stopped fault) =
    codes "restart refused stopped fault " ++ decimal fault ++ codes "\n"
refusal_text refused.Memory = codes "want of memory\n"

-- what each refusal says, behind whatever begins its line; want of memory has a line of its own
unfoldable pub refused_text : Refused → List ℕ
refused_text (refused.RowDamaged volume copy fault) =
    codes "volume " ++ decimal volume ++ codes " copy " ++ copy_name copy
    ++ codes " row " ++ row_field_text fault.field ++ codes " value " ++ decimal fault.value
    ++ codes "\n"
refused_text (refused.RowUnread volume fault) =
    codes "volume " ++ decimal volume ++ codes " unread fault " ++ decimal fault ++ codes "\n"
refused_text (refused.SerialDiffers volume kept asked) =
    codes "volume " ++ decimal volume ++ codes " serial " ++ kept ++ codes " asked " ++ asked
    ++ codes "\n"
refused_text (refused.CartridgeTwice cartridge first second) =
    codes "cartridge " ++ decimal cartridge ++ codes " twice" ++ half_text first ++ half_text second
    ++ codes "\n"
refused_text (refused.FrameGone frame) = codes "frame " ++ decimal frame ++ codes " gone\n"
refused_text (refused.FrameTwice frame first second) =
    codes "frame " ++ decimal frame ++ codes " twice" ++ page_text first ++ page_text second
    ++ codes "\n"
refused_text (refused.TornTrack volume cylinder head) =
    codes "torn track volume " ++ place_text volume cylinder head ++ codes "\n"
refused_text (refused.StagedDiffers volume cylinder head) =
    codes "staged differs volume " ++ place_text volume cylinder head ++ codes "\n"
refused_text (refused.Stopped fault) = codes "stopped fault " ++ decimal fault ++ codes "\n"
refused_text refused.Memory = codes "want of memory\n"
