-- The text of a report. Each line ends with a line feed.
use Rattle.std.specs.Prelude.{ℕ, zero, suc, ◌+◌, ◌/◌, ◌%◌, Bool, true, false, List, [], ◌∷◌, ◌++◌, Option}
use Rattle.std.specs.Prelude.{Some, None, if◌then◌else◌, codes, decimal}
use Rattle.std.specs.List.{flat_map}
use Rattle.channel_commands.specs.Data.{CallData, mount, demount, command, break, ReplyData, done}
use Rattle.channel_commands.specs.Data.{mounted, demounted, already_mounted, not_mounted, no_volume}
use Rattle.channel_commands.specs.Data.{in_chain, program_check, chain_limit, equipment_check}
use Rattle.channel_commands.specs.Data.{no_space, stopped}
use Rattle.ckd_track.specs.Data.{RecordData}
use Rattle.ckd_plain.specs.History.{EntryData}
use Rattle.job_text.specs.Canonical.{hex, hex_byte}
use Rattle.volume_table.specs.declared.changes.Change.{Change}
use Rattle.volume_table.specs.declared.changes.Change.TheVariants.{Create, Assign, Free, Staged}
use Rattle.volume_table.specs.declared.changes.Change.TheVariants.{Changed, Destaged, Protect}

-- ---- bytes

-- ` data HEX` where there are data
abbrev pub data_text : List ℕ → List ℕ
data_text [] = []
data_text (b ∷ bytes) = codes " data " ++ hex (b ∷ bytes)

-- a key or data, `-` where empty
abbrev pub field_text : List ℕ → List ℕ
field_text [] = codes "-"
field_text (b ∷ bytes) = hex (b ∷ bytes)

-- ---- the history

-- ` fault n` where the entry keeps a fault
abbrev pub fault_text : Option ℕ → List ℕ
fault_text None = []
fault_text (Some n) = codes " fault " ++ decimal n

-- ` bind` where the mount keeps the staged pages of its volume
abbrev pub bind_text : Bool → List ℕ
bind_text bind = if bind then codes " bind" else []

-- what the host asked
abbrev pub call_text : CallData → List ℕ
call_text (mount volume bind) = codes "mount " ++ decimal volume ++ bind_text bind
call_text demount = codes "demount"
call_text (command code argument chained) = codes "ccw " ++ hex_byte code
call_text (break cause) = codes "break"

-- what it was told
abbrev pub reply_text : ReplyData → Option ℕ → List ℕ
reply_text (done status bytes) fault = codes "status " ++ hex_byte status ++ data_text bytes
reply_text mounted fault = codes "mounted"
reply_text demounted fault = codes "demounted"
reply_text already_mounted fault = codes "already mounted"
reply_text not_mounted fault = codes "not mounted"
reply_text no_volume fault = codes "no volume"
reply_text in_chain fault = codes "in chain"
reply_text program_check fault = codes "program check"
reply_text chain_limit fault = codes "chain limit"
reply_text equipment_check fault = codes "equipment check" ++ fault_text fault
reply_text no_space fault = codes "no space"
reply_text stopped fault = codes "stopped" ++ fault_text fault

-- the line of the entry at place n of the history, from 1
unfoldable pub entry_text : ℕ → EntryData → List ℕ
entry_text n e =
    codes "entry " ++ decimal n ++ codes " host " ++ decimal e.host ++ codes " " ++ call_text e.call
    ++ codes " " ++ reply_text e.reply e.fault ++ codes "\n"

-- lines that are numbered from n on
abbrev pub numbered_lines : {A : Type 0} → (ℕ → A → List ℕ) → ℕ → List A → List ℕ
numbered_lines text n [] = []
numbered_lines text n (x ∷ xs) = text n x ++ numbered_lines text (n + 1) xs

-- the first line of a report, and the line of each entry
unfoldable pub history_text : List EntryData → List ℕ
history_text entries = codes "MSS REPORT 1\n" ++ numbered_lines entry_text 1 entries

-- ---- the changes of rows

-- the frame that a page gave back, `-` where none is told
abbrev pub frame_text : Option ℕ → List ℕ
frame_text (Some frame) = decimal frame
frame_text None = codes "-"

-- what happened to a row; `freed` is the frame that a page gave back
abbrev pub change_text : Change → Option ℕ → List ℕ
change_text (Create serial first second) freed =
    codes "create " ++ serial ++ codes " " ++ decimal first ++ codes " " ++ decimal second
change_text (Assign page frame) freed =
    codes "assign page " ++ decimal page ++ codes " frame " ++ decimal frame
change_text (Free page) freed =
    codes "free page " ++ decimal page ++ codes " frame " ++ frame_text freed
change_text (Staged cylinder) freed = codes "staged cylinder " ++ decimal cylinder
change_text (Changed cylinder) freed = codes "changed cylinder " ++ decimal cylinder
change_text (Destaged cylinder) freed = codes "destaged cylinder " ++ decimal cylinder
change_text (Protect true) freed = codes "protect on"
change_text (Protect false) freed = codes "protect off"

-- the line of the change at place n of the console, from 1
unfoldable pub change_line : ℕ → ℕ → Change → Option ℕ → List ℕ
change_line n volume change freed =
    codes "change " ++ decimal n ++ codes " volume " ++ decimal volume ++ codes " "
    ++ change_text change freed ++ codes "\n"

-- ---- the volumes

-- a record's ID, key and data
unfoldable pub record_text : RecordData → List ℕ
record_text r =
    codes "record " ++ hex r.id ++ codes " " ++ field_text r.key ++ codes " " ++ field_text r.body
    ++ codes "\n"

-- a track's cylinder and head
unfoldable pub track_line : ℕ → ℕ → List ℕ
track_line cylinder head =
    codes "track " ++ decimal cylinder ++ codes " " ++ decimal head ++ codes "\n"

-- a track and its records; nothing for a blank track
unfoldable pub track_text : ℕ → ℕ → List RecordData → List ℕ
track_text cylinder head [] = []
track_text cylinder head (r ∷ rs) = track_line cylinder head ++ flat_map record_text (r ∷ rs)

-- the first n tracks of a volume, of which each cylinder has 19
unfoldable pub tracks_text : (ℕ → ℕ → List RecordData) → ℕ → List ℕ
tracks_text track zero = []
tracks_text track (suc n) =
    tracks_text track n ++ track_text (n / 19) (n % 19) (track (n / 19) (n % 19))

-- a track by volume, cylinder and head
abbrev pub place_text : ℕ → ℕ → ℕ → List ℕ
place_text volume cylinder head =
    decimal volume ++ codes " cylinder " ++ decimal cylinder ++ codes " head " ++ decimal head

-- ` readonly` where hosts may only read the volume
abbrev pub mark_text : Bool → List ℕ
mark_text read_only = if read_only then codes " readonly" else []

-- a volume's number, its serial, and its mark
unfoldable pub heading_text : ℕ → List ℕ → Bool → List ℕ
heading_text number serial read_only =
    codes "volume " ++ decimal number ++ codes " " ++ serial ++ mark_text read_only ++ codes "\n"

-- a volume and its tracks by cylinder and head: 404 cylinders of 19
unfoldable pub volume_text : ℕ → List ℕ → Bool → (ℕ → ℕ → List RecordData) → List ℕ
volume_text number serial read_only track =
    heading_text number serial read_only ++ tracks_text track 7676

-- the first line of a listing of volumes
unfoldable pub listing_title : List ℕ
listing_title = codes "MSS VOLUMES 1\n"

-- ---- the last line

-- the report is whole
unfoldable pub end_text : List ℕ
end_text = codes "END\n"

-- the session came to the limit of its calls
unfoldable pub limit_text : List ℕ
limit_text = codes "LIMIT\n"

-- a device failed, and this is the count of faults then
unfoldable pub stopped_text : ℕ → List ℕ
stopped_text fault = codes "STOPPED " ++ decimal fault ++ codes "\n"
