-- Parts of reports, computed by the definition.
use Rattle.std.specs.Prelude.{◌≡◌, ℕ, List, [], ◌∷◌, ◌++◌, Some, None, true, false, refl, codes}
use Rattle.std.specs.List.{flat_map}
use Rattle.std.specs.Fmt.{digits}
use Rattle.channel_commands.specs.Data.{mount, demount, command, done, mounted, demounted, equipment_check}
use Rattle.ckd_track.specs.Data.{RecordData}
use Rattle.ckd_plain.specs.History.{EntryData}
use Rattle.report_text.specs.declared.one_line.OneLine.TheVariants.{RestartRefused}
use Rattle.report_text.specs.Refusals.{refusal_text}
use Rattle.shown_volumes.specs.declared.refused.Refused.{Refused}
use Rattle.shown_volumes.specs.declared.refused.Refused.TheVariants as refused
use Rattle.table_pair.specs.declared.copy.TableCopy.TheVariants.{A}
use Rattle.volume_table.specs.declared.fault.RowField.TheVariants as field
use Rattle.volume_table.specs.declared.changes.Change.TheVariants as change
use Rattle.report_text.specs.Texts.{entry_text, history_text, record_text, track_line, track_text, heading_text, stopped_text, change_line}
use Rattle.report_text.specs.OneLines.{one_line_text}

lines : List (List ℕ) → List ℕ
lines ls = flat_map (λ l. l ++ 10 ∷ []) ls

-- a read that gives three bytes
read_entry : EntryData
read_entry = record { host = 1; number = 8; call = command 0x06 [] false; reply = done 0x0C (0x41 ∷ 0x42 ∷ 0x43 ∷ []); fault = None }

-- the eighth entry of a history
read_line : entry_text 8 read_entry ≡ codes "entry 8 host 1 ccw 06 status 0C data 414243\n"
unfolding digits entry_text read_entry
read_line = refl

-- a record on cylinder 5, head 3, without a key
stored : RecordData
stored = record { id = 0 ∷ 5 ∷ 0 ∷ 3 ∷ 1 ∷ []; key = []; body = 0x41 ∷ 0x42 ∷ 0x43 ∷ [] }

record_line : record_text stored ≡ codes "record 0005000301 - 414243\n"
unfolding record_text stored
record_line = refl

track_lines : track_text 5 3 (stored ∷ []) ≡ lines (codes "track 5 3" ∷ codes "record 0005000301 - 414243" ∷ [])
unfolding digits track_text track_line record_text stored lines
track_lines = refl

blank_track : track_text 5 3 [] ≡ []
unfolding track_text
blank_track = refl

-- mounts, a fault of a device, a demount
whole_history : history_text (
    record { host = 1; number = 1; call = mount 0 false; reply = mounted; fault = None }
    ∷ record { host = 2; number = 1; call = mount 17 true; reply = mounted; fault = None }
    ∷ record { host = 1; number = 2; call = command 0x31 (0 ∷ 0 ∷ 0 ∷ 0 ∷ 0 ∷ []) false; reply = equipment_check; fault = Some 1 }
    ∷ record { host = 2; number = 2; call = demount; reply = demounted; fault = None } ∷ [])
    ≡ lines (codes "MSS REPORT 1" ∷ codes "entry 1 host 1 mount 0 mounted" ∷ codes "entry 2 host 2 mount 17 bind mounted"
    ∷ codes "entry 3 host 1 ccw 31 equipment check fault 1" ∷ codes "entry 4 host 2 demount demounted" ∷ [])
unfolding digits history_text entry_text lines
whole_history = refl

heading : heading_text 0 (codes "VOL001") false ≡ codes "volume 0 VOL001\n"
unfolding digits heading_text
heading = refl

heading_of_a_marked_one : heading_text 31 (codes "VOL001") true ≡ codes "volume 31 VOL001 readonly\n"
unfolding digits heading_text
heading_of_a_marked_one = refl

stopped_line : stopped_text 4 ≡ codes "STOPPED 4\n"
unfolding digits stopped_text
stopped_line = refl

-- ---- lines of refusals
refused_line : Refused → List ℕ
refused_line r = one_line_text (RestartRefused r)

torn_line : refused_line (refused.TornTrack 0 5 3) ≡ codes "restart refused torn track volume 0 cylinder 5 head 3\n"
unfolding digits one_line_text refusal_text refused_line
torn_line = refl

-- a state that no cylinder has
damaged_line : refused_line (refused.RowDamaged 0 A (record { field = field.State 0; value = 9 })) ≡ codes "restart refused volume 0 copy A row state 0 value 9\n"
unfolding digits one_line_text refusal_text refused_line
damaged_line = refl

-- a slot of a kind that there isn't
slot_line : refused_line (refused.RowDamaged 0 A (record { field = field.Slot 2; value = 7 })) ≡ codes "restart refused volume 0 copy A row slot 2 value 7\n"
unfolding digits one_line_text refusal_text refused_line
slot_line = refl

frame_line : refused_line (refused.FrameTwice 7 (0, 0) (1, 3)) ≡ codes "restart refused frame 7 twice volume 0 page 0 volume 1 page 3\n"
unfolding digits one_line_text refusal_text refused_line
frame_line = refl

serial_line : refused_line (refused.SerialDiffers 0 (codes "VOL001") (codes "VOL009")) ≡ codes "restart refused volume 0 serial VOL001 asked VOL009\n"
unfolding digits one_line_text refusal_text refused_line
serial_line = refl

-- ---- lines of changes
create_line : change_line 1 0 (change.Create (codes "VOL001") 0 1) None ≡ codes "change 1 volume 0 create VOL001 0 1\n"
unfolding digits change_line
create_line = refl

free_line : change_line 6 0 (change.Free 0) (Some 0) ≡ codes "change 6 volume 0 free page 0 frame 0\n"
unfolding digits change_line
free_line = refl

destaged_line : change_line 5 0 (change.Destaged 0) None ≡ codes "change 5 volume 0 destaged cylinder 0\n"
unfolding digits change_line
destaged_line = refl
