-- What putting the volumes of a report says, or a part of them.
use Rattle.std.specs.Prelude.{◌≡◌, ◌<◌, ◌≤◌, ◌/◌, ◌%◌, ℕ, List, ◌++◌, length, Option, Some}
use Rattle.std.specs.Prelude.{slice_get, Result, Ok, Err}
use Rattle.std.specs.Option.{option_and_then}
use Rattle.mss_base.specs.Content.{Content}
use Rattle.mss_base.specs.Counts.{Rises, IsFaultSince}
use Rattle.mss_base.specs.Puts.{PutsFront}
use Rattle.mss_base.specs.Geometry.{cylinder_heads}
use Rattle.mss_base.specs.declared.place.BlockPlace.{BlockPlace}
use Rattle.mss_base.specs.declared.site.Site.{Ghosts}
use Rattle.ckd_track.specs.Data.{RecordData, Volumes}
use Rattle.volume_table.specs.Row.{RowValue}
use Rattle.table_pair.specs.Reads.{IsReadable}
use Rattle.shown_volumes.specs.Shown.{RowsOf, source, track_at}
use Rattle.report_text.specs.Texts.{tracks_text}
use Rattle.report_text.specs.declared.report.ReportFault.TheVariants as part
use Rattle.session_report.specs.declared.fault.VolumesFault.{VolumesFault}
use Rattle.session_report.specs.declared.fault.VolumesFault.TheVariants as volumes_fault
use Rattle.session_report.specs.Reports.{Heading, Matter, TRACKS_OF_VOLUME, front_text}

-- the tracks of a volume, by cylinder and head
abbrev pub TracksOfVolume : Type 0
TracksOfVolume = ℕ → ℕ → List RecordData

-- the tracks that a row shows over a content; without a row each is blank
abbrev pub row_tracks : Content → Option RowValue → TracksOfVolume
row_tracks c row cylinder head = track_at c (option_and_then (λ r. source r cylinder head) row)

-- no read of a block that a row shows fails; without a row none is shown
abbrev pub CanReadRow : {S : Type 0} → Ghosts S → S → Option RowValue → Type 0
CanReadRow g s row = (cylinder head : ℕ) (place : BlockPlace)
    → option_and_then (λ r. source r cylinder head) row ≡ Some place
    → IsReadable g s place.unit

-- no read of a block that one of these rows shows fails
abbrev pub CanReadShown : {S : Type 0} → Ghosts S → S → RowsOf → Type 0
CanReadShown g s rows = (volume : ℕ) → CanReadRow g s (rows volume)

-- the block in which a row shows the track of this number, by cylinder and head
abbrev pub block_of : Option RowValue → ℕ → Option BlockPlace
block_of row n = option_and_then (λ r. source r (n / cylinder_heads) (n % cylinder_heads)) row

-- there is such a block, and a read of its unit may fail
pub record MayFail {S : Type 0} (g : Ghosts S) (s : S) (block : Option BlockPlace) : Type 0 where
  pub place : BlockPlace
  pub there : block ≡ Some place
  pub fails : IsReadable g s place.unit → ⊥

-- the row of the volume at this place of those that are listed
abbrev pub row_at : RowsOf → List Heading → ℕ → Option RowValue
row_at rows volumes place = option_and_then (λ (v : Heading). rows v.0) (slice_get volumes place)

-- a track of a listed volume that can't be read: its row shows it in a block, of whose unit a read
-- may fail
abbrev pub IsUnread : {S : Type 0} → Ghosts S → S → RowsOf → List Heading → ℕ → ℕ → Type 0
IsUnread g s rows volumes place n = MayFail g s (block_of (row_at rows volumes place) n)

-- what is answered when volumes were put
abbrev pub Told : Type 0
Told = Result (Unit {0}) VolumesFault

-- ---- one track

-- a track's text was put, or nothing of one that couldn't be read, or after another fault a front
abbrev pub PutsTrack : Type 0 → Type 0 → List ℕ → List ℕ → List ℕ → Told → Type 0
PutsTrack tells Unread text old new (Ok _) = tells → new ≡ old ++ text
PutsTrack tells Unread text old new (Err (volumes_fault.Read fault)) =
    (tells → new ≡ old) × Unread
PutsTrack tells Unread text old new (Err (volumes_fault.Put fault)) =
    tells → PutsFront old new text

-- ---- one volume

-- what was put of a volume, behind its heading, before a track that couldn't be read
pub record PutsTracksBefore (tells : Type 0) (Unread : ℕ → Type 0) (heading : List ℕ)
    (track : TracksOfVolume) (old new : List ℕ) : Type 0 where
  pub tracks : ℕ
  pub few : tracks < TRACKS_OF_VOLUME
  pub unread : Unread tracks
  pub put : tells → new ≡ old ++ (heading ++ tracks_text track tracks)

-- the heading and the tracks of a whole volume
abbrev pub whole_volume : List ℕ → TracksOfVolume → List ℕ
whole_volume heading track = heading ++ tracks_text track TRACKS_OF_VOLUME

-- a volume's tracks were put behind its heading, or those before one that couldn't be read, or else
-- a front
abbrev pub PutsTracks : Type 0 → (ℕ → Type 0) → List ℕ → TracksOfVolume → List ℕ → List ℕ → Told
    → Type 0
PutsTracks tells Unread heading track old new (Ok _) =
    tells → new ≡ old ++ whole_volume heading track
PutsTracks tells Unread heading track old new (Err (volumes_fault.Read fault)) =
    PutsTracksBefore tells Unread heading track old new
PutsTracks tells Unread heading track old new (Err (volumes_fault.Put fault)) =
    tells → PutsFront old new (whole_volume heading track)

-- ---- the listed volumes

-- what was put of the listed volumes, before a track that couldn't be read
pub record PutsBefore (tells : Type 0) (Unread : ℕ → ℕ → Type 0) (shown : Volumes)
    (volumes : List Heading) (old new : List ℕ) : Type 0 where
  pub place : ℕ
  pub tracks : ℕ
  pub there : place < length volumes
  pub few : tracks < TRACKS_OF_VOLUME
  pub unread : Unread place tracks
  pub put : tells → new ≡ old ++ front_text shown volumes place tracks

-- a text of the volumes was put, or what stands before a track that couldn't be read, or else a
-- front
abbrev pub PutsVolumes : Type 0 → (ℕ → ℕ → Type 0) → Matter → List ℕ → List ℕ → List ℕ → Told
    → Type 0
PutsVolumes tells Unread m text old new (Ok _) = tells → new ≡ old ++ text
PutsVolumes tells Unread m text old new (Err (volumes_fault.Read fault)) =
    PutsBefore tells Unread m.shown m.volumes old new
PutsVolumes tells Unread m text old new (Err (volumes_fault.Put fault)) =
    tells → PutsFront old new text

-- ---- causes

-- a failed read is told with the count of faults behind it, and where none failed the count stays
abbrev pub CountsReads : ℕ → ℕ → Told → Type 0
CountsReads before now (Err (volumes_fault.Read fault)) = IsFaultSince before now fault
CountsReads before now _ = now ≡ before

-- no failed read is told
abbrev pub TellsNoRead : Told → Type 0
TellsNoRead (Err (volumes_fault.Read fault)) = ⊥
TellsNoRead _ = Unit {0}

-- it is told that a part wasn't put
abbrev pub IsUnput : Told → Type 0
IsUnput (Err (volumes_fault.Put fault)) = Unit {0}
IsUnput _ = ⊥

-- the sink is told to have failed only where its count rose; where each part was put, or memory ran
-- out, the count stays
pub record CountsPuts (before now : ℕ) (told : Told) : Type 0 where
  pub later : before ≤ now
  pub failed : told ≡ Err (volumes_fault.Put part.Output) → Rises before now
  pub memory : told ≡ Err (volumes_fault.Put part.Memory) → now ≡ before
  pub same : (IsUnput told → ⊥) → now ≡ before
