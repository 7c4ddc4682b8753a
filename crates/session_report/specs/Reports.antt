-- What a report says, and a listing.
use Rattle.std.specs.Prelude.{◌≡◌, ◌≢◌, ◌⊎◌, ◌≤◌, ℕ, zero, suc, ◌<◌, ◌*◌, Bool, List, [], ◌∷◌, ◌++◌}
use Rattle.std.specs.Prelude.{length, take}
use Rattle.std.specs.Prelude.{slice_get, Option, Some, None, Ok, Err}
use Rattle.std.specs.List.{flat_map}
use Rattle.mss_base.specs.Configs.{VolumeData}
use Rattle.mss_base.specs.Counts.{IsFaultSince}
use Rattle.mss_base.specs.Puts.{PutsFront}
use Rattle.mss_base.specs.Geometry.{volume_cylinders, cylinder_heads}
use Rattle.ckd_track.specs.Data.{Volumes}
use Rattle.core_state.specs.declared.session.Message.{Message}
use Rattle.core_state.specs.SessionData.{SessionData}
use Rattle.report_text.specs.Texts.{numbered_lines, change_line, history_text}
use Rattle.report_text.specs.Texts.{heading_text, tracks_text, volume_text}
use Rattle.report_text.specs.Texts.{end_text, limit_text, stopped_text, listing_title}
use Rattle.session_report.specs.declared.fault.ReportFault.TheVariants as report_fault
use Rattle.session_report.specs.declared.reporting.Last.{Last}
use Rattle.session_report.specs.declared.reporting.Last.TheVariants as last
use Rattle.session_report.specs.Answers.{Answer, IsPut}
use Rattle.session_report.specs.Parties.{Stream, ToldDevices, seen_with}

-- ---- the volumes

-- a volume's number, its serial, and whether it is asked for, or kept, as a read-only one
abbrev pub Heading : Type 0
Heading = VolumeData

-- how many tracks a volume has
abbrev pub TRACKS_OF_VOLUME : ℕ
TRACKS_OF_VOLUME = volume_cylinders * cylinder_heads

-- a volume that is listed: its number and serial, and the mark and the tracks that are shown
abbrev pub listed_text : Volumes → Heading → List ℕ
listed_text shown v = volume_text v.0 v.1 (shown.read_only v.0) (shown.track v.0)

-- volumes that are listed
abbrev pub volumes_text : Volumes → List Heading → List ℕ
volumes_text shown volumes = flat_map (listed_text shown) volumes

-- a volume's heading and its first tracks
abbrev pub begun_text : Volumes → ℕ → Option Heading → List ℕ
begun_text shown tracks (Some v) =
    heading_text v.0 v.1 (shown.read_only v.0) ++ tracks_text (shown.track v.0) tracks
begun_text shown tracks None = []

-- the listed volumes before one, and of that one the heading and the first tracks
abbrev pub front_text : Volumes → List Heading → ℕ → ℕ → List ℕ
front_text shown volumes place tracks =
    volumes_text shown (take place volumes) ++ begun_text shown tracks (slice_get volumes place)

-- ---- what is told

-- what a text with volumes is about: what stands before them, all volumes, those to be listed, and
-- what stands between these and the last line
pub record Matter : Type 0 where
  pub opening : List ℕ
  pub shown : Volumes
  pub volumes : List Heading
  pub behind : List ℕ

-- volumes and what stands behind them, with nothing before them
abbrev pub untitled_matter : List Heading → Volumes → List ℕ → Matter
untitled_matter volumes shown behind = record {
  opening = [];
  shown = shown;
  volumes = volumes;
  behind = behind;
}

-- the line of a change of a row, at its place of the console
abbrev pub message_line : ℕ → Message → List ℕ
message_line n m = change_line n m.volume m.change m.freed

-- the changes of rows, a line each
unfoldable pub changes_text : List Message → List ℕ
changes_text console = numbered_lines message_line 1 console

-- the history of a session, and its changes of rows
abbrev pub opening_text : SessionData → List ℕ
opening_text s = history_text s.history ++ changes_text s.console

-- a report is about a session, the volumes of its job, and what stands behind these
abbrev pub report_matter : SessionData → List Heading → Volumes → List ℕ → Matter
report_matter s volumes shown behind = record {
  opening = opening_text s;
  shown = shown;
  volumes = volumes;
  behind = behind;
}

-- a volume that is there
abbrev pub heading_of : ℕ → Option (List ℕ) → Bool → List Heading
heading_of n (Some serial) read_only = (n, serial, read_only) ∷ []
heading_of n None read_only = []

-- the volumes below a number that are there, by number, by their serials and their marks
unfoldable pub volumes_below : ℕ → (ℕ → Option (List ℕ)) → (ℕ → Bool) → List Heading
volumes_below zero serials marks = []
volumes_below (suc n) serials marks =
    volumes_below n serials marks ++ heading_of n (serials n) (marks n)

-- a listing is about all volumes that are there
abbrev pub listing_matter : Volumes → Matter
listing_matter shown = record {
  opening = listing_title;
  shown = shown;
  volumes = volumes_below 32 shown.serial shown.read_only;
  behind = [];
}

-- ---- how it ends

-- with the volumes and a last line, or stopped by a fault without them
pub data Ending : Type 0 where
  finished : Last → Ending
  stopped : ℕ → Ending

-- the ending of a session: a stop that it keeps, or else this one
abbrev pub ending_of : Option ℕ → Last → Ending
ending_of None l = finished l
ending_of (Some fault) l = stopped fault

-- what is told: all to the end, or the volumes before a track that couldn't be read, with the
-- count of faults then
pub data Telling : Type 0 where
  whole : Ending → Telling
  unread : ℕ → ℕ → ℕ → Telling

-- the last line behind the volumes
abbrev pub last_text : Last → List ℕ
last_text last.End = end_text
last_text last.Limit = limit_text

-- the text of it
abbrev pub told_text : Matter → Telling → List ℕ
told_text m (whole (finished l)) =
    m.opening ++ volumes_text m.shown m.volumes ++ (m.behind ++ last_text l)
told_text m (whole (stopped fault)) = m.opening ++ stopped_text fault
told_text m (unread place tracks fault) =
    m.opening ++ front_text m.shown m.volumes place tracks ++ stopped_text fault

-- what is answered when that was put
abbrev pub told_answer : Telling → Answer
told_answer (whole ending) = Ok tt
told_answer (unread place tracks fault) = Err (report_fault.Read fault)

-- the volumes are told
abbrev pub TellsVolumes : Ending → Type 0
TellsVolumes (finished l) = Unit {0}
TellsVolumes (stopped fault) = ⊥

-- what is told is the ending, or that a read for the volumes failed, with the count behind it
abbrev pub HasReason : Ending → List Heading → ℕ → ℕ → Telling → Type 0
HasReason ending volumes before now (whole e) = e ≡ ending
HasReason ending volumes before now (unread place tracks fault) =
    TellsVolumes ending × (place < length volumes) × (tracks < TRACKS_OF_VOLUME)
    × IsFaultSince before now fault

-- it was told over this site, with the answer that goes with it
pub record IsReported (m : Matter) (ending : Ending) (site : ToldDevices) (sink : Stream)
    (answer : Answer) : Type 0 where
  pub telling : Telling
  pub reason : HasReason ending m.volumes site.faults_was site.faults_now telling
  pub put : IsPut (told_answer telling) (told_text m telling) (seen_with site sink) answer

-- it broke off before a track that couldn't be read: which one that is, and what was put
pub record BreaksOff (IsUnread : ℕ → ℕ → Type 0) (m : Matter) (sink : Stream) (fault : ℕ)
    : Type 0 where
  pub place : ℕ
  pub tracks : ℕ
  pub there : place < length m.volumes
  pub few : tracks < TRACKS_OF_VOLUME
  pub unread_ : IsUnread place tracks
  pub put : sink.tells → sink.now ≡ sink.was ++ told_text m (unread place tracks fault)

-- what is so where a failed read is told, with the count behind it
abbrev pub OnRead : Answer → (ℕ → Type 0) → Type 0
OnRead (Err (report_fault.Read fault)) P = P fault
OnRead _ P = Unit {0}

-- ---- over any devices

-- a text grew
pub record Grows (old new : List ℕ) : Type 0 where
  pub added : List ℕ
  pub put : new ≡ old ++ added

-- some text was put, and then this line
pub record EndsWith (old new line : List ℕ) : Type 0 where
  pub middle : List ℕ
  pub put : new ≡ old ++ middle ++ line

-- What is put where the devices needn't tell what they hold: whatever stands for the volumes, and
-- then the last line, or that of a failed read; or without it, where putting failed or memory ran
-- out.
abbrev pub Closes : Last → List ℕ → List ℕ → Answer → Type 0
Closes l old new (Ok _) = EndsWith old new (last_text l)
Closes l old new (Err (report_fault.Read fault)) = EndsWith old new (stopped_text fault)
Closes l old new (Err _) = Grows old new

-- a front of the opening, or all of it and whatever stands behind
abbrev pub Opens : List ℕ → List ℕ → List ℕ → Type 0
Opens opening old new = PutsFront old new opening ⊎ Grows (old ++ opening) new

-- all of it: the opening, whatever stands for the volumes, and the last line
abbrev pub FramesAll : List ℕ → Ending → List ℕ → List ℕ → Type 0
FramesAll opening (finished l) old new = EndsWith (old ++ opening) new (last_text l)
FramesAll opening (stopped fault) old new = new ≡ old ++ opening ++ stopped_text fault

-- The same behind an opening, which is put whole, unless putting it failed or memory ran out. That
-- comes when something was put.
abbrev pub Frames : List ℕ → Ending → List ℕ → List ℕ → Answer → Type 0
Frames opening ending old new (Ok _) = FramesAll opening ending old new
Frames opening ending old new (Err (report_fault.Read fault)) =
    EndsWith (old ++ opening) new (stopped_text fault)
Frames opening ending old new (Err report_fault.Output) = Opens opening old new
Frames opening ending old new (Err report_fault.Memory) = Opens opening old new × (new ≢ old)

-- a failed read is told with the count of faults behind it, and where none failed the count stays
abbrev pub SiteCounts : ℕ → ℕ → Answer → Type 0
SiteCounts before now (Err (report_fault.Read fault)) = IsFaultSince before now fault
SiteCounts before now (Err report_fault.Output) = before ≤ now
SiteCounts before now _ = now ≡ before

-- no failed read is told
abbrev pub AnswersNoRead : Answer → Type 0
AnswersNoRead (Err (report_fault.Read fault)) = ⊥
AnswersNoRead _ = Unit {0}
