-- What opening the rows of a site makes of it: the volumes that have no row are made, and then marks changed, in order.
use Rattle.std.specs.Prelude.{◌≡◌, ◌≢◌, ◌⊎◌, ◌<◌, ℕ, Bool, true, false, not, if◌then◌else◌, List, [], ◌∷◌, ◌++◌, length}
use Rattle.std.specs.Prelude.{Option, Some, None, is_some, Result, Ok, Err}
use Rattle.mss_base.specs.Content.{Content}
use Rattle.mss_base.specs.Configs.{ConfigData, VolumeData, marked_in, serial_in}
use Rattle.ckd_track.specs.Data.{Volumes}
use Rattle.volume_table.specs.Row.{RowValue, blank_row}
use Rattle.volume_table.specs.Changes.{with_mark}
use Rattle.table_pair.specs.Pair.{HoldsRow, known, row_of}
use Rattle.table_pair.specs.Migrating.{AreNew}
use Rattle.table_pair.specs.Slots.{AreUsed, with_none_used, with_used_after}
use Rattle.table_pair.specs.declared.copy.SlotsUsed.{SlotsUsed}
use Rattle.shown_volumes.specs.Shown.{RowsOf, rows_of, is_marked, volumes_shown}
use Rattle.shown_volumes.specs.Sound.{IsSound, SoundAs}
use Rattle.shown_volumes.specs.Faults.{first_fault}
use Rattle.shown_volumes.specs.Changing.{with_row, with_blank, with_marked}
use Rattle.volume_table.specs.Listed.{row_in_list}
use Rattle.mss_restart.specs.Cartridges.{IsLowestFree}
use Rattle.mss_restart.specs.Usable.{HasRowWith}

-- each row is what both copies of the content tell
abbrev pub RowsAre : List (Option RowValue) → Content → Type 0
RowsAre rows c = (volume : ℕ) → volume < 32 → row_of c volume ≡ known (row_in_list rows volume) false

-- both copies of each row are open with it
abbrev pub AreHeld : RowsOf → Content → Type 0
AreHeld rows c = (volume : ℕ) (row : RowValue) → rows volume ≡ Some row → HoldsRow row volume c

-- a volume that has a row has it in two copies of version 2
abbrev pub IsRowNew : ℕ → Content → Type 0
IsRowNew volume c = (row : RowValue) → rows_of c volume ≡ Some row → AreNew volume c

-- and so each
abbrev pub AreRowsNew : Content → Type 0
AreRowsNew c = (volume : ℕ) → IsRowNew volume c

-- the rows of a content are known: both copies tell each of them, and are open with it, and so many of their slots
-- are in use
pub record AreKnown (rows : List (Option RowValue)) (used : List SlotsUsed) (c : Content) : Type 0 where
  pub told : RowsAre rows c
  pub held : AreHeld (row_in_list rows) c
  pub slots_ : AreUsed used c

-- ---- the changes that opening makes to the volumes

-- a volume is made, blank and not read-only, or gets another mark
pub data OpeningChange : Type 0 where
  made : ℕ → List ℕ → OpeningChange
  marked : ℕ → Bool → OpeningChange

abbrev pub volume_of : OpeningChange → ℕ
volume_of (made volume serial) = volume
volume_of (marked volume on) = volume

-- the volumes after it, and after several
abbrev pub opened_by : OpeningChange → Volumes → Volumes
opened_by (made volume serial) volumes = with_blank volume serial volumes
opened_by (marked volume on) volumes = with_marked volume on volumes

abbrev pub opened_all : List OpeningChange → Volumes → Volumes
opened_all [] volumes = volumes
opened_all (change ∷ changes) volumes = opened_all changes (opened_by change volumes)

-- what a stop within it shows: the volumes before it, or after it
abbrev pub BeforeOrAfter : OpeningChange → Volumes → Volumes → Type 0
BeforeOrAfter change volumes shown = (shown ≡ volumes) ⊎ (shown ≡ opened_by change volumes)

-- the volumes of a list that have no row are made
abbrev pub to_make : RowsOf → List VolumeData → List OpeningChange
to_make rows [] = []
to_make rows (v ∷ vs) = if is_some (rows v.0) then to_make rows vs else (made v.0 v.1 ∷ to_make rows vs)

-- whether a row has the mark that is asked for; what is to be made has none yet
abbrev pub is_marked_as : Bool → Option RowValue → Bool
is_marked_as true r = is_marked r
is_marked_as false r = not (is_marked r)

-- the others get their mark
abbrev pub to_mark : RowsOf → List VolumeData → List OpeningChange
to_mark rows [] = []
to_mark rows (v ∷ vs) =
    if is_marked_as v.2 (rows v.0) then to_mark rows vs else (marked v.0 v.2 ∷ to_mark rows vs)

-- first the new volumes, then the marks, each in the order of the list
abbrev pub opening_changes : RowsOf → List VolumeData → List OpeningChange
opening_changes rows volumes = to_make rows volumes ++ to_mark rows volumes

-- a sound content that shows the volumes after a front of these changes
pub record ShowsFront (frames : ℕ) (changes : List OpeningChange) (volumes : Volumes) (c : Content) : Type 0 where
  pub sound : IsSound frames c
  pub done_ : List OpeningChange
  pub later : List OpeningChange
  pub order : done_ ++ later ≡ changes
  pub same : volumes_shown c ≡ opened_all done_ volumes

-- ---- what they make of the rows

-- the row of a new volume: blank, on the two lowest cartridges that no row names
pub record IsNewRow (rows : RowsOf) (serial : List ℕ) (row : RowValue) : Type 0 where
  pub blank : row ≡ blank_row serial row.first row.second
  pub first : IsLowestFree rows None row.first
  pub second : IsLowestFree rows (Some row.first) row.second

-- the row of a volume that gets another mark
pub record IsMarkedRow (rows : RowsOf) (volume : ℕ) (on : Bool) (row : RowValue) : Type 0 where
  pub old : RowValue
  pub there : rows volume ≡ Some old
  pub other : old.read_only ≢ on
  pub becomes : row ≡ with_mark on old

abbrev pub IsRowAfter : RowsOf → OpeningChange → RowValue → Type 0
IsRowAfter rows (made volume serial) row = IsNewRow rows serial row
IsRowAfter rows (marked volume on) row = IsMarkedRow rows volume on row

-- the rows after these changes, one after the other
abbrev pub OpensRows : List OpeningChange → RowsOf → RowsOf → Type 0
OpensRows [] rows last = last ≡ rows
OpensRows (change ∷ changes) rows last =
    (row : RowValue) × (IsRowAfter rows change row
    × OpensRows changes (with_row (volume_of change) row rows) last)

-- a new row has no slots in use, and a mark is one slot more
abbrev pub used_by : OpeningChange → List SlotsUsed → List SlotsUsed
used_by (made volume serial) used = with_none_used volume used
used_by (marked volume on) used = with_used_after volume used

-- one change was made: its row stands in both copies and in the list, and is shown; it is of version 2 where all were
pub record IsOpeningDone (change : OpeningChange) (c d : Content) (before rows : List (Option RowValue))
    : Type 0 where
  pub row : RowValue
  pub is_row : IsRowAfter (row_in_list before) change row
  pub now : row_in_list rows ≡ with_row (volume_of change) row (row_in_list before)
  pub are : RowsAre rows d
  pub held : AreHeld (row_in_list before) c → AreHeld (row_in_list rows) d
  pub renewed : AreRowsNew c → AreRowsNew d
  pub slots_ : (used : List SlotsUsed) → length used ≡ 32 → AreUsed used c → AreUsed (used_by change used) d
  pub shows : (frames : ℕ) → IsSound frames c → SoundAs frames (opened_by change (volumes_shown c)) d

-- these changes were made; so many slots of each volume are in use now, and each row is of version 2
pub record AreOpened (changes : List OpeningChange) (c d : Content) (before rows : List (Option RowValue))
    (used : List SlotsUsed) : Type 0 where
  pub opens : OpensRows changes (row_in_list before) (row_in_list rows)
  pub known : AreKnown rows used d
  pub renewed : AreRowsNew d
  pub shows : (frames : ℕ) → IsSound frames c → SoundAs frames (opened_all changes (volumes_shown c)) d

-- an opened site: it was without a fault; it shows its volumes after the opening changes; the rows handed back are its
-- rows, in both copies, of version 2, with so many slots in use; each configured volume has one, with its mark, and
-- those from before stay but for their marks
pub record IsOpened (config : ConfigData) (old new : Content) (rows : List (Option RowValue))
    (used : List SlotsUsed) : Type 0 where
  pub faultless : first_fault config.frames (serial_in config.volumes) old ≡ None
  pub shows : SoundAs config.frames (opened_all (opening_changes (rows_of old) config.volumes) (volumes_shown old)) new
  pub rows_are : row_in_list rows ≡ rows_of new
  pub held : AreHeld (rows_of new) new
  pub renewed : AreRowsNew new
  pub slots_ : AreUsed used new
  pub opens : OpensRows (opening_changes (rows_of old) config.volumes) (rows_of old) (rows_of new)
  pub asked : (volume : ℕ) (serial : List ℕ)
      → serial_in config.volumes volume ≡ Some serial → HasRowWith (rows_of new) volume serial
  pub kept : (volume : ℕ) (row : RowValue) → rows_of old volume ≡ Some row
      → (on : Bool) × (rows_of new volume ≡ Some (with_mark on row))
  pub marks : (volume : ℕ) (serial : List ℕ) → serial_in config.volumes volume ≡ Some serial
      → is_marked (rows_of new volume) ≡ marked_in config.volumes volume

-- the site that is handed back, and the answer beside it
abbrev pub site_of : {S A B : Type 0} → Result (S × A) (S × B) → S
site_of (Ok opened) = opened.0
site_of (Err refused) = refused.0

abbrev pub answer_of : {S A B : Type 0} → Result (S × A) (S × B) → Result A B
answer_of (Ok opened) = Ok opened.1
answer_of (Err refused) = Err refused.1
