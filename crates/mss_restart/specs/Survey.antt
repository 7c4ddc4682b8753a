-- What a survey answers.
use Rattle.std.specs.Prelude.{◌≡◌, ◌≢◌, ◌<◌, ◌≤◌, ◌+◌, ℕ, Bool, true, false, List, Option, Some}
use Rattle.std.specs.Prelude.{None, Result, Ok, Err, is_some}
use Rattle.mss_base.specs.Content.{Content}
use Rattle.mss_base.specs.Counts.{IsFaultSince, IsFaultWithin}
use Rattle.std.specs.Option.{ForSome}
use Rattle.mss_base.specs.declared.place.BlockPlace.{BlockPlace}
use Rattle.mss_base.specs.declared.place.UnitNo.TheVariants.{TableA, TableB}
use Rattle.volume_table.specs.Row.{RowValue}
use Rattle.volume_table.specs.Listed.{row_in_list}
use Rattle.mss_restart.specs.declared.rows.RowsRead.{RowsRead}
use Rattle.table_pair.specs.Pair.{CopyRead, RowReading, known, unknown, reading}
use Rattle.table_pair.specs.Reads.{IsReadable, IsReadOf, MissingKeeps}
use Rattle.table_pair.specs.declared.copy.RowRead.{RowRead}
use Rattle.mss_base.specs.Firsts.{first_below}
use Rattle.shown_volumes.specs.Faults.{read_fault, row_fault, halves_fault, pages_fault, first_fault_of, first_fault}
use Rattle.shown_volumes.specs.Changing.{StandsOn}
use Rattle.shown_volumes.specs.Shown.{RowsOf, rows_in, rows_of}
use Rattle.mss_base.specs.declared.site.Site.{Ghosts}
use Rattle.shown_volumes.specs.declared.refused.Refused.{Refused}
use Rattle.shown_volumes.specs.declared.refused.Refused.TheVariants.{RowUnread, Stopped, Memory}

-- a fault of the content, and neither of a device nor want of memory
abbrev pub is_of_content : Refused → Bool
is_of_content (RowUnread volume fault) = false
is_of_content (Stopped fault) = false
is_of_content Memory = false
is_of_content _ = true

-- the fault that a walk found; a failed device and want of memory tell nothing of it. Each row is known by then
abbrev pub FindsFault : Refused → Option Refused → Type 0
FindsFault (RowUnread volume fault) found = ⊥
FindsFault r found = is_of_content r ≡ true → found ≡ Some r

-- a walk that finds this fault or none was gone to its end, or ended at the fault
abbrev pub Finds : {T : Type 0} → Result T Refused → Option Refused → Type 0
Finds (Ok value) found = found ≡ None
Finds (Err r) found = FindsFault r found

-- ---- calls that fail

-- no call of the site fails
abbrev pub NeverFails : {S : Type 0} → Ghosts S → S → Type 0
NeverFails g s = g.never_fails_but s (λ unit. false)

-- no read of either copy of the table fails
abbrev pub CanReadTable : {S : Type 0} → Ghosts S → S → Type 0
CanReadTable g s = IsReadable g s TableA × IsReadable g s TableB

-- no read of a block that a track of the row stands on fails
abbrev pub CanReadRow : {S : Type 0} → Ghosts S → S → RowValue → Type 0
CanReadRow g s r =
    (cylinder head : ℕ) (place : BlockPlace) → StandsOn r cylinder head place
    → IsReadable g s place.unit

abbrev pub CanReadRows : {S : Type 0} → Ghosts S → S → RowsOf → Type 0
CanReadRows g s rows = (volume : ℕ) → ForSome (rows volume) (CanReadRow g s)

-- a failed call isn't what was answered
abbrev pub IsNoFailure : Refused → Type 0
IsNoFailure (RowUnread volume fault) = ⊥
IsNoFailure (Stopped fault) = ⊥
IsNoFailure _ = Unit {0}

abbrev pub TellsNoFailure : {T : Type 0} → Result T Refused → Type 0
TellsNoFailure (Ok value) = Unit {0}
TellsNoFailure (Err e) = IsNoFailure e

-- a failed call that is answered is the last one, at which the count rose; else none failed
abbrev pub CountsCause : ℕ → ℕ → Refused → Type 0
CountsCause before now (RowUnread volume fault) = IsFaultSince before now fault
CountsCause before now (Stopped fault) = IsFaultSince before now fault
CountsCause before now _ = now ≡ before

abbrev pub CountsFaults : {T : Type 0} → ℕ → ℕ → Result T Refused → Type 0
CountsFaults before now (Ok value) = now ≡ before
CountsFaults before now (Err e) = CountsCause before now e

-- where a read of a table failed that the other copy made good, a fault of the content or want of memory may be
-- answered
abbrev pub KeepsCause : ℕ → ℕ → Refused → Type 0
KeepsCause before now (RowUnread volume fault) = IsFaultSince before now fault
KeepsCause before now (Stopped fault) = IsFaultSince before now fault
KeepsCause before now _ = before ≤ now

-- the count of the first row that one copy alone told is kept; where both told each, no read failed
abbrev pub KeepsFirst : ℕ → ℕ → Option ℕ → Type 0
KeepsFirst before now None = now ≡ before
KeepsFirst before now (Some fault) = IsFaultWithin before now fault

-- what reading a row keeps
abbrev pub KeepsRead : ℕ → ℕ → Result RowRead Refused → Type 0
KeepsRead before now (Ok read) = MissingKeeps before now read.unread
KeepsRead before now (Err e) = KeepsCause before now e

-- what reading the rows keeps
abbrev pub KeepsRows : ℕ → ℕ → Result RowsRead Refused → Type 0
KeepsRows before now (Ok read) = KeepsFirst before now read.unread
KeepsRows before now (Err e) = KeepsCause before now e

abbrev pub KeepsFault : {T : Type 0} → ℕ → ℕ → Result T Refused → Type 0
KeepsFault before now (Ok value) = before ≤ now
KeepsFault before now (Err e) = KeepsCause before now e

-- no copy was missing, and no failed call was answered
abbrev pub ReadsWhole : Result RowRead Refused → Type 0
ReadsWhole (Ok read) = read.unread ≡ None
ReadsWhole (Err e) = IsNoFailure e

abbrev pub ReadsWholeRows : Result RowsRead Refused → Type 0
ReadsWholeRows (Ok read) = read.unread ≡ None
ReadsWholeRows (Err e) = IsNoFailure e

-- ---- the rows as they were read

-- a volume's row as it was read, by the table, copy A first: each of its copies was read, or its read failed and the
-- count of faults rose at it
pub record IsReading (before now volume : ℕ) (c : Content) (r : RowReading) : Type 0 where
  pub between : ℕ
  pub a : CopyRead
  pub b : CopyRead
  pub a_read : IsReadOf before between (c TableA volume) a
  pub b_read : IsReadOf between now (c TableB volume) b
  pub told : r ≡ reading a b

-- the rows as they were read, one after the other: so many faults were counted before the row of a volume was read
pub record Readings (before now : ℕ) (c : Content) : Type 0 where
  pub row : ℕ → RowReading
  pub counts : ℕ → ℕ
  pub first : counts 0 ≡ before
  pub last : counts 32 ≡ now
  pub each : (volume : ℕ) → IsReading (counts volume) (counts (volume + 1)) volume c (row volume)

-- what reading a volume's row answers: the row, whose serial is the one that is asked, or a fault, or that nothing is
-- known
abbrev pub TellsRow : ℕ → Option (List ℕ) → RowReading → Result RowRead Refused → Type 0
TellsRow volume asked r (Ok read) = (r ≡ known read.row (is_some read.unread)) × (read_fault volume asked r ≡ None)
TellsRow volume asked r (Err (RowUnread v fault)) = (v ≡ volume) × (r ≡ unknown)
TellsRow volume asked r (Err (Stopped fault)) = ⊥
TellsRow volume asked r (Err e) = is_of_content e ≡ true → read_fault volume asked r ≡ Some e

-- a volume's row as it was read, and what was answered
pub record ReadsVolume (before now volume : ℕ) (asked : Option (List ℕ)) (c : Content)
    (result : Result RowRead Refused) : Type 0 where
  pub read : RowReading
  pub is : IsReading before now volume c read
  pub tells : TellsRow volume asked read result

-- something is known of the first rows
abbrev pub AreKnown : ℕ → (ℕ → RowReading) → Type 0
AreKnown count row = (volume : ℕ) → volume < count → row volume ≢ unknown

-- one copy alone told the row, since a read of the other failed
abbrev pub IsAlone : RowReading → Type 0
IsAlone r = (row : Option RowValue) × (r ≡ known row true)

-- of the first volume whose row one copy alone told, the count of faults behind its reads
pub record IsFirstAlone (count : ℕ) (row : ℕ → RowReading) (counts : ℕ → ℕ) (fault : ℕ) : Type 0 where
  pub volume : ℕ
  pub low : volume < count
  pub alone : IsAlone (row volume)
  pub lowest : (v : ℕ) → v < volume → IsAlone (row v) → ⊥
  pub count_ : fault ≡ counts (volume + 1)

-- what is kept of the rows that one copy alone told
abbrev pub FirstAlone : ℕ → (ℕ → RowReading) → (ℕ → ℕ) → Option ℕ → Type 0
FirstAlone count row counts None = (volume : ℕ) → volume < count → IsAlone (row volume) → ⊥
FirstAlone count row counts (Some fault) = IsFirstAlone count row counts fault

-- a row that was read, whether or not a copy was missing
abbrev pub IsKnown : Option RowValue → RowReading → Type 0
IsKnown row r = (missing : Bool) × (r ≡ known row missing)

-- all rows as they were read, without a fault among them
pub record AreRead (before now : ℕ) (asked : ℕ → Option (List ℕ)) (c : Content)
    (rows : List (Option RowValue)) (unread : Option ℕ) : Type 0 where
  pub readings : Readings before now c
  pub known : (volume : ℕ) → volume < 32 → IsKnown (row_in_list rows volume) (readings.row volume)
  pub none : first_below 32 (row_fault asked readings.row) ≡ None
  pub alone : FirstAlone 32 readings.row readings.counts unread

-- the walk over the rows ended at this one
pub record EndsAtRow (before now : ℕ) (asked : ℕ → Option (List ℕ)) (c : Content) (e : Refused) : Type 0 where
  pub readings : Readings before now c
  pub volume : ℕ
  pub low : volume < 32
  pub known : AreKnown volume readings.row
  pub none : first_below volume (row_fault asked readings.row) ≡ None
  pub tells : TellsRow volume (asked volume) (readings.row volume) (Err e)

abbrev pub ReadsRows : ℕ → ℕ → (ℕ → Option (List ℕ)) → Content → Result RowsRead Refused → Type 0
ReadsRows before now asked c (Ok read) = AreRead before now asked c read.rows read.unread
ReadsRows before now asked c (Err Memory) = Unit {0}
ReadsRows before now asked c (Err e) = EndsAtRow before now asked c e

-- ---- the survey

-- nothing is known of this row alone so far, and no earlier one is at fault
pub record IsFirstUnread (asked : ℕ → Option (List ℕ)) (row : ℕ → RowReading) (volume : ℕ) : Type 0 where
  pub low : volume < 32
  pub unread : row volume ≡ unknown
  pub known : AreKnown volume row
  pub none : first_below volume (row_fault asked row) ≡ None

-- each row of which nothing is known stands behind one that is at fault
abbrev pub AreBehindFaults : (ℕ → Option (List ℕ)) → (ℕ → RowReading) → Type 0
AreBehindFaults asked row =
    (volume : ℕ) → volume < 32 → row volume ≡ unknown → first_below volume (row_fault asked row) ≢ None

-- each row is known, and none is at fault
pub record AreFaultless (asked : ℕ → Option (List ℕ)) (row : ℕ → RowReading) : Type 0 where
  pub known : AreKnown 32 row
  pub none : first_below 32 (row_fault asked row) ≡ None

-- the halves of the rows, and then their pages, are without a fault
pub record StandApart (frames : ℕ) (rows : RowsOf) : Type 0 where
  pub halves : first_below 32 (halves_fault rows) ≡ None
  pub pages : first_below 32 (pages_fault frames rows) ≡ None

-- a stop comes behind the walks over halves and pages
abbrev pub StopsBehind : ℕ → RowsOf → Refused → Type 0
StopsBehind frames rows (Stopped fault) = StandApart frames rows
StopsBehind frames rows _ = Unit {0}

-- what a survey answers of rows as they were read: the rows, where there is no fault, or the first fault
abbrev pub SurveyTells : ℕ → (ℕ → Option (List ℕ)) → (ℕ → RowReading) → Content
    → Result (List (Option RowValue)) Refused → Type 0
SurveyTells frames asked row c (Ok rows) =
    AreFaultless asked row × (row_in_list rows ≡ rows_in row) × (first_fault_of frames asked row c ≡ None)
SurveyTells frames asked row c (Err (RowUnread volume fault)) = IsFirstUnread asked row volume
SurveyTells frames asked row c (Err (Stopped fault)) =
    AreFaultless asked row × StandApart frames (rows_in row)
SurveyTells frames asked row c (Err Memory) = Unit {0}
SurveyTells frames asked row c (Err e) = AreBehindFaults asked row × (first_fault_of frames asked row c ≡ Some e)

-- the count of faults since the rows were read: it rose where a stop is answered, and a row that isn't known was read
-- last
abbrev pub CountsSince : ℕ → ℕ → Result (List (Option RowValue)) Refused → Type 0
CountsSince mid now (Ok rows) = now ≡ mid
CountsSince mid now (Err (Stopped fault)) = IsFaultSince mid now fault
CountsSince mid now (Err Memory) = mid ≤ now
CountsSince mid now (Err e) = now ≡ mid

-- the survey of a content, whose rows were read by the table, where reads may have failed
pub record Surveys (before now frames : ℕ) (asked : ℕ → Option (List ℕ)) (c : Content)
    (result : Result (List (Option RowValue)) Refused) : Type 0 where
  pub mid : ℕ
  pub readings : Readings before mid c
  pub tells : SurveyTells frames asked readings.row c result
  pub counts : CountsSince mid now result

abbrev pub rows_read : Result RowsRead Refused → Result (List (Option RowValue)) Refused
rows_read (Ok read) = Ok read.rows
rows_read (Err e) = Err e

-- what a survey without a failed read answers: the rows of the content, which has no fault, or its first fault
abbrev pub IsExact : ℕ → (ℕ → Option (List ℕ)) → Content → Result (List (Option RowValue)) Refused → Type 0
IsExact frames asked c (Ok rows) = (row_in_list rows ≡ rows_of c) × (first_fault frames asked c ≡ None)
IsExact frames asked c (Err (RowUnread volume fault)) = ⊥
IsExact frames asked c (Err (Stopped fault)) = ⊥
IsExact frames asked c (Err Memory) = Unit {0}
IsExact frames asked c (Err e) = first_fault frames asked c ≡ Some e
