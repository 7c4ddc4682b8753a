-- A copy of a volume as it was at one point of a history: which tracks are taken, and what they stand for.
use Rattle.std.specs.Prelude.{◌≡◌, ◌≤◌, ◌<◌, ℕ, ◌+◌, ◌*◌, ◌/◌, ◌%◌, List, [], length, take}
use Rattle.std.specs.Prelude.{◌∷◌, slice_index_or, Option, Some, None, IsSome}
use Rattle.std.specs.Option.{IsSomeAnd}
use Rattle.mss_base.specs.Content.{SiteLog}
use Rattle.mss_base.specs.Counts.{IsFaultWithin}
use Rattle.mss_base.specs.Geometry.{volume_cylinders, cylinder_heads}
use Rattle.ckd_track.specs.Data.{RecordData, Volumes}
use Rattle.ckd_track.specs.Track.{reading}
use Rattle.ckd_plain.specs.Data.{State}
use Rattle.ckd_plain.specs.History.{EntryData, after}
use Rattle.fault_queue.specs.Requests.{RequestsData}
use Rattle.core_state.specs.Counted.{IsLast, fault_asked, fault_at}
use Rattle.core_state.specs.CoreValue.{CoreValue}
use Rattle.core_state.specs.IsCore.{opening_of}
use Rattle.volume_copy.specs.declared.copier.CopyState.{CopyState}
use Rattle.volume_copy.specs.declared.copier.CopyState.TheVariants.{Armed, NoVolume, Taking, Whole, Failed}
use Rattle.volume_copy.specs.declared.taken.Taken.{Taken}
use Rattle.volume_copy.specs.declared.taken.Taken.TheVariants as taken
use Rattle.volume_copy.specs.declared.taken.TheConstants.{TRACKS}

-- ---- tracks by number: cylinder by cylinder, and head by head

abbrev pub track_number : ℕ → ℕ → ℕ
track_number cylinder head = cylinder * cylinder_heads + head

abbrev pub track_of : Volumes → ℕ → ℕ → List RecordData
track_of volumes volume n = volumes.track volume (n / cylinder_heads) (n % cylinder_heads)

-- ---- which tracks are taken

abbrev pub records_of : Taken → Option (List RecordData)
records_of taken.Not = None
records_of taken.Blank = Some []
records_of (taken.Track block) = Some (reading block).records

abbrev pub taken_at : List Taken → ℕ → Option (List RecordData)
taken_at tracks n = records_of (slice_index_or tracks n taken.Not)

abbrev pub AreNoneTaken : List Taken → Type 0
AreNoneTaken tracks = (n : ℕ) → taken_at tracks n ≡ None

abbrev pub AreAllTaken : List Taken → Type 0
AreAllTaken tracks = (n : ℕ) → n < TRACKS → IsSome (taken_at tracks n)

-- the block of a track, where it is taken and has a record
abbrev pub IsBlockOf : Option (List RecordData) → Option (List ℕ) → Type 0
IsBlockOf (Some (r ∷ rs)) told = IsSomeAnd told (λ block. (reading block).records ≡ r ∷ rs)
IsBlockOf _ told = told ≡ None

-- all before the track of this number are taken, and it isn't
pub record IsFirstLeft (tracks : List Taken) (n : ℕ) : Type 0 where
  pub there : n < TRACKS
  pub left_ : taken_at tracks n ≡ None
  pub before : (m : ℕ) → m < n → IsSome (taken_at tracks m)

-- ---- a copier

-- the volume, the length of the history at which it is to begin, how far it is, the length at which
-- it began, and the tracks
pub record CopyData : Type 0 where
  pub volume : ℕ
  pub after_ : ℕ
  pub state : CopyState
  pub point : ℕ
  pub tracks : List Taken

-- which copy is asked for: of a volume, behind so many entries
pub record AskedCopy : Type 0 where
  pub volume : ℕ
  pub after_ : ℕ

abbrev pub asked_by : CopyData → AskedCopy
asked_by c = record { volume = c.volume; after_ = c.after_ }

-- what the type of a copier keeps
pub record IsCopier (c : CopyData) : Type 0 where
  pub armed : c.state ≡ Armed → AreNoneTaken c.tracks
  pub unset : c.state ≡ Armed → c.point ≡ 0
  pub some_left : c.state ≡ Taking → (n : ℕ) × IsFirstLeft c.tracks n
  pub whole : c.state ≡ Whole → AreAllTaken c.tracks

-- ---- what a copy stands for

-- a taken track is the one at the point; one that isn't taken is the same there as now
abbrev pub IsTrackOf : Option (List RecordData) → List RecordData → List RecordData → Type 0
IsTrackOf (Some track) point now = track ≡ point
IsTrackOf None point now = now ≡ point

-- the copy is that of the volume after the entries before its point
pub record IsCopying (c : CopyData) (s : State) (history : List EntryData) : Type 0 where
  pub reached : c.point ≤ length history
  pub there : IsSome (s.volumes.serial c.volume)
  pub tracks_ : (n : ℕ) → n < TRACKS → IsTrackOf (taken_at c.tracks n)
      (track_of (after s (take c.point history)).volumes c.volume n)
      (track_of (after s history).volumes c.volume n)

-- of a history from this start; a copy that hasn't begun stands for any, and of one that failed only
-- so much is known, that there is such a volume
abbrev pub Stands : CopyState → CopyData → State → List EntryData → Type 0
Stands Armed c s history = Unit {0}
Stands NoVolume c s history = s.volumes.serial c.volume ≡ None
Stands Taking c s history = IsCopying c s history
Stands Whole c s history = IsCopying c s history
Stands (Failed fault) c s history = IsSome (s.volumes.serial c.volume)

-- of the session of a core; each copy stands for one that is stopped
abbrev pub StandsFor : {S C : Type 0} → SiteLog → CopyData → CoreValue S C → Type 0
StandsFor site c v = v.stopped ≡ None → Stands c.state c (opening_of site v) v.history

-- it began at its time, if it began, and else its time may have come
pub record IsInTime (c : CopyData) (history : List EntryData) : Type 0 where
  pub waits : c.state ≡ Armed → length history ≤ c.after_
  pub began : (c.state ≡ Armed → ⊥) → (c.point ≡ c.after_) × (c.after_ ≤ length history)

-- between events, where it hasn't come
pub record IsOnTime (c : CopyData) (history : List EntryData) : Type 0 where
  pub waits : c.state ≡ Armed → length history < c.after_
  pub began : (c.state ≡ Armed → ⊥) → (c.point ≡ c.after_) × (c.after_ ≤ length history)

-- no entry keeps this fault, and no request, unless the count of faults stands at its last value
pub record IsOwnFault (history : List EntryData) (requests : RequestsData) (fault : ℕ) : Type 0
  where
    pub in_entry : (place : ℕ) → fault_at history place ≡ Some fault → IsLast fault
    pub in_request : (h : ℕ) → fault_asked requests h ≡ Some fault → IsLast fault

-- a call failed since the session began, and it is none that an entry or a request keeps; faults:
-- the site's count now
pub record FailedApart (history : List EntryData) (requests : RequestsData) (first faults fault : ℕ)
    : Type 0 where
  pub within : IsFaultWithin first faults fault
  pub own : IsOwnFault history requests fault

abbrev pub FailedIn : {S C : Type 0} → CoreValue S C → ℕ → CopyState → Type 0
FailedIn v faults (Failed fault) = FailedApart v.history v.requests v.first_faults faults fault
FailedIn v faults _ = Unit {0}

-- ---- what that says

-- each track of the volume is taken, as it stands there
abbrev pub IsVolumeIn : CopyData → Volumes → Type 0
IsVolumeIn c volumes = (cylinder head : ℕ) → cylinder < volume_cylinders → head < cylinder_heads
    → taken_at c.tracks (track_number cylinder head) ≡ Some (volumes.track c.volume cylinder head)

-- each track that isn't taken is the same in both
abbrev pub LeavesSame : CopyData → Volumes → Volumes → Type 0
LeavesSame c volumes others = (n : ℕ) → n < TRACKS → taken_at c.tracks n ≡ None
    → track_of others c.volume n ≡ track_of volumes c.volume n
