-- What the calls of a copier change.
use Rattle.std.specs.Prelude.{◌≡◌, ◌≢◌, ◌⊎◌, ℕ, ◌==◌, Bool, true, false, if◌then◌else◌, List}
use Rattle.std.specs.Prelude.{Option, Some, None, IsSome, is_some}
use Rattle.mss_base.specs.Counts.{IsFaultSince}
use Rattle.channel_commands.specs.Codes.{command_of, is_write}
use Rattle.channel_commands.specs.Data.{CallData, command as ask}
use Rattle.channel_commands.specs.declared.command.Command.{Command}
use Rattle.ckd_plain.specs.declared.host.HostState.{HostState}
use Rattle.ckd_track.specs.Data.{RecordData, Volumes}
use Rattle.core_state.specs.Pins.{is_on}
use Rattle.volume_table.specs.Listed.{row_in_list}
use Rattle.volume_table.specs.Row.{RowValue}
use Rattle.shown_volumes.specs.Shown.{shown_by}
use Rattle.volume_copy.specs.declared.copier.CopyState.{CopyState}
use Rattle.volume_copy.specs.declared.copier.CopyState.TheVariants.{Armed, NoVolume, Taking, Whole, Failed}
use Rattle.volume_copy.specs.declared.taken.Taken.{Taken}
use Rattle.mss_base.specs.Content.{content}
use Rattle.mss_base.specs.Sites.{OnlyReads}
use Rattle.mss_base.specs.declared.site.Site.{Ghosts}
use Rattle.core_state.specs.CoreValue.{CoreData, CoreValue}
use Rattle.volume_copy.specs.Copies.{AreAllTaken, CopyData, FailedIn, IsFirstLeft, IsInTime}
use Rattle.volume_copy.specs.Copies.{IsOnTime, StandsFor}
use Rattle.volume_copy.specs.Copies.{taken_at, track_number, track_of}

-- ---- its start

abbrev pub is_armed : CopyState → Bool
is_armed Armed = true
is_armed _ = false

-- it begins behind so many entries, if there is such a volume
abbrev pub begun_copy : Option RowValue → ℕ → CopyData → CopyData
begun_copy row n c = record c { state = (if is_some row then Taking else NoVolume); point = n }

abbrev pub begun_if_armed : Option RowValue → ℕ → CopyData → CopyData
begun_if_armed row n c = if is_armed c.state then begun_copy row n c else c

-- it begins where it is armed and its time has come
abbrev pub noted_copy : Option RowValue → ℕ → CopyData → CopyData
noted_copy row n c = if n == c.after_ then begun_if_armed row n c else c

-- ---- tracks that are taken

-- with these tracks a copy that has begun is so far
abbrev pub IsStateOf : List Taken → CopyState → Type 0
IsStateOf tracks state =
    ((state ≡ Taking) × (n : ℕ) × IsFirstLeft tracks n) ⊎ ((state ≡ Whole) × AreAllTaken tracks)

-- a track that was taken stays; another one stays too, or is taken as it is shown
abbrev pub IsLeftOrTaken : Type 0 → Option (List RecordData) → Option (List RecordData)
    → List RecordData → Type 0
IsLeftOrTaken tells (Some track) now shown = now ≡ Some track
IsLeftOrTaken tells None now shown = (now ≡ None) ⊎ (IsSome now × (tells → now ≡ Some shown))

-- it is a copy of the same volume at the same point
pub record IsOfSame (old new : CopyData) : Type 0 where
  pub volume_ : new.volume ≡ old.volume
  pub time : new.after_ ≡ old.after_
  pub point_ : new.point ≡ old.point

-- some tracks of the shown volume were taken
pub record TakesTracks (tells : Type 0) (shown : Volumes) (old new : CopyData) : Type 0 where
  pub same : IsOfSame old new
  pub state_ : (new.state ≡ Taking) ⊎ (new.state ≡ Whole)
  pub tracks_ : (n : ℕ) → IsLeftOrTaken tells (taken_at old.tracks n) (taken_at new.tracks n)
      (track_of shown old.volume n)

-- this one was
pub record TakesTrack (tells : Type 0) (shown : Volumes) (n : ℕ) (old new : CopyData)
    : Type 0 where
  pub takes : TakesTracks tells shown old new
  pub here : IsSome (taken_at new.tracks n)
  pub others : (m : ℕ) → m ≢ n → taken_at new.tracks m ≡ taken_at old.tracks m

-- it was, and no call failed; or its read failed, and the copy with it
pub data TakesOrFails (tells : Type 0) (shown : Volumes) (n before now : ℕ) (old new : CopyData)
    : Type 0 where
  taken : TakesTrack tells shown n old new → now ≡ before
      → TakesOrFails tells shown n before now old new
  failed : (fault : ℕ) → IsFaultSince before now fault → new ≡ record old { state = Failed fault }
      → TakesOrFails tells shown n before now old new

-- it is, unless it was before
pub data TakesOnce (tells : Type 0) (shown : Volumes) (n before now : ℕ) (old new : CopyData)
    : Type 0 where
  had : IsSome (taken_at old.tracks n) → new ≡ old → now ≡ before
      → TakesOnce tells shown n before now old new
  lacked : taken_at old.tracks n ≡ None → TakesOrFails tells shown n before now old new
      → TakesOnce tells shown n before now old new

-- ---- the calls

-- the track that a copy takes next
abbrev pub IsNext : CopyData → Option ℕ → Type 0
IsNext c (Some n) = (c.state ≡ Taking) × IsFirstLeft c.tracks n
IsNext c None = c.state ≡ Taking → ⊥

-- of a copy that is taking, the first track that isn't taken is; any other stays, and no call fails
pub record TakesNext (tells : Type 0) (shown : Volumes) (before now : ℕ) (old new : CopyData)
    : Type 0 where
  pub takes : old.state ≡ Taking → (n : ℕ) → IsFirstLeft old.tracks n
      → TakesOrFails tells shown n before now old new
  pub rests : (old.state ≡ Taking → ⊥) → (new ≡ old) × (now ≡ before)

abbrev pub writes : Option Command → Bool
writes (Some command) = is_write command
writes None = false

abbrev pub is_write_call : CallData → Bool
is_write_call (ask code argument chained) = writes (command_of code)
is_write_call _ = false

-- the track under a host that is about to write on the volume
abbrev pub number_under : HostState → ℕ
number_under host = track_number host.cylinder host.head

-- the call is a write on the volume of a copy that is taking
pub record MayWriteOn (c : CopyData) (host : HostState) (call : CallData) : Type 0 where
  pub taking : c.state ≡ Taking
  pub write : is_write_call call ≡ true
  pub on : is_on c.volume host.mounted ≡ true

-- its track is taken
abbrev pub Guards : CopyData → HostState → CallData → Type 0
Guards c host call = MayWriteOn c host call → IsSome (taken_at c.tracks (number_under host))

-- the rest of the tracks is taken: of a copy that is taking all of them are, or the first read that
-- fails ends it; any other stays
pub data Finishes (tells : Type 0) (shown : Volumes) (before now : ℕ) (old new : CopyData)
    : Type 0 where
  rests : (old.state ≡ Taking → ⊥) → new ≡ old → now ≡ before
      → Finishes tells shown before now old new
  whole : old.state ≡ Taking → new.state ≡ Whole → TakesTracks tells shown old new → now ≡ before
      → Finishes tells shown before now old new
  failed : (fault : ℕ) → old.state ≡ Taking → IsFaultSince before now fault
      → new.state ≡ Failed fault → IsOfSame old new → Finishes tells shown before now old new

-- ---- the core

-- it was read at most
pub record ReadsCore {S C : Type 0} (g : Ghosts S) (old new : CoreValue S C) : Type 0 where
  pub core : new ≡ record old { site = new.site }
  pub site_ : OnlyReads g old.site new.site

-- the next track of a copy is taken as the devices of a core show it
abbrev pub TakesNextFrom : {S C : Type 0} → Ghosts S → CoreValue S C → CoreValue S C → CopyData
    → CopyData → Type 0
TakesNextFrom g v w old new =
    TakesNext g.tells (shown_by (row_in_list v.rows) (content (g.told v.site)))
    (g.faults v.site) (g.faults w.site) old new

-- the copy stands for its session as before, and is as much on time
pub record KeepsStanding {S C : Type 0} (g : Ghosts S) (v w : CoreValue S C) (old new : CopyData)
    : Type 0 where
  pub stands : g.tells → StandsFor (g.told v.site) old v → StandsFor (g.told w.site) new w
  pub time : IsOnTime old v.history → IsOnTime new w.history
  pub failed : FailedIn v (g.faults v.site) old.state → FailedIn w (g.faults w.site) new.state

-- ---- the events

-- the copy stands for the session as before the event, and isn't late
pub record LeavesCopy (tells : Type 0) (c : CopyData) (core left : CoreData) : Type 0 where
  pub stands : tells → StandsFor core.site.told c core → StandsFor left.site.told c left
  pub time : IsOnTime c core.history → IsInTime c left.history
