-- What an event does to the devices, of which only so much is seen.
use Rattle.std.specs.Prelude.{◌≡◌, ◌≤◌, ◌<◌, ℕ, ◌+◌, Bool, true, false, List, [], ◌∷◌, length}
use Rattle.mss_base.specs.Content.{Content, SiteLog, Got, Settles, content, synced, unsynced}
use Rattle.mss_base.specs.Counts.{Rises, IsFaultSince}
use Rattle.mss_base.specs.declared.place.BlockPlace.{BlockPlace}
use Rattle.mss_base.specs.declared.place.UnitNo.{UnitNo}
use Rattle.ckd_track.specs.Track.{reading}
use Rattle.channel_commands.specs.Codes.{is_write}
use Rattle.channel_commands.specs.Data.{ReplyData}
use Rattle.channel_commands.specs.declared.command.Command.{Command}
use Rattle.ckd_plain.specs.Plain.{Answer, with_open_chain, IsDone, KeepsChain}
use Rattle.ckd_plain.specs.declared.host.HostState.{HostState}
use Rattle.ckd_plain.specs.Effects.{prior_number}
use Rattle.volume_table.specs.Row.{RowValue}
use Rattle.table_pair.specs.declared.copy.SlotsUsed.{SlotsUsed}
use Rattle.table_pair.specs.Slots.{IsChanged}
use Rattle.track_engine.specs.Answers.{ran}
use Rattle.track_engine.specs.Faults.{HasUnitCheck}
use Rattle.track_engine.specs.Tracks.{tracks_at}
use Rattle.track_engine.specs.Writing.{WritesTrack, HoldsWritten}
use Rattle.track_engine.specs.Writing.{IsOfNothing, most_writes}
use Rattle.shown_volumes.specs.Shown.{block_at}
use Rattle.transfers.specs.Copies.{target, source, AddsAtMost, AddsCopy}
use Rattle.transfers.specs.declared.transfer.Transfer.{Transfer}
use Rattle.core_state.specs.CoreValue.{DevicesSeen}
use Rattle.core_state.specs.Rows.{Rewrites}

-- ---- nothing is written

-- and no call failed
pub record StillHold (tells : Type 0) (old new : DevicesSeen) : Type 0 where
  pub told : tells → new.told ≡ old.told
  pub unwritten : new.writes ≡ old.writes
  pub sound : new.faults ≡ old.faults

-- but a read failed
pub record FailRead (tells : Type 0) (old new : DevicesSeen) : Type 0 where
  pub told : tells → new.told ≡ old.told
  pub unwritten : new.writes ≡ old.writes
  pub failed : Rises old.faults new.faults

-- ---- a row is written

-- both copies of a row are rewritten, whatever comes of it
pub record WriteRow (tells : Type 0) (volume : ℕ) (row : RowValue) (old new : DevicesSeen)
    : Type 0 where
  pub moments : tells → Rewrites volume row old.told new.told
  pub later : old.writes ≤ new.writes

-- no call failed, and both have it, with so many slots in use
pub record HaveRow (tells : Type 0) (volume : ℕ) (row : RowValue) (used : SlotsUsed)
    (old new : DevicesSeen) : Type 0 where
  pub write : WriteRow tells volume row old new
  pub changed : tells → IsChanged row used volume old.told new.told
  pub grown : tells → length old.told.log < length new.told.log
  pub sound : new.faults ≡ old.faults

-- a write was made and failed, with this fault
pub record FailRow (tells : Type 0) (volume : ℕ) (row : RowValue) (fault : ℕ)
    (old new : DevicesSeen) : Type 0 where
  pub write : WriteRow tells volume row old new
  pub wrote : Rises old.writes new.writes
  pub cause : IsFaultSince old.faults new.faults fault

-- ---- a command runs

-- a command of a host, on the blocks of a cylinder, of which this is the first
pub record Run : Type 0 where
  pub host : HostState
  pub at : BlockPlace
  pub command : Command
  pub argument : List ℕ
  pub chained : Bool

-- the plain machine's answer on these blocks
abbrev pub answer_on : Run → Content → Answer
answer_on r c = ran c r.at.unit r.at.block r.host r.command r.argument r.chained

-- at each moment within, the track under the host is one that a stop may leave, and nothing else
-- differs
abbrev pub WritesFor : Run → SiteLog → SiteLog → Type 0
WritesFor r old new =
    WritesTrack r.command (with_open_chain r.host) r.at.unit r.at.block old new
    (answer_on r (content old)).written

-- the track under the host
abbrev pub track_under : Run → Content → List ℕ
track_under r c = c r.at.unit (r.at.block + r.host.head)

-- an update of a record that has no bytes to update
abbrev pub UpdatesNothing : Run → Content → Type 0
UpdatesNothing r c =
    IsOfNothing r.command (prior_number (with_open_chain r.host).prior)
    (tracks_at c r.at.unit r.at.block r.host.head)

-- it is replied this, and leaves this host; no call failed, and only a write without unit check has
-- written, so many items at most, and an update only if it has bytes; what was written is firm
pub record RunOn (tells : Type 0) (r : Run) (old new : DevicesSeen) (answer : ReplyData × HostState)
    : Type 0 where
  pub done_ : IsDone answer.0
  pub mounted_ : answer.1.mounted ≡ r.host.mounted
  pub chain : KeepsChain r.chained answer.0 answer.1
  pub reply_ : tells → answer.0 ≡ (answer_on r (content old.told)).reply
  pub host_ : tells → answer.1 ≡ (answer_on r (content old.told)).host
  pub moments : tells → WritesFor r old.told new.told
  pub exact : tells → HoldsWritten (answer_on r (content old.told)).written
      (reading (track_under r (content new.told)))
  pub firm : tells → Settles old.told new.told
  pub later : old.writes ≤ new.writes
  pub few : tells → length new.told.log ≤ length old.told.log + most_writes r.command
  pub looks : is_write r.command ≡ false → new.writes ≡ old.writes
  pub refused : HasUnitCheck answer.0 → new.writes ≡ old.writes
  pub untouched : tells → UpdatesNothing r (content old.told) → new.writes ≡ old.writes
  pub sound : new.faults ≡ old.faults

-- it is a write, and a write of the devices was made and failed, with this fault
pub record FailOn (tells : Type 0) (r : Run) (fault : ℕ) (old new : DevicesSeen) : Type 0 where
  pub write : is_write r.command ≡ true
  pub moments : tells → WritesFor r old.told new.told
  pub few : tells → length new.told.log ≤ length old.told.log + most_writes r.command
  pub wrote : Rises old.writes new.writes
  pub cause : IsFaultSince old.faults new.faults fault

-- ---- a track is copied

-- the whole block is copied, in one write, and no call failed
pub record CopyBlock (tells : Type 0) (t : Transfer) (old new : DevicesSeen) : Type 0 where
  pub written : tells → AddsCopy t old.told new.told
  pub copied : tells
      → block_at (content new.told) (target t t.next) ≡ source t t.next (content old.told)
  pub later : old.writes ≤ new.writes
  pub sound : new.faults ≡ old.faults

-- a call failed; the block copied to holds what it did, or anything
pub record LeaveBlock (tells : Type 0) (t : Transfer) (old new : DevicesSeen) : Type 0 where
  pub left : tells → AddsAtMost (target t t.next) old.told new.told
  pub later : old.writes ≤ new.writes
  pub failed : Rises old.faults new.faults

-- ---- a unit is synced

-- what was written to it is firm, and no call failed
pub record SyncUnit (tells : Type 0) (unit : UnitNo) (old new : DevicesSeen) : Type 0 where
  pub told : tells → Got (synced unit ∷ []) old.told new.told
  pub later : old.writes ≤ new.writes
  pub sound : new.faults ≡ old.faults

-- the sync failed, and made nothing firm
pub record FailSync (tells : Type 0) (old new : DevicesSeen) : Type 0 where
  pub told : tells → Got (unsynced ∷ []) old.told new.told
  pub tried : Rises old.writes new.writes
  pub later : old.writes ≤ new.writes
  pub failed : Rises old.faults new.faults
