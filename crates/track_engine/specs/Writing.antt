-- What a command does on the blocks of a cylinder, and what a stop within it may leave.
use Rattle.std.specs.Prelude.{◌≡◌, ◌⊎◌, ℕ, ◌+◌, ◌-◌, Bool, true, false, List, [], ◌∷◌, ◌++◌, take}
use Rattle.std.specs.Prelude.{Option, Some, None, Result, Ok, Err, OnOk, IfErr}
use Rattle.mss_base.specs.Blocks.{block_of}
use Rattle.mss_base.specs.Content.{SiteLog, content, Settles, Writes, ChangesBlock}
use Rattle.mss_base.specs.declared.place.BlockPlace.{BlockPlace}
use Rattle.mss_base.specs.declared.place.UnitNo.{UnitNo}
use Rattle.channel_commands.specs.declared.command.Command.{Command}
use Rattle.channel_commands.specs.declared.command.Command.TheVariants as command
use Rattle.channel_commands.specs.declared.command.WriteKind.{WriteKind}
use Rattle.channel_commands.specs.declared.command.WriteKind.TheVariants as write
use Rattle.ckd_track.specs.Data.{RecordData}
use Rattle.ckd_track.specs.Track.{Reading, reading, reading_of, record_at}
use Rattle.ckd_track.specs.Formatting.{IsRecord, LaterGates}
use Rattle.mss_base.specs.Geometry.{update_items, format_items}
use Rattle.ckd_track.specs.Updating.{record_behind, updated_records, updated_length}
use Rattle.ckd_plain.specs.declared.done.DoneCommand.{DoneCommand}
use Rattle.ckd_plain.specs.declared.host.HostState.{HostState}
use Rattle.ckd_plain.specs.declared.host.Position.TheVariants as position
use Rattle.ckd_plain.specs.declared.host.Prior.{Prior}
use Rattle.ckd_plain.specs.declared.host.Prior.TheVariants as prior
use Rattle.ckd_plain.specs.Data.{padded_bytes}
use Rattle.ckd_plain.specs.Effects.{Effect, Outcome, DONE, status_of, new_record, prior_number}
use Rattle.ckd_plain.specs.Near.{IsOverwrittenAt, IsEndedAt}
use Rattle.track_engine.specs.declared.find.RecordPlace.{RecordPlace}
use Rattle.track_engine.specs.declared.place.CylinderPlace.{CylinderPlace}
use Rattle.track_engine.specs.declared.place.NotDone.{NotDone}
use Rattle.track_engine.specs.Faults.{LeavesLog}
use Rattle.track_engine.specs.Found.{GivesBut}
use Rattle.track_engine.specs.Tracks.{tracks_at, tracks_on}

-- the track that is written, where one is
abbrev pub written_of : Outcome → Option (List RecordData)
written_of (Ok e) = e.written
written_of (Err refusal) = None

-- what was done, where this track was written or none
abbrev pub effect_as : Option (List RecordData) → DoneCommand → Effect
effect_as written d = record { status = d.status; bytes = d.bytes.items; host = d.host; written = written }

-- a write that isn't done yet: other bytes of the same lengths in record k, or the track ended before the record
-- behind k
abbrev pub IsBetween : Command → ℕ → List RecordData → List RecordData → Type 0
IsBetween (command.Write write.Data) k old now = IsOverwrittenAt false k old now
IsBetween (command.Write write.KeyData) k old now = IsOverwrittenAt true k old now
IsBetween (command.Write write.CountKeyData) k old now = IsEndedAt k old now
IsBetween _ k old now = ⊥

-- a block within a write: it is a track, the old one, the new one or one between
pub record IsStep (c : Command) (k : ℕ) (old new : List RecordData) (block : List ℕ) : Type 0 where
  pub good : (reading block).bad ≡ None
  pub step : ((reading block).records ≡ old)
      ⊎ (((reading block).records ≡ new) ⊎ IsBetween c k old (reading block).records)

-- where a command writes: the block, the track that it has, and the record that the command before left
pub record Target : Type 0 where
  pub block : BlockPlace
  pub track : List RecordData
  pub number : ℕ

-- the block under a host, where the command before left this prior
abbrev pub target_of : SiteLog → CylinderPlace → HostState → Prior → Target
target_of s place host left = record {
  block = record { unit = place.unit; block = place.first_block + host.head };
  track = tracks_on s place host.head;
  number = prior_number left;
}

-- the record at a place, in a block with these bytes
abbrev pub target_in : BlockPlace → List ℕ → RecordPlace → Target
target_in to block at = record { block = to; track = (reading block).records; number = at.number }

-- what is written where this is the track that comes of it: nothing, or one block, in steps
abbrev pub WritesBlock : Command → Target → SiteLog → SiteLog → Option (List RecordData) → Type 0
WritesBlock c to old new None = new ≡ old
WritesBlock c to old new (Some written) =
    Writes (ChangesBlock to.block.unit to.block.block (IsStep c to.number to.track written) (content old)) old new

-- the same of the block of the host's head, and the record that the command before left
abbrev pub WritesTrack : Command → HostState → UnitNo → ℕ → SiteLog → SiteLog → Option (List RecordData) → Type 0
WritesTrack c host unit first old new written =
    let to : Target = record {
      block = record { unit = unit; block = first + host.head };
      track = tracks_at (content old) unit first host.head;
      number = prior_number host.prior;
    } in
    WritesBlock c to old new written

-- the block has the track that was written, if one was
abbrev pub HoldsWritten : Option (List RecordData) → Reading → Type 0
HoldsWritten None block = Unit {0}
HoldsWritten (Some track) block = block ≡ reading_of track

-- what a write of this record leaves of the gates behind it, in its block before and now: a format closes them
abbrev pub LeavesGates : Command → ℕ → List ℕ → List ℕ → Type 0
LeavesGates (command.Write write.CountKeyData) number old new = LaterGates number old new
LeavesGates _ number old new = Unit {0}

-- the same of a block
abbrev pub LeavesGatesIn : Command → BlockPlace → ℕ → SiteLog → SiteLog → Type 0
LeavesGatesIn c to number old new = LeavesGates c number (block_of old to) (block_of new to)

-- What a function did on a site that tells is what the definition gives: its outcome, and its writes, whatever kept
-- it from the others. Once it is done, all that it wrote is firm.
pub record CarriesOut (given : Outcome) (c : Command) (to : Target) (old new : SiteLog)
    (result : Result DoneCommand NotDone) : Type 0 where
  pub outcome : GivesBut (effect_as (written_of given)) result given
  pub moments : WritesBlock c to old new (written_of given)
  pub exact : OnOk result (HoldsWritten (written_of given) (reading (content new to.block.unit to.block.block)))
  pub gates : (track : List RecordData) → written_of given ≡ Some track
      → OnOk result (LeavesGatesIn c to.block (to.number + 1) old new)
  pub firm : OnOk result (Settles old new)
  pub log : IfErr result (LeavesLog old new)

-- the bytes are a count, a key and data: those that an argument spells
pub record Spells (argument bytes : List ℕ) : Type 0 where
  pub whole : IsRecord bytes
  pub spelled : record_at 0 bytes ≡ new_record argument

-- a record formatted behind the one at a place
abbrev pub formatted_behind : List RecordData → RecordData → RecordPlace → Effect
formatted_behind track r at = record {
  status = DONE;
  bytes = [];
  host = record at.host { position = position.Done (at.number + 1); prior = prior.Wrote (at.number + 1) };
  written = Some (take at.number track ++ r ∷ []);
}

-- the write that updates a record's data, or its key too
abbrev pub update_kind : Bool → WriteKind
update_kind false = write.Data
update_kind true = write.KeyData

-- how many items of the log a command makes at most, writes and syncs
abbrev pub most_writes : Command → ℕ
most_writes (command.Write write.Data) = update_items
most_writes (command.Write write.KeyData) = update_items
most_writes (command.Write write.CountKeyData) = format_items
most_writes _ = 0

-- an update of a record k without bytes to update
abbrev pub IsOfNothing : Command → ℕ → List RecordData → Type 0
IsOfNothing (command.Write write.Data) k track = updated_length false (record_behind (k - 1) track) ≡ 0
IsOfNothing (command.Write write.KeyData) k track = updated_length true (record_behind (k - 1) track) ≡ 0
IsOfNothing _ k track = ⊥

-- the record at a place updated with these bytes
abbrev pub updated_at : Bool → List RecordData → List ℕ → RecordPlace → Effect
updated_at key_too track bytes at = record {
  status = status_of (record_behind (at.number - 1) track);
  bytes = [];
  host = record at.host { position = position.Done at.number };
  written = Some (updated_records key_too (at.number - 1) bytes track);
}

-- the record at a place updated with the front of an argument, or with an argument and zeros behind it
abbrev pub updated_with : Bool → List RecordData → List ℕ → RecordPlace → Effect
updated_with key_too track argument at =
    updated_at key_too track
    (padded_bytes (updated_length key_too (record_behind (at.number - 1) track)) argument) at
