-- How what the code returned compares with what the definition gives, on the tracks of a cylinder.
use Rattle.std.specs.Prelude.{◌≡◌, ℕ, ◌-◌, ◌<◌, List, [], length, slice_index_or, slice_set, Option, Some, None, Result, Ok, Err}
use Rattle.channel_commands.specs.declared.call.Reply.{Reply}
use Rattle.channel_commands.specs.Views.{reply_of}
use Rattle.ckd_track.specs.Data.{RecordData, blank_record}
use Rattle.ckd_plain.specs.declared.done.DoneCommand.{DoneCommand}
use Rattle.ckd_plain.specs.declared.found.FoundRecord.{FoundRecord}
use Rattle.ckd_plain.specs.declared.host.HostState.{HostState}
use Rattle.plain_machine.specs.declared.trouble.Trouble.{Trouble}
use Rattle.plain_machine.specs.declared.trouble.Trouble.TheVariants as trouble
use Rattle.ckd_plain.specs.declared.unit_check.Refusal.{Refusal}
use Rattle.ckd_plain.specs.Effects.{Effect}
use Rattle.ckd_plain.specs.Plain.{Answer}
use Rattle.ckd_plain.specs.Views.{IsFound}

-- the tracks of a cylinder by head
abbrev pub cylinder_of : List (List RecordData) → ℕ → List RecordData
cylinder_of tracks head = slice_index_or tracks head []

-- the record with this number on the host's track, or none
abbrev pub IsRecordAt : ℕ → HostState → Option FoundRecord → Option RecordData → Type 0
IsRecordAt number host (Some f) given = IsFound number host f given
IsRecordAt number host None given = given ≡ None

-- the record stands at the place of record number, from 1
pub record IsStoredAt (track : List RecordData) (number : ℕ) (r : RecordData) : Type 0 where
  pub there : number - 1 < length track
  pub is : slice_index_or track (number - 1) blank_record ≡ r

-- the trouble is the refusal that the definition gives, or want of memory
abbrev pub Refuses : {Y : Type 0} → Trouble → Result Y Refusal → Type 0
Refuses trouble.Memory given = Unit {0}
Refuses (trouble.Refused r) given = given ≡ Err r

-- what a function returned is what the definition gives, unless memory ran out
abbrev pub GivesUnless : {X Y : Type 0} → (X → Y) → Result X Trouble → Result Y Refusal → Type 0
GivesUnless view (Ok x) given = given ≡ Ok (view x)
GivesUnless view (Err e) given = Refuses e given

-- a command that wrote the track
abbrev pub writing : DoneCommand → List RecordData → Effect
writing d track = record { status = d.status; bytes = d.bytes.items; host = d.host; written = Some track }

-- the track written, and as it was where the command ended otherwise
abbrev pub GivesWritten : List RecordData → List RecordData → Result DoneCommand Trouble → Result Effect Refusal → Type 0
GivesWritten old new (Ok d) given = given ≡ Ok (writing d new)
GivesWritten old new (Err e) given = Refuses e given × (new ≡ old)

-- the tracks of a cylinder, with one written where there is one to write
abbrev pub written_in : List (List RecordData) → ℕ → Option (List RecordData) → List (List RecordData)
written_in tracks head None = tracks
written_in tracks head (Some track) = slice_set tracks head track

-- the reply, the host and the tracks are those of the answer to a host as it was
pub record Answers (a : Answer) (from : HostState) (old new : List (List RecordData)) (host : HostState) (reply : Reply) : Type 0 where
  pub reply_ : reply_of reply ≡ a.reply
  pub host_ : host ≡ a.host
  pub tracks : new ≡ written_in old from.head a.written

-- the effect is what was done: its status, data and host, and the tracks then
pub record Does (e : Effect) (from : HostState) (old new : List (List RecordData)) (d : DoneCommand) : Type 0 where
  pub status : d.status ≡ e.status
  pub bytes : d.bytes.items ≡ e.bytes
  pub host : d.host ≡ e.host
  pub tracks : new ≡ written_in old from.head e.written

abbrev pub DoesOutcome : Result Effect Refusal → HostState → List (List RecordData) → List (List RecordData) → DoneCommand → Type 0
DoesOutcome (Ok e) from old new d = Does e from old new d
DoesOutcome (Err r) from old new d = ⊥

-- the outcome, unless memory ran out; the tracks are as they were, where the command did nothing
abbrev pub GivesEffect : HostState → List (List RecordData) → List (List RecordData) → Result DoneCommand Trouble → Result Effect Refusal → Type 0
GivesEffect from old new (Ok d) given = DoesOutcome given from old new d
GivesEffect from old new (Err e) given = Refuses e given × (new ≡ old)
