-- The plain machine: each call's reply, and the state after it.
use Rattle.mss_base.specs.Configs.{VolumeData, serial_in, marked_in}
use Rattle.std.specs.Prelude.{◌≡◌, ℕ, ◌==◌, Bool, true, false, ◌&&◌, not, List, [], ◌∷◌, replicate, Option, Some, None, Result, Ok, Err, is_some, option_map, if◌then◌else◌}
use Rattle.channel_commands.specs.declared.call.BreakCause.{BreakCause}
use Rattle.channel_commands.specs.declared.call.BreakCause.TheVariants as cause
use Rattle.channel_commands.specs.declared.command.Command.{Command}
use Rattle.channel_commands.specs.declared.command.Command.TheVariants as command
use Rattle.channel_commands.specs.declared.command.SearchField.TheVariants as field
use Rattle.channel_commands.specs.declared.command.ReadWhat.TheVariants as what
use Rattle.channel_commands.specs.Data.{CallData, mount, demount, command as ask, break, ReplyData, done, mounted, demounted, already_mounted, not_mounted, no_volume, in_chain, program_check, chain_limit, has_trouble}
use Rattle.ckd_track.specs.Data.{RecordData, Volumes}
use Rattle.ckd_plain.specs.declared.host.HostState.{HostState}
use Rattle.ckd_plain.specs.declared.host.Position.TheVariants as position
use Rattle.ckd_plain.specs.declared.host.Prior.TheVariants as prior
use Rattle.ckd_plain.specs.declared.unit_check.Refusal.{Refusal}
use Rattle.ckd_plain.specs.declared.unit_check.UnitCheck.{UnitCheck}
use Rattle.ckd_plain.specs.declared.unit_check.UnitCheck.TheVariants as check
use Rattle.ckd_plain.specs.Data.{State}
use Rattle.ckd_plain.specs.Checks.{admitted_command}
use Rattle.ckd_plain.specs.Index.{Tracks}
use Rattle.ckd_plain.specs.Effects.{Effect, Outcome, effect, is_data, END_OF_FILE}

-- a command's answer: the reply, the host then, and the host's track where it is written
pub record Answer : Type 0 where
  pub reply : ReplyData
  pub host : HostState
  pub written : Option (List RecordData)

-- the first three sense bytes, and 21 zeros
abbrev pub sense : ℕ → ℕ → ℕ → List ℕ
sense a b c = a ∷ b ∷ c ∷ replicate 21 0

abbrev pub no_sense : List ℕ
no_sense = replicate 24 0

abbrev pub sense_of : UnitCheck → List ℕ
sense_of check.CommandReject = sense 0x80 0 0
sense_of check.InterventionRequired = sense 0x40 0 0
sense_of check.EquipmentCheck = sense 0x10 0 0
sense_of check.InvalidTrackFormat = sense 0 0x40 0
sense_of check.EndOfCylinder = sense 0 0x20 0
sense_of check.NoRecordFound = sense 0 0x08 0
sense_of check.FileProtected = sense 0 0x04 0
sense_of check.NoSpace = sense 0x40 0 0x01

-- channel end, device end and unit check
abbrev pub UNIT_CHECK : ℕ
UNIT_CHECK = 0x0E

-- a chain opens where none is open
abbrev pub with_open_chain : HostState → HostState
with_open_chain host = if host.chain_open then host else record host { chain_open = true; mask = 0; position = position.Start; passes = 0; prior = prior.Nothing }

abbrev pub keeps_sense : Command → Bool
keeps_sense command.NoOp = true
keeps_sense command.Sense = true
keeps_sense _ = false

-- the prior is for one command, and so is the sense but with no-op and sense
abbrev pub host_for_command : Command → HostState → HostState
host_for_command command host = record host { prior = prior.Nothing; sense = (if keeps_sense command then host.sense else no_sense) }

-- the commands that count the passes of a chain; each other one that ends without unit check sets them to 0
abbrev pub keeps_passes : Command → Bool
keeps_passes (command.Search field.Home _ _) = false
keeps_passes (command.Search _ _ _) = true
keeps_passes (command.Read what.Count _) = true
keeps_passes _ = false

-- unit check ends the chain
abbrev pub refusal_answer : Refusal → Answer
refusal_answer r = record { reply = done UNIT_CHECK []; host = record r.host { chain_open = false; sense = sense_of r.check }; written = None }

-- a command that a check refuses does nothing, but it was one command
abbrev pub refused_by : UnitCheck → HostState → Answer
refused_by check host = refusal_answer (record { check = check; host = record host { prior = prior.Nothing } })

-- the chain goes on where the call is chained and the status has no unit exception
abbrev pub effect_answer : Command → Bool → Effect → Answer
effect_answer command chained e = record {
  reply = done e.status e.bytes;
  host = record e.host { chain_open = chained && not (e.status == END_OF_FILE); passes = (if keeps_passes command then e.host.passes else 0) };
  written = e.written;
}

abbrev pub outcome_answer : Command → Bool → Outcome → Answer
outcome_answer command chained (Ok e) = effect_answer command chained e
outcome_answer command chained (Err r) = refusal_answer r

-- the reply of a command that was carried out, with unit check or without
abbrev pub IsDone : ReplyData → Type 0
IsDone (done status bytes) = Unit {0}
IsDone _ = ⊥

-- the reply of a command that ended with no unit check and no unit exception
abbrev pub IsSmooth : ReplyData → Type 0
IsSmooth (done status bytes) = has_trouble status ≡ false
IsSmooth _ = ⊥

-- a chain is open behind a command only where the call was chained, and ended with no unit check and no unit exception
pub record KeepsChain (chained : Bool) (reply : ReplyData) (host : HostState) : Type 0 where
  pub asked : host.chain_open ≡ true → chained ≡ true
  pub smooth : host.chain_open ≡ true → IsSmooth reply

-- a command that the checks admitted, of a host whose chain is open, on the tracks of its cylinder
unfoldable pub command_answer : Tracks → HostState → Command → List ℕ → Bool → Answer
command_answer tracks host command argument chained =
    outcome_answer command chained (effect tracks (host_for_command command host) host.prior command argument)

abbrev pub answer_by_checks : Tracks → HostState → List ℕ → Bool → Result Command UnitCheck → Answer
answer_by_checks tracks host argument chained (Ok command) = command_answer tracks host command argument chained
answer_by_checks tracks host argument chained (Err check) = refused_by check host

-- a command on the tracks of the host's cylinder
unfoldable pub answer_on_tracks : Tracks → HostState → ℕ → List ℕ → Bool → Answer
answer_on_tracks tracks host code argument chained =
    answer_by_checks tracks (with_open_chain host) argument chained (admitted_command (with_open_chain host) code argument)

-- ---- the state

abbrev pub with_host : State → ℕ → HostState → State
with_host s h host = record s { host = λ other. if other == h then host else s.host other }

abbrev pub with_track : Volumes → ℕ → ℕ → ℕ → List RecordData → Volumes
with_track volumes v c h track = record volumes { track = λ v' c' h'. if (v' == v) && (c' == c) && (h' == h) then track else volumes.track v' c' h' }

-- the tracks of the host's cylinder; blank where no volume is mounted
abbrev pub tracks_mounted : Volumes → Option (ℕ × Bool) → ℕ → Tracks
tracks_mounted volumes (Some m) c = volumes.track m.0 c
tracks_mounted volumes None c = λ head. []

abbrev pub tracks_under : Volumes → HostState → Tracks
tracks_under volumes host = tracks_mounted volumes host.mounted host.cylinder

-- the volumes, with the track under the host where it was written; a volume that isn't there has no tracks
abbrev pub written_there : Volumes → ℕ → HostState → Option (List ℕ) → List RecordData → Volumes
written_there volumes v host (Some serial) track = with_track volumes v host.cylinder host.head track
written_there volumes v host None track = volumes

abbrev pub written_mounted : Volumes → Option (ℕ × Bool) → HostState → Option (List RecordData) → Volumes
written_mounted volumes (Some m) host (Some track) = written_there volumes m.0 host (volumes.serial m.0) track
written_mounted volumes _ host _ = volumes

abbrev pub written_to : Volumes → HostState → Option (List RecordData) → Volumes
written_to volumes host written = written_mounted volumes host.mounted host written

abbrev pub Replied : Type 0
Replied = ReplyData × State

abbrev pub reply_and_state : State → ℕ → Answer → Replied
reply_and_state s h a = (a.reply, with_host (record s { volumes = written_to s.volumes (s.host h) a.written }) h a.host)

-- the host with this volume mounted, which is read-only or not
abbrev pub with_volume : HostState → ℕ → Bool → Bool → HostState
with_volume host volume bind read_only =
    record host { mounted = Some (volume, bind); protected = read_only; cylinder = 0; head = 0; sense = no_sense }

-- ---- calls that need no track

abbrev pub break_reply : BreakCause → ReplyData
break_reply cause.Program = program_check
break_reply cause.Limit = chain_limit

-- whether the volume that a call asks for is read-only, where it is there
abbrev pub mark_for : Volumes → CallData → Option Bool
mark_for volumes (mount volume bind) = option_map (λ serial. volumes.read_only volume) (volumes.serial volume)
mark_for volumes _ = None

-- the call looks at no track: it is no command, or one that the checks refuse, or no search, read or write
abbrev pub NeedsNoTrack : HostState → CallData → Type 0
NeedsNoTrack host (ask code argument chained) = (c : Command) → admitted_command (with_open_chain host) code argument ≡ Ok c → is_data c ≡ false
NeedsNoTrack host _ = Unit {0}

-- a mount of a volume that is read-only or not, where it is there
abbrev pub mounted_by : HostState → ℕ → Bool → Option Bool → ReplyData × HostState
mounted_by host volume bind (Some read_only) = (mounted, with_volume host volume bind read_only)
mounted_by host volume bind None = (no_volume, host)

-- The reply to a call, and its host then, where no track has records; the mark says whether the volume that the call asks for
-- is read-only, where it is there. The first reason against a mount stands.
unfoldable pub response_to : HostState → Option Bool → CallData → ReplyData × HostState
response_to host mark (mount volume bind) =
    if host.chain_open then (in_chain, host)
    else if is_some host.mounted then (already_mounted, host)
    else mounted_by host volume bind mark
response_to host mark demount =
    if host.chain_open then (in_chain, host)
    else if is_some host.mounted then (demounted, record host { mounted = None })
    else (not_mounted, host)
response_to host mark (break cause) = (break_reply cause, record host { chain_open = false })
response_to host mark (ask code argument chained) = let a = answer_on_tracks (λ head. []) host code argument chained in (a.reply, a.host)

-- the state with a host's response
abbrev pub with_response : State → ℕ → ReplyData × HostState → Replied
with_response s h r = (r.0, with_host s h r.1)

-- the host after a reply that plain volumes don't give: its chain ends, and its sense says why
abbrev pub host_after_check : UnitCheck → HostState → HostState
host_after_check why host = record host { chain_open = false; prior = prior.Nothing; sense = sense_of why }

-- ---- every call

-- the plain machine
unfoldable pub plain : State → ℕ → CallData → Replied
plain s h (ask code argument chained) = reply_and_state s h (answer_on_tracks (tracks_under s.volumes (s.host h)) (s.host h) code argument chained)
plain s h call = with_response s h (response_to (s.host h) (mark_for s.volumes call) call)

-- ---- a session's start

abbrev pub fresh_host : HostState
fresh_host = record { mounted = None; protected = false; chain_open = false; cylinder = 0; head = 0; mask = 0; position = position.Start; passes = 0; prior = prior.Nothing; sense = no_sense }

abbrev pub start_of : Volumes → State
start_of volumes = record { volumes = volumes; host = λ h. fresh_host }

-- these volumes, each track without records
abbrev pub blank_volumes : List VolumeData → Volumes
blank_volumes volumes = record { serial = serial_in volumes; read_only = marked_in volumes; track = λ v c h. [] }

-- the replies of the plain machine to calls of hosts
unfoldable pub replies_of : State → List (ℕ × CallData) → List ReplyData
replies_of s [] = []
replies_of s (call ∷ calls) =
    let replied = plain s call.0 call.1 in
    replied.0 ∷ replies_of replied.1 calls
