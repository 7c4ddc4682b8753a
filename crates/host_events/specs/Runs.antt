-- What comes of a command that is run for a host.
use Rattle.std.specs.Prelude.{◌≡◌, ◌≤◌, ℕ, ◌/◌, Bool, true, false, List, [], Some, Result, Ok, Err}
use Rattle.std.specs.Prelude.{if◌then◌else◌}
use Rattle.mss_base.specs.declared.place.BlockPlace.{BlockPlace}
use Rattle.channel_commands.specs.Codes.{is_write}
use Rattle.channel_commands.specs.Data.{CallData, command as ask, is_command, ReplyData, done}
use Rattle.channel_commands.specs.Views.{reply_of}
use Rattle.channel_commands.specs.declared.call.Reply.{Reply}
use Rattle.channel_commands.specs.declared.command.Command.{Command}
use Rattle.ckd_plain.specs.declared.host.HostState.{HostState}
use Rattle.ckd_plain.specs.Checks.{Passes}
use Rattle.ckd_plain.specs.Effects.{is_data}
use Rattle.ckd_plain.specs.Plain.{with_open_chain}
use Rattle.volume_table.specs.Row.{RowValue, frame_of, state_of}
use Rattle.track_engine.specs.declared.place.EngineFault.{EngineFault}
use Rattle.track_engine.specs.declared.place.EngineFault.TheVariants.{ReadFailed, WriteFailed}
use Rattle.track_engine.specs.declared.place.EngineFault.TheVariants.{Memory}
use Rattle.core_state.specs.CoreValue.{DevicesSeen}
use Rattle.core_state.specs.Devices.{StillHold, FailRead, Run, RunOn, FailOn}

-- the host's cylinder is staged in this frame, by the row of its volume
pub record IsStagedIn (row : RowValue) (frame : ℕ) (host : HostState) : Type 0 where
  pub frame_ : frame_of row (host.cylinder / 8) ≡ Some frame
  pub staged : 2 ≤ state_of row host.cylinder

-- the bytes that go with a command, and whether a further one is chained behind it
abbrev pub argument_of : CallData → List ℕ
argument_of (ask code argument chained) = argument
argument_of _ = []

abbrev pub is_chained : CallData → Bool
is_chained (ask code argument chained) = chained
is_chained _ = false

-- the call is a command, and this one is a search, a read or a write that passes the checks for the host
pub record MayRun (call : CallData) (c : Command) (host : HostState) : Type 0 where
  pub asks : is_command call ≡ true
  pub passes : Passes (with_open_chain host) c (argument_of call)
  pub data_ : is_data c ≡ true

-- a command of a call, which this host makes on the cylinder that stands from this block on
abbrev pub run_by : HostState → BlockPlace → Command → CallData → Run
run_by host at c call = record {
  host = host;
  at = at;
  command = c;
  argument = argument_of call;
  chained = is_chained call;
}

-- a write's reply has no bytes
abbrev pub bare_write : Command → ReplyData → ReplyData
bare_write c (done status bytes) = done status (if is_write c then [] else bytes)
bare_write c reply = reply

-- a reply with its copy, or why there is none: a read failed, or a write of the devices, or memory
-- was refused
abbrev pub Comes : Type 0 → Run → DevicesSeen → DevicesSeen → HostState
    → Result (Reply × Reply) EngineFault → Type 0
Comes tells r old new left (Ok replies) =
    RunOn tells r old new (reply_of replies.0, left) × (reply_of replies.1 ≡ reply_of replies.0)
Comes tells r old new left (Err (ReadFailed fault)) = FailRead tells old new × (fault ≡ new.faults)
Comes tells r old new left (Err (WriteFailed fault)) = FailOn tells r fault old new
Comes tells r old new left (Err Memory) = StillHold tells old new
