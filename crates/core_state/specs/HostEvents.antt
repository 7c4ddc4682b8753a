-- What a host's event answers, and the core that it leaves.
use Rattle.std.specs.Prelude.{◌≡◌, ℕ, Bool, if◌then◌else◌, List, length, Option, Some, None}
use Rattle.std.specs.Prelude.{is_some}
use Rattle.std.specs.Option.{ForSome, option_map}
use Rattle.channel_commands.specs.declared.command.Command.{Command}
use Rattle.channel_commands.specs.Data.{CallData, mount, command as ask, ReplyData, equipment_check}
use Rattle.channel_commands.specs.Data.{no_space}
use Rattle.ckd_plain.specs.declared.host.HostState.{HostState}
use Rattle.ckd_plain.specs.declared.unit_check.UnitCheck.{UnitCheck}
use Rattle.ckd_plain.specs.declared.unit_check.UnitCheck.TheVariants as check
use Rattle.ckd_plain.specs.Plain.{host_after_check, response_to}
use Rattle.mss_base.specs.Places.{frame_block}
use Rattle.volume_table.specs.Row.{RowValue}
use Rattle.volume_table.specs.Changes.{effect}
use Rattle.volume_table.specs.Listed.{row_in_list}
use Rattle.volume_table.specs.declared.changes.Change.TheVariants as change
use Rattle.table_pair.specs.Slots.{used_after, used_at}
use Rattle.fault_queue.specs.declared.queue.RequestState.TheVariants as request
use Rattle.core_state.specs.declared.session.Event.TheVariants.{Host}
use Rattle.core_state.specs.declared.rule.Waiting.{Waiting}
use Rattle.core_state.specs.declared.rule.Waiting.TheVariants.{Busy, Fault, Held}
use Rattle.core_state.specs.declared.rule.HostRule.{HostRule}
use Rattle.core_state.specs.declared.rule.HostRule.TheVariants.{IsStopped, IsFull, IsBusy, IsMoving}
use Rattle.core_state.specs.declared.rule.HostRule.TheVariants.{IsHeld, Responds, HasFailed}
use Rattle.core_state.specs.declared.rule.HostRule.TheVariants.{HasNoSpace, Faults, Marks, Runs}
use Rattle.core_state.specs.CoreValue.{CoreData}
use Rattle.core_state.specs.Devices.{StillHold, FailRead, HaveRow, FailRow, Run, RunOn, FailOn}
use Rattle.core_state.specs.HostRules.{request_for, host_rule}
use Rattle.core_state.specs.Pins.{host_at, page_of}
use Rattle.core_state.specs.Steps.{with_event, with_row, with_change, after_reply, after_stop}
use Rattle.core_state.specs.Steps.{ends_request, going_on, with_request, touching, after_use}

-- what a host is answered
pub data HostTold : Type 0 where
  replied : ℕ → ReplyData → HostTold
  marked : HostTold
  waits : Waiting → HostTold
  halts : ℕ → HostTold
  at_limit : HostTold
  no_memory : HostTold

-- ---- what a host is told without its tracks

-- whether the volume that a call asks for is read-only, where it is there
abbrev pub mark_in : List (Option RowValue) → CallData → Option Bool
mark_in rows (mount volume bind) = option_map (λ row. row.read_only) (row_in_list rows volume)
mark_in rows _ = None

-- the reply, and the host then
abbrev pub response : CoreData → ℕ → CallData → ReplyData × HostState
response core h call = response_to (host_at core.hosts h) (mark_in core.rows call) call

-- a reply that plain volumes don't give, and the host then
abbrev pub exception : UnitCheck → ReplyData → CoreData → ℕ → ReplyData × HostState
exception why reply core h = (reply, host_after_check why (host_at core.hosts h))

abbrev pub equipment : CoreData → ℕ → ReplyData × HostState
equipment = exception check.EquipmentCheck equipment_check

-- ---- the outcomes of the rules

-- nothing changed
abbrev pub IsSame : Type 0 → CoreData → CoreData → Type 0
IsSame tells core core' =
    StillHold tells core.site core'.site × (core' ≡ record core { site = core'.site })

-- what a host is to be told: the reply, the fault that its entry keeps, and the host then
pub record Given : Type 0 where
  pub reply : ReplyData
  pub fault : Option ℕ
  pub host : HostState

abbrev pub given_by : Option ℕ → ReplyData × HostState → Given
given_by fault answer = record { reply = answer.0; fault = fault; host = answer.1 }

-- the host is replied this, and nothing is written
abbrev pub Replies : Type 0 → CoreData → ℕ → CallData → Given → HostTold → CoreData → Type 0
Replies tells core h call given told core' =
    StillHold tells core.site core'.site
    × (told ≡ replied (length core.history) given.reply)
    × (core' ≡ after_reply core'.site h call given.fault (given.reply, given.host) core)

-- the host waits, and its request ends where the call isn't for it
abbrev pub Holds : Type 0 → CoreData → ℕ → CallData → CoreData → Type 0
Holds tells core h call core' =
    StillHold tells core.site core'.site
    × (core' ≡ record (if ends_request core h call then with_event (Host h) (going_on core h call)
    else core) { site = core'.site })

-- the cylinder is asked for, unless it is already
abbrev pub Asks : Type 0 → CoreData → ℕ → CallData → ℕ → ℕ → CoreData → Type 0
Asks tells core h call volume cylinder core' =
    StillHold tells core.site core'.site
    × (core' ≡ record (if is_some (request_for core h call) then core
    else with_event (Host h) (with_request h volume cylinder request.Queued (going_on core h call)))
    { site = core'.site })

-- a cylinder of a volume
pub record VolumeCylinder : Type 0 where
  pub volume : ℕ
  pub cylinder : ℕ

-- the cylinder becomes changed, for the host to write it then; where its row isn't written, the
-- list of rows has the new one all the same
abbrev pub MarksIt : Type 0 → CoreData → ℕ → CallData → VolumeCylinder → HostTold → CoreData
    → Type 0
MarksIt tells core h call at marked core' =
    ForSome (row_in_list core.rows at.volume)
    (λ r. HaveRow tells at.volume (effect (change.Changed at.cylinder) r)
    (used_after (used_at core.used at.volume)) core.site core'.site)
    × (core' ≡ with_event (Host h) (touching (at.volume, page_of at.cylinder)
    (with_request h at.volume at.cylinder request.Ready
    (with_change at.volume (change.Changed at.cylinder)
    (record (going_on core h call) { site = core'.site })))))
MarksIt tells core h call at (halts fault) core' =
    ForSome (row_in_list core.rows at.volume)
    (λ r. FailRow tells at.volume (effect (change.Changed at.cylinder) r) fault
    core.site core'.site)
    × (core' ≡ after_stop core'.site h call
    (with_row at.volume (change.Changed at.cylinder) core))
MarksIt tells core h call at _ core' = ⊥

-- a command on the host's cylinder, which stands in a frame
abbrev pub run_of : CoreData → ℕ → ℕ → Command → List ℕ → Bool → Run
run_of core h frame c argument chained = record {
  host = host_at core.hosts h;
  at = frame_block frame (host_at core.hosts h).cylinder 0;
  command = c;
  argument = argument;
  chained = chained;
}

abbrev pub page_under : CoreData → ℕ → ℕ → ℕ × ℕ
page_under core h volume = (volume, page_of (host_at core.hosts h).cylinder)

-- a command, and the frame that it uses, in which a page of this volume stands
pub record FrameUse : Type 0 where
  pub command : Command
  pub volume : ℕ
  pub frame : ℕ

-- the command runs on the frame's blocks
abbrev pub RunsIt : Type 0 → CoreData → ℕ → CallData → FrameUse → HostTold → CoreData → Type 0
RunsIt tells core h call at (replied index equipment_check) core' =
    FailRead tells core.site core'.site
    × (index ≡ length core.history)
    × (core' ≡ after_reply core'.site h call (Some core'.site.faults) (equipment core h) core)
RunsIt tells core h (ask code argument chained) at (replied index reply) core' =
    (host : HostState)
    × RunOn tells (run_of core h at.frame at.command argument chained) core.site core'.site
    (reply, host)
    × (index ≡ length core.history)
    × (core' ≡ after_reply core'.site h (ask code argument chained) None (reply, host)
    (after_use at.command (page_under core h at.volume) at.frame core))
RunsIt tells core h (ask code argument chained) at (halts fault) core' =
    FailOn tells (run_of core h at.frame at.command argument chained) fault
    core.site core'.site
    × (core' ≡ after_stop core'.site h (ask code argument chained) core)
RunsIt tells core h call at _ core' = ⊥

-- ---- the rules

-- what an event that meets a rule answers, and the core then; wherever it takes memory, it may be
-- refused
abbrev pub HostDoes : Type 0 → CoreData → ℕ → CallData → HostRule → HostTold → CoreData → Type 0
HostDoes tells core h call (IsStopped fault) told core' =
    (told ≡ halts fault) × IsSame tells core core'
HostDoes tells core h call IsFull told core' = (told ≡ at_limit) × IsSame tells core core'
HostDoes tells core h call rule no_memory core' = IsSame tells core core'
HostDoes tells core h call (IsBusy owner) told core' =
    (told ≡ waits (Busy owner)) × IsSame tells core core'
HostDoes tells core h call (IsMoving cylinder) told core' =
    (told ≡ waits (Fault cylinder)) × IsSame tells core core'
HostDoes tells core h call (IsHeld frame) told core' =
    (told ≡ waits (Held frame)) × Holds tells core h call core'
HostDoes tells core h call Responds told core' =
    Replies tells core h call (given_by None (response core h call)) told core'
HostDoes tells core h call (HasFailed fault) told core' =
    Replies tells core h call (given_by (Some fault) (equipment core h)) told core'
HostDoes tells core h call HasNoSpace told core' =
    Replies tells core h call (given_by None (exception check.NoSpace no_space core h)) told core'
HostDoes tells core h call (Faults volume cylinder) told core' =
    (told ≡ waits (Fault cylinder)) × Asks tells core h call volume cylinder core'
HostDoes tells core h call (Marks volume cylinder) told core' =
    MarksIt tells core h call (record { volume = volume; cylinder = cylinder }) told core'
HostDoes tells core h call (Runs c volume frame) told core' =
    RunsIt tells core h call (record { command = c; volume = volume; frame = frame }) told core'

-- the first rule that applies gives this answer and this core
abbrev pub HostEvent : Type 0 → CoreData → ℕ → CallData → HostTold → CoreData → Type 0
HostEvent tells core h call told core' =
    HostDoes tells core h call (host_rule core h call) told core'
