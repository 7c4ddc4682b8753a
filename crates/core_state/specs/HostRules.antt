-- Which rule a host's call meets.
use Rattle.std.specs.Prelude.{ℕ, ◌==◌, nat_lt, nat_le, Bool, true, false, not, ◌&&◌, if◌then◌else◌}
use Rattle.std.specs.Prelude.{List, [], ◌∷◌, length, Option, Some, None, is_some, Result, Ok, Err}
use Rattle.std.specs.Option.{option_map, option_and_then, unwrap_or}
use Rattle.channel_commands.specs.declared.command.Command.{Command}
use Rattle.channel_commands.specs.Codes.{is_write}
use Rattle.channel_commands.specs.Data.{CallData, mount, command as ask, is_command}
use Rattle.ckd_plain.specs.declared.host.HostState.{HostState}
use Rattle.ckd_plain.specs.declared.unit_check.UnitCheck.{UnitCheck}
use Rattle.ckd_plain.specs.Checks.{admitted_command}
use Rattle.ckd_plain.specs.Effects.{is_data}
use Rattle.ckd_plain.specs.Plain.{with_open_chain}
use Rattle.mss_base.specs.Firsts.{where_so, ◌or◌}
use Rattle.fault_queue.specs.declared.queue.Request.{Request}
use Rattle.fault_queue.specs.declared.queue.RequestState.{RequestState}
use Rattle.fault_queue.specs.declared.queue.RequestState.TheVariants as request
use Rattle.fault_queue.specs.Requests.{request_of}
use Rattle.core_state.specs.declared.session.TheConstants.{ENTRY_LIMIT}
use Rattle.core_state.specs.declared.task.Task.{Task}
use Rattle.core_state.specs.declared.rule.HostRule.{HostRule}
use Rattle.core_state.specs.declared.rule.HostRule.TheVariants.{IsStopped, IsFull, IsBusy, IsMoving}
use Rattle.core_state.specs.declared.rule.HostRule.TheVariants.{IsHeld, Responds, HasFailed}
use Rattle.core_state.specs.declared.rule.HostRule.TheVariants.{HasNoSpace, Faults, Marks, Runs}
use Rattle.core_state.specs.CoreValue.{CoreValue}
use Rattle.core_state.specs.Pins.{host_at, volume_under, page_of, state_in, are_all_bound}
use Rattle.core_state.specs.Pins.{owner_of}
use Rattle.volume_table.specs.Listed.{row_in_list}
use Rattle.shown_volumes.specs.Sound.{frame_in}

-- ---- the call

abbrev pub if_data : Result Command UnitCheck → Option Command
if_data (Ok command) = where_so (is_data command) command
if_data (Err check) = None

-- the search, read or write that a call is, where it passes the checks
abbrev pub data_command : HostState → CallData → Option Command
data_command host (ask code argument chained) = if_data (admitted_command (with_open_chain host) code argument)
data_command host _ = None

-- a call is for a request where it is a search, read or write on the request's cylinder
abbrev pub is_for : HostState → CallData → Request → Bool
is_for host call r = is_some (data_command host call) && (host.cylinder == r.cylinder)

-- the host's request, where the call is for it
abbrev pub request_for : {S C : Type 0} → CoreValue S C → ℕ → CallData → Option Request
request_for core h call =
    option_and_then (λ r. where_so (is_for (host_at core.hosts h) call r) r)
    (request_of core.requests h)

abbrev pub is_moving_request : RequestState → Bool
is_moving_request request.Moving = true
is_moving_request _ = false

abbrev pub fault_of : RequestState → Option ℕ
fault_of (request.Failed fault) = Some fault
fault_of _ = None

-- ---- where a host stands: its volume and cylinder, the cylinder's state, the frame of its page

abbrev pub volume_of : HostState → ℕ
volume_of host = unwrap_or (volume_under host) 0

abbrev pub state_under : {S C : Type 0} → CoreValue S C → HostState → ℕ
state_under core host = state_in core.rows (volume_of host) host.cylinder

abbrev pub frame_under : {S C : Type 0} → CoreValue S C → HostState → Option ℕ
frame_under core host = frame_in (row_in_list core.rows) (volume_of host) (page_of host.cylinder)

-- ---- the rules, in order

-- the core is stopped
abbrev pub stopped_rule : {S C : Type 0} → CoreValue S C → Option HostRule
stopped_rule core = option_map IsStopped core.stopped

-- there is no room for an entry
abbrev pub full_rule : {S C : Type 0} → CoreValue S C → Option HostRule
full_rule core = where_so (nat_le ENTRY_LIMIT (length core.history)) IsFull

-- a command on a mounted volume that another host owns
abbrev pub busy_rule : {S C : Type 0} → CoreValue S C → ℕ → CallData → Option HostRule
busy_rule core h call =
    option_and_then (λ owner. where_so (is_command call && not (owner == h)) (IsBusy owner))
    (option_and_then (owner_of core) (volume_under (host_at core.hosts h)))

-- the host has a request that a recorder serves, and the call isn't for it
abbrev pub moving_rule : {S C : Type 0} → CoreValue S C → ℕ → CallData → Option HostRule
moving_rule core h call =
    option_and_then (λ r.
    where_so (is_moving_request r.state && not (is_for (host_at core.hosts h) call r))
    (IsMoving r.cylinder))
    (request_of core.requests h)

-- the frame that a task takes from a volume, and that of the lowest recorder with such a task
abbrev pub taken_by : ℕ → Task → Option ℕ
taken_by volume task = option_and_then (λ page. where_so (page.0 == volume) task.frame) task.victim

abbrev pub taken_from : ℕ → List (Option Task) → Option ℕ
taken_from volume [] = None
taken_from volume (task ∷ tasks) = option_and_then (taken_by volume) task or taken_from volume tasks

-- the volume that a call would mount with bind
abbrev pub would_bind : {S C : Type 0} → CoreValue S C → HostState → CallData → Option ℕ
would_bind core host (mount volume true) =
    where_so
    (not host.chain_open && not (is_some host.mounted) && is_some (row_in_list core.rows volume))
    volume
would_bind core host _ = None

-- a mount with bind that would be accepted while a task takes a frame from the volume
abbrev pub held_rule : {S C : Type 0} → CoreValue S C → ℕ → CallData → Option HostRule
held_rule core h call =
    option_map IsHeld (option_and_then (λ volume. taken_from volume core.tasks)
    (would_bind core (host_at core.hosts h) call))

-- a search, read or write whose staging failed
abbrev pub failed_rule : {S C : Type 0} → CoreValue S C → ℕ → CallData → Option HostRule
failed_rule core h call =
    option_map HasFailed (option_and_then (λ r. fault_of r.state) (request_for core h call))

-- one whose cylinder isn't staged; there is no space where its page has no frame and each frame is
-- bound
abbrev pub fault_rule : {S C : Type 0} → CoreValue S C → HostState → Command → Option HostRule
fault_rule core host c =
    where_so (nat_lt (state_under core host) 2)
    (if not (is_some (frame_under core host)) && are_all_bound core then HasNoSpace
    else Faults (volume_of host) host.cylinder)

-- a write whose cylinder isn't changed yet
abbrev pub mark_rule : {S C : Type 0} → CoreValue S C → HostState → Command → Option HostRule
mark_rule core host c =
    where_so (is_write c && nat_lt (state_under core host) 4) (Marks (volume_of host) host.cylinder)

-- any other
abbrev pub run_rule : {S C : Type 0} → CoreValue S C → HostState → Command → Option HostRule
run_rule core host c = option_map (Runs c (volume_of host)) (frame_under core host)

abbrev pub data_rule : {S C : Type 0} → CoreValue S C → HostState → Command → Option HostRule
data_rule core host c = fault_rule core host c or mark_rule core host c or run_rule core host c

-- the first rule that applies; a call that meets none of them is replied without a look at the
-- tracks
unfoldable pub host_rule : {S C : Type 0} → CoreValue S C → ℕ → CallData → HostRule
host_rule core h call =
    let host = host_at core.hosts h in
    unwrap_or (
    stopped_rule core
    or full_rule core
    or busy_rule core h call
    or moving_rule core h call
    or held_rule core h call
    or failed_rule core h call
    or option_and_then (data_rule core host) (data_command host call)
    ) Responds
