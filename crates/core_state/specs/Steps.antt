-- Cores with some parts changed: the steps of which an event is made.
use Rattle.std.specs.Prelude.{ℕ, ◌+◌, Bool, true, false, not, ◌&&◌, if◌then◌else◌, List, [], ◌∷◌}
use Rattle.std.specs.Prelude.{◌++◌, slice_set, Option, Some, None, is_some}
use Rattle.channel_commands.specs.Data.{CallData, ReplyData, stopped}
use Rattle.channel_commands.specs.declared.command.Command.{Command}
use Rattle.ckd_plain.specs.declared.host.HostState.{HostState}
use Rattle.ckd_plain.specs.History.{EntryData, count_of_host}
use Rattle.volume_table.specs.Listed.{row_in_list, with_changed}
use Rattle.volume_table.specs.declared.changes.Change.{Change}
use Rattle.table_pair.specs.Slots.{with_used_after}
use Rattle.fault_queue.specs.declared.queue.RequestState.{RequestState}
use Rattle.fault_queue.specs.declared.queue.RequestState.TheVariants as request
use Rattle.fault_queue.specs.Requests.{request_of, with_state, without_request}
use Rattle.victim_choice.specs.Order.{order_after}
use Rattle.accessors.specs.Moves.{moved_from_to}
use Rattle.accessors.specs.Rails.{cell_place, recorder_place}
use Rattle.cartridge_store.specs.declared.store.Place.{Place}
use Rattle.cartridge_store.specs.declared.store.Place.TheVariants.{Cell, Hand, Recorder}
use Rattle.cartridge_store.specs.Places.{home_of, with_place}
use Rattle.core_state.specs.declared.session.Event.{Event}
use Rattle.core_state.specs.declared.session.Event.TheVariants.{Host}
use Rattle.core_state.specs.declared.task.Task.{Task}
use Rattle.core_state.specs.Agrees.{message_of}
use Rattle.core_state.specs.CoreValue.{CoreData, DevicesSeen}
use Rattle.core_state.specs.HostRules.{request_for}
use Rattle.core_state.specs.Pins.{put_host}
use Rattle.core_state.specs.Tasks.{touched_all, tasks_after}

-- ---- what is told

abbrev pub with_event : Event → CoreData → CoreData
with_event event core = record core { events = core.events ++ event ∷ [] }

abbrev pub entry_of : List EntryData → ℕ → CallData → ReplyData → Option ℕ → EntryData
entry_of history h call reply fault = record {
  host = h;
  number = count_of_host h history + 1;
  call = call;
  reply = reply;
  fault = fault;
}

-- with an entry, whose mark is the count of writes
abbrev pub with_entry : ℕ → CallData → ReplyData → Option ℕ → CoreData → CoreData
with_entry h call reply fault core = record core {
  history = core.history ++ entry_of core.history h call reply fault ∷ [];
  marks = core.marks ++ core.site.writes ∷ [];
}

-- with a change of a row
abbrev pub with_row : ℕ → Change → CoreData → CoreData
with_row volume change core = record core { rows = with_changed volume change core.rows }

-- and with its slots, and its message, whose mark is the count of writes
abbrev pub with_change : ℕ → Change → CoreData → CoreData
with_change volume change core =
    record (with_row volume change core) {
      used = with_used_after volume core.used;
      console =
          core.console ++ message_of core.site.writes volume change (row_in_list core.rows) ∷ [];
    }

-- ---- hosts and their requests

-- after a reply: the host is this one, and its request has ended
abbrev pub after_reply : DevicesSeen → ℕ → CallData → Option ℕ → ReplyData × HostState → CoreData
    → CoreData
after_reply site h call fault answer core =
    with_event (Host h) (with_entry h call answer.0 fault (record core {
      site = site;
      hosts = put_host core.hosts h answer.1;
      requests = without_request h core.requests;
    }))

-- after a failed write: the entry is the last; the host, its request, the recency and the tasks are
-- as before
abbrev pub after_stop : DevicesSeen → ℕ → CallData → CoreData → CoreData
after_stop site h call core =
    with_event (Host h) (with_entry h call stopped (Some site.faults)
    (record core { site = site; stopped = Some site.faults }))

-- the host's request, where the call isn't for it, is ended
abbrev pub ends_request : CoreData → ℕ → CallData → Bool
ends_request core h call =
    is_some (request_of core.requests h) && not (is_some (request_for core h call))

abbrev pub going_on : CoreData → ℕ → CallData → CoreData
going_on core h call =
    if ends_request core h call then record core { requests = without_request h core.requests }
    else core

-- with another state of the host's request, which is made where there is none
abbrev pub with_request : ℕ → ℕ → ℕ → RequestState → CoreData → CoreData
with_request h volume cylinder state core =
    record core {
      requests =
          (if is_some (request_of core.requests h) then with_state h state core.requests
          else (core.requests
          ++ (h, record { volume = volume; cylinder = cylinder; state = state }) ∷ []));
    }

abbrev pub with_request_state : ℕ → RequestState → CoreData → CoreData
with_request_state h state core = record core { requests = with_state h state core.requests }

-- ---- pages and frames

-- the tasks that take a page from its frame are touched
abbrev pub touching : ℕ × ℕ → CoreData → CoreData
touching page core = record core { tasks = touched_all page.0 page.1 core.tasks }

abbrev pub most_recent : ℕ → CoreData → CoreData
most_recent frame core = record core { recency = order_after frame core.recency }

-- a command used a page in its frame; only a write touches tasks
abbrev pub after_use : Command → ℕ × ℕ → ℕ → CoreData → CoreData
after_use c page frame core =
    record (most_recent frame core) { tasks = tasks_after c page.0 page.1 core.tasks }

abbrev pub with_moving : ℕ → Bool → CoreData → CoreData
with_moving frame moves core = record core { moving = slice_set core.moving frame moves }

abbrev pub with_owner : ℕ → Option (ℕ × ℕ) → CoreData → CoreData
with_owner frame page core = record core { owners = slice_set core.owners frame page }

-- ---- tasks

abbrev pub with_task : ℕ → Option Task → CoreData → CoreData
with_task recorder task core = record core { tasks = slice_set core.tasks recorder task }

-- a host's request is taken with a frame
abbrev pub with_picked_request : ℕ → ℕ → ℕ → Option (ℕ × ℕ) → CoreData → CoreData
with_picked_request recorder h frame victim core =
    with_task recorder
    (Some (record { host = h; frame = frame; victim = victim; touched = false; transfer = None }))
    (with_moving frame true (with_request_state h request.Moving core))

-- the task ends, with this state of its request
abbrev pub task_ended : ℕ → Task → RequestState → CoreData → CoreData
task_ended recorder task state core =
    with_task recorder None (with_moving task.frame false (with_request_state task.host state core))

-- ---- cartridges

-- where an accessor serves a place; a cartridge stays in no hand
abbrev pub rail_place : Place → ℕ
rail_place (Cell number) = cell_place number
rail_place (Recorder number) = recorder_place number
rail_place (Hand accessor) = 0

-- a cartridge is carried from one place to another
abbrev pub with_carried_cartridge : ℕ → Place → Place → CoreData → CoreData
with_carried_cartridge cartridge from to core = record core {
  store = with_place cartridge to core.store;
  rail = moved_from_to (rail_place from) (rail_place to) core.rail;
}

abbrev pub with_cartridge : ℕ → Option ℕ → CoreData → CoreData
with_cartridge recorder holds core = record core {
  recorders = slice_set core.recorders recorder holds;
}

abbrev pub given_back : ℕ → ℕ → CoreData → CoreData
given_back recorder cartridge core =
    with_cartridge recorder None
    (with_carried_cartridge cartridge (Recorder recorder) (home_of cartridge) core)

abbrev pub with_fetched_cartridge : ℕ → ℕ → CoreData → CoreData
with_fetched_cartridge recorder cartridge core =
    with_cartridge recorder (Some cartridge)
    (with_carried_cartridge cartridge (home_of cartridge) (Recorder recorder) core)
