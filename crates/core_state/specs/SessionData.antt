-- What a clause sees of a session.
use Rattle.std.specs.Prelude.{ℕ, Bool, List, [], ◌∷◌, ◌++◌, Option, Some, None}
use Rattle.ckd_plain.specs.History.{EntryData}
use Rattle.core_state.specs.declared.session.Message.{Message}
use Rattle.core_state.specs.declared.session.Event.{Event}
use Rattle.core_state.specs.declared.task.Task.{Task}
use Rattle.ckd_plain.specs.declared.host.HostState.{HostState}
use Rattle.volume_table.specs.Row.{RowValue}
use Rattle.core_state.specs.CoreValue.{CoreValue}
use Rattle.fault_queue.specs.Requests.{RequestsData}

pub record SessionData : Type 0 where
  pub history : List EntryData
  pub marks : List ℕ
  pub console : List Message
  pub events : List Event
  pub first_write : ℕ
  pub first_faults : ℕ
  pub stopped : Option ℕ

-- the session of a core, and a core of its parts
abbrev pub data_of : {S C : Type 0} → CoreValue S C → SessionData
data_of v = record {
  history = v.history;
  marks = v.marks;
  console = v.console;
  events = v.events;
  first_write = v.first_write;
  first_faults = v.first_faults;
  stopped = v.stopped;
}

-- one that begins with these changes of rows
abbrev pub new_session : List Message → ℕ → ℕ → SessionData
new_session console first_write first_faults = record {
  history = [];
  marks = [];
  console = console;
  events = [];
  first_write = first_write;
  first_faults = first_faults;
  stopped = None;
}

-- ---- with one thing more at its end

abbrev pub with_last_entry : EntryData → ℕ → SessionData → SessionData
with_last_entry entry mark d =
    record d { history = d.history ++ entry ∷ []; marks = d.marks ++ mark ∷ [] }

abbrev pub with_last_message : Message → SessionData → SessionData
with_last_message message d = record d { console = d.console ++ message ∷ [] }

abbrev pub with_last_event : Event → SessionData → SessionData
with_last_event event d = record d { events = d.events ++ event ∷ [] }

abbrev pub with_stop : ℕ → SessionData → SessionData
with_stop fault d = record d { stopped = Some fault }

-- with other parts, and what is beside them as in v
abbrev pub of_parts : {S C : Type 0} → CoreValue S C → S → List (Option RowValue)
    → List (Option (ℕ × ℕ)) → List Bool → RequestsData → List (Option Task) → List HostState
    → SessionData → CoreValue S C
of_parts v site rows owners moving requests tasks hosts d = record v {
  site = site;
  rows = rows;
  owners = owners;
  moving = moving;
  requests = requests;
  tasks = tasks;
  hosts = hosts;
  history = d.history;
  marks = d.marks;
  console = d.console;
  events = d.events;
  first_write = d.first_write;
  first_faults = d.first_faults;
  stopped = d.stopped;
}
