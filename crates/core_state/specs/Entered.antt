-- A core after an event.
use Rattle.shown_volumes.specs.Shown.{SameTables, volumes_shown}
use Rattle.std.specs.Prelude.{◌≡◌, ℕ, Bool, true, List, [], ◌∷◌, ◌++◌, Option}
use Rattle.mss_base.specs.Content.{Content, SiteLog, content, Writes}
use Rattle.ckd_plain.specs.declared.host.HostState.{HostState}
use Rattle.ckd_plain.specs.Data.{State}
use Rattle.ckd_plain.specs.History.{EntryData, after, state_after, IsNextEntry, count_of_host}
use Rattle.ckd_plain.specs.Near.{IsNear}
use Rattle.volume_table.specs.Row.{RowValue}
use Rattle.table_pair.specs.declared.copy.SlotsUsed.{SlotsUsed}
use Rattle.shown_volumes.specs.Sound.{IsSound}
use Rattle.shown_volumes.specs.Changing.{IsQuiet, IsQuietIn}
use Rattle.core_state.specs.declared.task.Task.{Task}
use Rattle.core_state.specs.declared.session.Message.{Message}
use Rattle.core_state.specs.StopRule.{is_answered}
use Rattle.core_state.specs.Agrees.{EntryAgrees}
use Rattle.core_state.specs.CoreValue.{CoreValue}
use Rattle.core_state.specs.Pins.{host_at}
use Rattle.volume_table.specs.Listed.{row_in_list}
use Rattle.core_state.specs.IsCore.{opening_of}
use Rattle.core_state.specs.Served.{AreServed}
use Rattle.fault_queue.specs.Requests.{RequestsData}

-- with other slots in use
abbrev pub with_used : {S C : Type 0} → List SlotsUsed → CoreValue S C → CoreValue S C
with_used used v = record v { used = used }

-- the core with an entry at the end of its history
abbrev pub core_with_entry : {S C : Type 0} → CoreValue S C → S → EntryData → ℕ → List HostState
    → RequestsData → List (Option Task) → Option ℕ → CoreValue S C
core_with_entry v site e mark hosts requests tasks stopped =
    record v {
      site = site;
      history = v.history ++ e ∷ [];
      marks = v.marks ++ mark ∷ [];
      hosts = hosts;
      requests = requests;
      tasks = tasks;
      stopped = stopped;
    }

-- the core after an event without an entry
abbrev pub core_after_work : {S C : Type 0} → CoreValue S C → S → List (Option RowValue) → List Message
    → List (Option (ℕ × ℕ)) → List Bool → RequestsData → List (Option Task) → CoreValue S C
core_after_work v site rows console owners moving requests tasks =
    record v {
      site = site;
      rows = rows;
      console = console;
      owners = owners;
      moving = moving;
      requests = requests;
      tasks = tasks;
    }

-- the plain state that a core stands for
abbrev pub plain_of : {S C : Type 0} → SiteLog → CoreValue S C → State
plain_of site v = after (opening_of site v) v.history

-- what an answered entry leaves
pub record Leaves (rows : List (Option RowValue)) (s : State) (e : EntryData)
    (hosts : List HostState) (tasks : List (Option Task)) (old new : SiteLog) : Type 0 where
  pub hosts_ : (state_after s e).host ≡ host_at hosts
  pub shows : volumes_shown (content new) ≡ (state_after s e).volumes
  pub tables : SameTables (content old) (content new)
  pub served : AreServed (content new) (row_in_list rows) tasks
  pub quiet : IsQuiet new

-- a content within an entry's event: sound, near the volumes that the call meets, and what the
-- devices had loose lies outside
abbrev pub StaysNear : ℕ → State → EntryData → SiteLog → Content → Type 0
StaysNear frames s e old c =
    IsSound frames c × IsNear s e.host e.call (volumes_shown c) × IsQuietIn old c

-- an entry that may come next, and what its event wrote
pub record Enters (frames : ℕ) (rows : List (Option RowValue)) (s : State)
    (history : List EntryData) (e : EntryData) (hosts : List HostState) (tasks : List (Option Task))
    (old new : SiteLog) : Type 0 where
  pub may : IsNextEntry s (count_of_host e.host history) e
  pub writes : Writes (StaysNear frames s e old) old new
  pub agrees : EntryAgrees frames (row_in_list rows) s e e.reply
  pub leaves : is_answered e.reply ≡ true → Leaves rows s e hosts tasks old new
