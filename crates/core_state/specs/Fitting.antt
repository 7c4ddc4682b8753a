-- What a core keeps of the volumes that its hosts have mounted, and of requests that are Ready.
use Rattle.std.specs.Prelude.{◌≡◌, ◌≤◌, ℕ, ◌/◌, true, List, length, Option, Some, IsSome}
use Rattle.std.specs.Option.{ForSome}
use Rattle.ckd_plain.specs.declared.host.HostState.{HostState}
use Rattle.volume_table.specs.Row.{RowValue, state_of}
use Rattle.shown_volumes.specs.Shown.{RowsOf}
use Rattle.fault_queue.specs.declared.queue.Request.{Request}
use Rattle.fault_queue.specs.declared.queue.RequestState.TheVariants.{Ready}
use Rattle.fault_queue.specs.Requests.{RequestsData, request_of}
use Rattle.core_state.specs.declared.task.Task.{Task}
use Rattle.core_state.specs.Pins.{host_at, task_at, is_on}
use Rattle.volume_table.specs.Listed.{row_in_list}

-- a Ready request's cylinder is staged, and a task that takes its page is touched
pub record IsReadyOn (rows : RowsOf) (tasks : List (Option Task)) (q : Request) : Type 0 where
  pub staged : ForSome (rows q.volume) (λ r. 2 ≤ state_of r q.cylinder)
  pub touched_ : (n : ℕ) (task : Task) → task_at tasks n ≡ Some task
      → task.victim ≡ Some (q.volume, q.cylinder / 8) → task.touched ≡ true

-- each recorder has a place for a task; a mounted volume has a row
pub record IsFit (recorders : ℕ) (rows : List (Option RowValue)) (requests : RequestsData)
    (hosts : List HostState) (tasks : List (Option Task)) : Type 0 where
  pub long : length tasks ≡ recorders
  pub mounted_ : (h volume : ℕ) → is_on volume (host_at hosts h).mounted ≡ true
      → IsSome (row_in_list rows volume)
  pub ready : (h : ℕ) (q : Request) → request_of requests h ≡ Some q → q.state ≡ Ready
      → IsReadyOn (row_in_list rows) tasks q
