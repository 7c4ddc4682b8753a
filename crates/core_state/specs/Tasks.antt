-- What a core keeps of the tasks of its recorders, whatever its devices tell.
use Rattle.transfers.specs.Dues.{IsDue}
use Rattle.std.specs.Prelude.{◌≡◌, ◌≢◌, ◌⊎◌, ◌≤◌, ◌<◌, ℕ, ◌/◌, Bool, true, List, map, if◌then◌else◌}
use Rattle.std.specs.Prelude.{Option, Some, None}
use Rattle.std.specs.Option.{ForSome, option_map}
use Rattle.channel_commands.specs.Codes.{is_write}
use Rattle.channel_commands.specs.declared.command.Command.{Command}
use Rattle.ckd_plain.specs.declared.host.HostState.{HostState}
use Rattle.mss_base.specs.Geometry.{cylinder_heads}
use Rattle.volume_table.specs.Row.{RowValue, state_of}
use Rattle.shown_volumes.specs.Shown.{RowsOf}
use Rattle.shown_volumes.specs.Sound.{frame_in}
use Rattle.fault_queue.specs.declared.queue.Request.{Request}
use Rattle.fault_queue.specs.declared.queue.RequestState.TheVariants.{Queued, Moving}
use Rattle.core_state.specs.declared.task.Task.{Task}
use Rattle.transfers.specs.declared.transfer.Transfer.{Transfer}
use Rattle.transfers.specs.declared.transfer.TransferKind.{TransferKind}
use Rattle.transfers.specs.declared.transfer.TransferKind.TheVariants.{Destage}
use Rattle.core_state.specs.Pins.{host_at, task_at, moves_at, is_page, on_page, touch}
use Rattle.fault_queue.specs.Requests.{request_of, RequestsData}

-- a task that takes a page is touched where the page is used
abbrev pub takes : ℕ → ℕ → Option (ℕ × ℕ) → Bool
takes volume page victim = on_page (λ p. is_page p (volume, page)) victim

abbrev pub touched_by : ℕ → ℕ → Option Task → Option Task
touched_by volume page task = option_map (touch (volume, page)) task

-- the tasks once a page was used
abbrev pub touched_all : ℕ → ℕ → List (Option Task) → List (Option Task)
touched_all volume page tasks = map (touched_by volume page) tasks

-- a write touches a task that takes the page
abbrev pub tasks_after : Command → ℕ → ℕ → List (Option Task) → List (Option Task)
tasks_after c volume page tasks = if is_write c then touched_all volume page tasks else tasks

-- no page has a frame
abbrev pub IsNowhere : RowsOf → ℕ → Type 0
IsNowhere rows frame = (volume page : ℕ) → frame_in rows volume page ≢ Some frame

-- where a task's frame is: in the victim's page; else in the page that is asked for, or, until it
-- gets one, nowhere
abbrev pub HasFrame : RowsOf → ℕ → Option (ℕ × ℕ) → ℕ → ℕ → Type 0
HasFrame rows frame (Some victim) volume page =
    (frame_in rows victim.0 victim.1 ≡ Some frame) × (frame_in rows volume page ≡ None)
HasFrame rows frame None volume page =
    (frame_in rows volume page ≡ Some frame)
    ⊎ ((frame_in rows volume page ≡ None) × IsNowhere rows frame)

-- which cylinder a transfer copies: one of the victim's page, or else the one that is asked for
abbrev pub IsChosen : TransferKind → Option (ℕ × ℕ) → Request → ℕ → ℕ → Type 0
IsChosen Destage victim q volume cylinder = victim ≡ Some (volume, cylinder / 8)
IsChosen _ victim q volume cylinder =
    (victim ≡ None) × (volume ≡ q.volume) × (cylinder ≡ q.cylinder)

-- a transfer is due by its volume's row, and with the task's frame
pub record IsTransfer (rows : RowsOf) (frame : ℕ) (victim : Option (ℕ × ℕ)) (q : Request)
    (t : Transfer) : Type 0 where
  pub row : RowValue
  pub there : rows t.volume ≡ Some row
  pub due : IsDue t row
  pub frame_ : t.frame ≡ frame
  pub upto : t.next ≤ cylinder_heads
  pub cylinder_ : IsChosen t.kind victim q t.volume t.cylinder

-- no host has a volume mounted with bind
abbrev pub IsUnbound : List HostState → ℕ → Type 0
IsUnbound hosts volume = (h : ℕ) → (host_at hosts h).mounted ≢ Some (volume, true)

-- a task has a frame that moves, and its host's request, which waits for it
pub record IsTask (frames : ℕ) (rows : RowsOf) (moving : List Bool) (requests : RequestsData)
    (hosts : List HostState) (task : Task) : Type 0 where
  pub low : task.frame < frames
  pub moves : moves_at moving task.frame ≡ true
  pub request : Request
  pub asked : request_of requests task.host ≡ Some request
  pub is_moving_ : request.state ≡ Moving
  pub waits : ForSome (rows request.volume) (λ r. state_of r request.cylinder < 2)
  pub frame_ : HasFrame rows task.frame task.victim request.volume (request.cylinder / 8)
  pub unbound : (victim : ℕ × ℕ) → task.victim ≡ Some victim → IsUnbound hosts victim.0
  pub transfer_ : (t : Transfer) → task.transfer ≡ Some t
      → IsTransfer rows task.frame task.victim request t

-- a request that is queued is for a cylinder that isn't staged
abbrev pub AreWaiting : RowsOf → RequestsData → Type 0
AreWaiting rows requests =
    (h : ℕ) (q : Request) → request_of requests h ≡ Some q → q.state ≡ Queued
    → ForSome (rows q.volume) (λ r. state_of r q.cylinder < 2)

-- some recorder's task has this
abbrev pub HasOne : List (Option Task) → (Task → ℕ) → ℕ → Type 0
HasOne tasks part n =
    (recorder : ℕ) × (task : Task) × (task_at tasks recorder ≡ Some task) × (part task ≡ n)

-- tasks of different recorders have different frames and hosts; those frames move and no other,
-- those hosts have moving requests and no other
pub record AreTasks (frames : ℕ) (rows : RowsOf) (moving : List Bool) (requests : RequestsData)
    (hosts : List HostState) (tasks : List (Option Task)) : Type 0 where
  pub each : (recorder : ℕ) (task : Task) → task_at tasks recorder ≡ Some task
      → IsTask frames rows moving requests hosts task
  pub frames_once : (n m : ℕ) (a b : Task) → task_at tasks n ≡ Some a → task_at tasks m ≡ Some b
      → a.frame ≡ b.frame → n ≡ m
  pub hosts_once : (n m : ℕ) (a b : Task) → task_at tasks n ≡ Some a → task_at tasks m ≡ Some b
      → a.host ≡ b.host → n ≡ m
  pub moved : (frame : ℕ) → moves_at moving frame ≡ true → HasOne tasks (λ t. t.frame) frame
  pub awaited : (h : ℕ) (q : Request) → request_of requests h ≡ Some q → q.state ≡ Moving
      → HasOne tasks (λ t. t.host) h
