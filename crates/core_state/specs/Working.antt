-- What the rules of a recorder's work say of the core.
use Rattle.std.specs.Prelude.{length, ◌≡◌, ◌≢◌, ◌⊎◌, ◌<◌, ℕ, ◌/◌, false, Some, None}
use Rattle.volume_table.specs.Row.{RowValue, IsRow, frame_of, state_of}
use Rattle.volume_table.specs.Changes.{with_frame}
use Rattle.fault_queue.specs.declared.queue.Request.{Request}
use Rattle.core_state.specs.declared.task.Task.{Task}
use Rattle.transfers.specs.declared.transfer.Transfer.{Transfer}
use Rattle.transfers.specs.declared.transfer.TransferKind.TheVariants.{StageBlank, StageCartridge}
use Rattle.transfers.specs.declared.transfer.TransferKind.TheVariants.{Destage}
use Rattle.core_state.specs.CoreValue.{CoreValue}
use Rattle.fault_queue.specs.declared.queue.RequestState.TheVariants.{Queued, Ready}
use Rattle.core_state.specs.Pins.{task_at, moves_at}
use Rattle.volume_table.specs.Listed.{row_in_list}
use Rattle.fault_queue.specs.Requests.{request_of}
use Rattle.core_state.specs.Tasks.{IsTransfer, HasFrame, IsUnbound}

-- a recorder's task, and its host's request
pub record Serves {S C : Type 0} (v : CoreValue S C) (recorder : ℕ) (task : Task) (q : Request)
    : Type 0 where
  pub at : task_at v.tasks recorder ≡ Some task
  pub asked : request_of v.requests task.host ≡ Some q

-- a transfer that the task has, or begins, with a track to copy
pub record MayCopy {S C : Type 0} (v : CoreValue S C) (task : Task) (q : Request) (t : Transfer)
    : Type 0 where
  pub is : IsTransfer (row_in_list v.rows) task.frame task.victim q t
  pub begun : (task.transfer ≡ Some t) ⊎ (t.next ≡ 0)
  pub more : t.next < 19

-- all tracks of a cylinder of the victim's page are copied, and the page wasn't written
pub record MayEndDestage {S C : Type 0} (v : CoreValue S C) (task : Task) (t : Transfer)
    : Type 0 where
  pub copies : task.transfer ≡ Some t
  pub kind : t.kind ≡ Destage
  pub all_ : t.next ≡ 19
  pub untouched : task.touched ≡ false

-- all tracks of the cylinder that is asked for are copied
pub record MayEndStage {S C : Type 0} (v : CoreValue S C) (task : Task) (t : Transfer)
    : Type 0 where
  pub copies : task.transfer ≡ Some t
  pub kind : (t.kind ≡ StageBlank) ⊎ (t.kind ≡ StageCartridge)
  pub all_ : t.next ≡ 19

-- the victim's page has no changed cylinder
pub record MayFree {S C : Type 0} (v : CoreValue S C) (task : Task) (volume page : ℕ) : Type 0 where
  pub r : RowValue
  pub there : row_in_list v.rows volume ≡ Some r
  pub takes_ : task.victim ≡ Some (volume, page)
  pub bare : task.transfer ≡ None
  pub unchanged : (y : ℕ) → y / 8 ≡ page → state_of r y ≢ 4
  pub untouched : task.touched ≡ false

-- the page that is asked for has no frame, and the task none to take
pub record MayAssign {S C : Type 0} (v : CoreValue S C) (task : Task) (q : Request) : Type 0 where
  pub r : RowValue
  pub there : row_in_list v.rows q.volume ≡ Some r
  pub none : frame_of r (q.cylinder / 8) ≡ None
  pub free : task.victim ≡ None
  pub bare : task.transfer ≡ None
  pub low : q.cylinder < 404
  pub row : IsRow (with_frame (q.cylinder / 8) task.frame r)

-- a recorder without a task may begin this one, for a queued request
pub record MayPick {S C : Type 0} (v : CoreValue S C) (recorder : ℕ) (task : Task) (q : Request)
    : Type 0 where
  pub fits : recorder < length v.tasks
  pub idle : task_at v.tasks recorder ≡ None
  pub bare : task.transfer ≡ None
  pub rests : moves_at v.moving task.frame ≡ false
  pub known : task.frame < v.config.frames
  pub asked : request_of v.requests task.host ≡ Some q
  pub queued : q.state ≡ Queued
  pub has : HasFrame (row_in_list v.rows) task.frame task.victim q.volume (q.cylinder / 8)
  pub unbound : (victim : ℕ × ℕ) → task.victim ≡ Some victim → IsUnbound v.hosts victim.0
  pub unheld : (h : ℕ) (r : Request) → request_of v.requests h ≡ Some r → r.state ≡ Ready
      → task.victim ≢ Some (r.volume, r.cylinder / 8)
