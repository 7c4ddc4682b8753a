-- What the end of a transfer leaves of its task.
use Rattle.std.specs.Prelude.{ℕ, false, List, Option, Some, None, slice_set}
use Rattle.transfers.specs.declared.transfer.TransferKind.{TransferKind}
use Rattle.transfers.specs.declared.transfer.TransferKind.TheVariants.{Destage}
use Rattle.fault_queue.specs.Requests.{RequestsData, with_state}
use Rattle.fault_queue.specs.declared.queue.RequestState.TheVariants.{Ready}
use Rattle.staging_adapter.specs.Frames.{FramesData, with_moving}
use Rattle.core_state.specs.declared.task.Task.{Task}

-- where tasks stand, and what they hold
pub record TaskParts : Type 0 where
  pub frames : FramesData
  pub requests : RequestsData
  pub tasks : List (Option Task)

-- behind a victim's cylinder the task goes on without its transfer; behind the asked one it ends, and
-- its request is ready
abbrev pub left_by : TransferKind → ℕ → Task → TaskParts → TaskParts
left_by Destage recorder task parts =
    record parts { tasks = slice_set parts.tasks recorder (Some (record task { transfer = None })) }
left_by _ recorder task parts = record {
  frames = with_moving task.frame false parts.frames;
  requests = with_state task.host Ready parts.requests;
  tasks = slice_set parts.tasks recorder None;
}
