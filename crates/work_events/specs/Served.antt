-- A recorder that works on a task.
use Rattle.std.specs.Prelude.{ℕ}
use Rattle.fault_queue.specs.declared.queue.Request.{Request}
use Rattle.core_state.specs.declared.task.Task.{Task}
use Rattle.core_state.specs.CoreValue.{CoreValue}
use Rattle.core_state.specs.Working.{Serves}

-- it has a task, whose host has a request
abbrev pub IsServing : {S C : Type 0} → CoreValue S C → ℕ → Type 0
IsServing v recorder = (task : Task) × (q : Request) × Serves v recorder task q
