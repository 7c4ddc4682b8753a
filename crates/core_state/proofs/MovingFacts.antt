-- A request that a task serves isn't met by the rules that end requests.
use Rattle.std.proofs.Common.{◌≡◌, ℕ, ◌<◌, Some, sym, ◌∙◌, ap, subst}
use Rattle.std.specs.Option.{ForSome}
use Rattle.volume_table.specs.Row.{state_of}
use Rattle.fault_queue.specs.declared.queue.Request.{Request}
use Rattle.fault_queue.specs.declared.queue.RequestState.TheVariants.{Moving}
use Rattle.core_state.specs.declared.task.Task.{Task}
use Rattle.core_state.specs.CoreValue.{CoreValue}
use Rattle.volume_table.specs.Listed.{row_in_list}
use Rattle.fault_queue.specs.Requests.{request_of}
use Rattle.core_state.specs.Tasks.{IsTask}
use Rattle.core_state.specs.IsCore.{IsCore}
use Rattle.core_state.proofs.RuleWalks.{some_is}

module _ (S : Type 0) {C : Type 0} (v : CoreValue S C) (core : IsCore v) (h : ℕ) (q : Request) (asked : request_of v.requests h ≡ Some q) (moves : q.state ≡ Moving) where
  abbrev task : Task
  task = (core.tasks_.awaited h q asked moves).1

  its : IsTask v.config.frames (row_in_list v.rows) v.moving v.requests v.hosts task
  its = let one = core.tasks_.awaited h q asked moves in core.tasks_.each one.0 one.1 one.2

  same : its.request ≡ q
  same = let one = core.tasks_.awaited h q asked moves in some_is its.request q (sym its.asked ∙ ap (request_of v.requests) one.3 ∙ asked)

  -- its cylinder isn't staged, so no command on it runs or marks
  pub moving_unstaged : ForSome (row_in_list v.rows q.volume) (λ r. state_of r q.cylinder < 2)
  moving_unstaged = subst (λ (z : Request). ForSome (row_in_list v.rows z.volume) (λ r. state_of r z.cylinder < 2)) same its.waits
