use Rattle.std.proofs.Common.{◌≡◌, ℕ, drop}
use Rattle.std.specs.List.{list_any}
use Rattle.fault_queue.specs.declared.queue.Request.{Request}
use Rattle.core_state.specs.Pins.{is_ready_on}
use Rattle.work_events.proofs.choices.is_page_held.Given as goal

abbrev pub invariant-loop-place : goal.invariant-loop-place
invariant-loop-place l =
    list_any (λ (asked : ℕ × Request). is_ready_on (l.volume, l.page) asked.1) (drop l.place l.requests) ≡ list_any (λ (asked : ℕ × Request). is_ready_on (l.volume, l.page) asked.1) l.requests
