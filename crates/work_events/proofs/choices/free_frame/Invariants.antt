use Rattle.std.proofs.Common.{◌≡◌, None}
use Rattle.mss_base.specs.Firsts.{first_below, where_so}
use Rattle.core_state.specs.Pins.{is_free}
use Rattle.work_events.proofs.choices.free_frame.Given as goal

abbrev pub invariant-loop-number : goal.invariant-loop-number
invariant-loop-number g l = first_below l.number (λ frame. where_so (is_free l.core frame) frame) ≡ None
