use Rattle.std.proofs.Common.{◌≡◌, ◌≤◌, ◌*◌, length}
use Rattle.std.specs.Prelude.{filter}
use Rattle.std.specs.List.{range_with_len}
use Rattle.core_state.specs.Pins.{is_changed}
use Rattle.work_events.proofs.choices.count_changed.Given as goal

abbrev pub invariant-loop-offset : goal.invariant-loop-offset
invariant-loop-offset l = record {
  counted : l.count ≡ length (filter (is_changed l.rows l.volume) (range_with_len (l.fn.page * 8) l.offset));
  within : l.count ≤ l.offset;
}
