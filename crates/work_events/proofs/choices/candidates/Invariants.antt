use Rattle.std.proofs.Common.{◌≡◌, ◌≤◌, ◌+◌, length, take}
use Rattle.std.specs.Prelude.{filter_map}
use Rattle.core_state.specs.Pins.{candidate}
use Rattle.work_events.proofs.choices.candidates.Given as goal

abbrev pub invariant-loop-frame : goal.invariant-loop-frame
invariant-loop-frame g l = record {
  listed : l.list.items ≡ filter_map (candidate l.core) (take l.frame-index l.frames);
  room : length l.frames ≤ l.frame-index + l.list.spare;
}
