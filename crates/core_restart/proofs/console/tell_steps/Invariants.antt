use Rattle.std.proofs.Common.{◌≡◌, ◌+◌, ◌++◌, map, take}
use Rattle.core_restart.specs.Console.{message_in}
use Rattle.core_restart.proofs.console.tell_steps.Given as goal

abbrev pub invariant-loop-step : goal.invariant-loop-step
invariant-loop-step l = record {
  items : l.console.items ≡ l.initial.console.items ++ map message_in (take l.step-index l.steps);
  room : l.console.spare + l.step-index ≡ l.initial.console.spare;
}
