use Rattle.std.proofs.Common.{◌≡◌, ◌++◌, take, drop}
use Rattle.core_state.specs.Tasks.{touched_all}
use Rattle.core_state.proofs.task.touch_all.Given as goal

abbrev pub invariant-loop-i : goal.invariant-loop-i
invariant-loop-i l = l.tasks.items ≡ touched_all l.volume l.page (take l.i l.fn.tasks.items) ++ drop l.i l.fn.tasks.items
