use Rattle.std.proofs.Common.{◌≤◌, ◌-◌, vec_len}
use Rattle.memory_devices.proofs.memory.reserve_blocks.Given as goal

abbrev pub invariant-loop-alloc : goal.invariant-loop-alloc
invariant-loop-alloc l = vec_len l.fn.room ≤ vec_len l.room

abbrev pub decreases-loop-alloc : goal.decreases-loop-alloc
decreases-loop-alloc l = l.count - vec_len l.room
