use Rattle.std.proofs.Common.{◌≡◌, ◌+◌, ◌≤◌, length, take, map}
use Rattle.volume_table.specs.States.{state_number}
use Rattle.volume_table.proofs.lists.states_of.Given as goal

abbrev pub invariant-loop-byte : goal.invariant-loop-byte
invariant-loop-byte l = (map state_number l.states.items ≡ take l.byte-index l.bytes) × (length l.bytes ≤ l.states.spare + l.byte-index)
