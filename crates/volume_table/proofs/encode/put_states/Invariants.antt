use Rattle.std.proofs.Common.{◌≡◌, take, map}
use Rattle.mss_base.specs.Content.{splice}
use Rattle.volume_table.specs.States.{state_number}
use Rattle.volume_table.proofs.encode.put_states.Given as goal

abbrev pub invariant-loop-cylinder : goal.invariant-loop-cylinder
invariant-loop-cylinder l = l.into ≡ splice l.at (map state_number (take l.cylinder l.states)) l.fn.into
