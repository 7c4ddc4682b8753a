use Rattle.std.proofs.Common.{◌≡◌, take}
use Rattle.ckd_plain.specs.Plain.{start_of, blank_volumes}
use Rattle.plain_machine.specs.StateData.{state_of}
use Rattle.plain_machine.proofs.state.PlainState.blank.Given as goal

-- the volumes so far
abbrev pub invariant-loop-number : goal.invariant-loop-number
invariant-loop-number l = state_of l.state ≡ start_of (blank_volumes (take l.number-index l.volumes))
