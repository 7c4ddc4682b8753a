use Rattle.std.proofs.Common.{◌≡◌, None}
use Rattle.std.specs.Prelude.{replicate}
use Rattle.plain_machine.proofs.state.PlainState.empty.Given as goal

abbrev pub invariant-loop : goal.invariant-loop
invariant-loop l = l.volumes.items ≡ replicate l.counter None
