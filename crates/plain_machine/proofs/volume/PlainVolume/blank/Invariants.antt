use Rattle.std.proofs.Common.{◌≡◌, []}
use Rattle.std.specs.Prelude.{replicate}
use Rattle.plain_machine.proofs.volume.PlainVolume.blank.Given as goal

abbrev pub invariant-loop : goal.invariant-loop
invariant-loop l = l.cylinders.items ≡ replicate l.counter (replicate 19 [])
