use Rattle.std.proofs.Common.{◌≡◌, ◌≤◌, ◌+◌, None, false}
use Rattle.std.specs.Prelude.{replicate}
use Rattle.staging_adapter.proofs.frames.Frames.new.Given as goal

abbrev pub invariant-loop : goal.invariant-loop
invariant-loop l = record {
  owned : l.owners.items ≡ replicate l.counter None;
  moves : l.moving.items ≡ replicate l.counter false;
  room : l.count ≤ l.owners.spare + l.counter;
  room_too : l.count ≤ l.moving.spare + l.counter;
}
