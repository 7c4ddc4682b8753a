-- What a clause sees of a source and of a sink in memory.
use Rattle.std.specs.Prelude.{ℕ, List}
use Rattle.memory_devices.specs.Calls.{CallsMade}

-- the bytes that are left
pub record SourceState : Type 0 where
  pub left : List ℕ
  pub calls : CallsMade

-- the bytes put so far
pub record SinkState : Type 0 where
  pub told : List ℕ
  pub calls : CallsMade
