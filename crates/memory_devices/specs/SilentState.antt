-- What a clause sees of a site that doesn't tell.
use Rattle.std.specs.Prelude.{◌≡◌, ℕ, List, length, replicate}
use Rattle.std.proofs.lemmas.List.{length-replicate}
use Rattle.memory_devices.specs.Calls.{CallsMade}

-- the byte that it reads, and what it counted
pub record SilentState : Type 0 where
  pub filler : ℕ
  pub writes : ℕ
  pub calls : CallsMade

-- a block of one byte over and over
unfoldable pub filled_block : ℕ → List ℕ
filled_block byte = replicate 16384 byte

pub length-filled_block : (byte : ℕ) → length (filled_block byte) ≡ 16384
unfolding filled_block
length-filled_block byte = length-replicate {A = ℕ} 16384 byte
