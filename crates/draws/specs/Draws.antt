-- The draws of a number.
use Rattle.std.specs.Prelude.{ℕ, ◌%◌, List, map}
use Rattle.rand_core.specs.Steps.{first_words}
use Rattle.rand_core.specs.Pcg32Seed.{pcg32_seed}
use Rattle.rand_pcg.specs.Lcg.{Lcg}
use Rattle.rand_pcg.specs.Pcg.{pcg32, pcg32_of_seed}

-- the generator that a number starts: PCG32, from the seed of 16 bytes that is made of the number
abbrev pub generator_of : ℕ → Lcg
generator_of order = pcg32_of_seed (pcg32_seed 16 order)

-- its first words of 32 bits
abbrev pub draws : ℕ → ℕ → List ℕ
draws order count = first_words pcg32 count (generator_of order)

-- which of the actors is next, at each turn
abbrev pub schedule : ℕ → ℕ → ℕ → List ℕ
schedule order turns actors = map (λ word. word % actors) (draws order turns)
