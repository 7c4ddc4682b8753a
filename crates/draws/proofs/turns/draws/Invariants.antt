use Rattle.std.proofs.Common.{◌≡◌, ℕ, ◌+◌, ◌++◌}
use Rattle.rand_core.specs.Steps.{first_words}
use Rattle.rand_pcg.specs.Pcg.{pcg32}
use Rattle.draws.specs.Draws.{draws}
use Rattle.draws.proofs.turns.draws.Given as goal

-- what was drawn, and what is left to draw
abbrev pub invariant-loop : goal.invariant-loop
invariant-loop l = (left : ℕ) → left + l.counter ≡ l.count
    → l.words.items ++ first_words pcg32 left l.generator ≡ draws l.order l.count
