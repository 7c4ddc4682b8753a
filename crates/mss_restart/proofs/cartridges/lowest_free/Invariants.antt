use Rattle.std.proofs.Common.{◌≡◌, ◌⊎◌, ◌<◌, ℕ, true, Some}
use Rattle.volume_table.specs.Listed.{row_in_list}
use Rattle.mss_restart.specs.Cartridges.{is_named}
use Rattle.mss_restart.proofs.cartridges.lowest_free.Given as goal

abbrev pub invariant-loop-number : goal.invariant-loop-number
invariant-loop-number l = (lower : ℕ) → lower < l.number → (is_named (row_in_list l.rows) lower ≡ true) ⊎ (l.taken ≡ Some lower)
