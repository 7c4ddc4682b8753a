use Rattle.std.proofs.Common.{◌≡◌, None}
use Rattle.mss_base.specs.Firsts.{first_below, where_so}
use Rattle.core_state.specs.Pins.{owns}
use Rattle.core_state.proofs.looks.owner_of.Given as goal

abbrev pub invariant-loop-number : goal.invariant-loop-number
invariant-loop-number l = first_below l.number (λ h. where_so (owns l.hosts l.requests h l.volume) h) ≡ None
