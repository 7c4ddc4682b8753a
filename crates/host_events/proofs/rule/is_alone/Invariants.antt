use Rattle.std.proofs.Common.{◌≡◌, ◌<◌, ℕ, true}
use Rattle.core_state.specs.Pins.{host_at, is_on}
use Rattle.host_events.proofs.rule.is_alone.Given as goal

abbrev pub invariant-loop-number : goal.invariant-loop-number
invariant-loop-number l = (other : ℕ) → other < l.number → is_on l.volume (host_at l.hosts other).mounted ≡ true → other ≡ l.host
