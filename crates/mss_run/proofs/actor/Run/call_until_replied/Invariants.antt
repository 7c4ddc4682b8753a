use Rattle.std.proofs.Common.{◌≡◌}
use Rattle.mss_run.proofs.actor.Run.call_until_replied.Given as goal

abbrev pub invariant-loop : goal.invariant-loop
invariant-loop g l = l.pass ≡ l.initial.pass
