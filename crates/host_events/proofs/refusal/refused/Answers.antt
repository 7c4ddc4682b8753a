use Rattle.std.proofs.Common.{sym, ◌∙◌}
use Rattle.host_events.proofs.RefusedCalls.{refused_stopped}
use Rattle.host_events.proofs.refusal.refused.Goals as goal

pub returns-in-Some-clause-event : goal.returns-in-Some-clause-event
returns-in-Some-clause-event g c = λ h call. refused_stopped g.S.Site c.args.core.now _ (sym c.stopped.ensures ∙ c.in-Some.is) h call
