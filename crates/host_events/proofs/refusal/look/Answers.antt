use Rattle.host_events.proofs.RefusedCalls.{kept_by}
use Rattle.host_events.proofs.refusal.look.Goals as goal

pub returns-clause-kept : goal.returns-clause-kept
returns-clause-kept g c = kept_by _ _ _ _ _ _ c.core.view_is c.core.invariant
