use Rattle.std.proofs.Common.{◌≤◌, length, ap, sym, subst}
use Rattle.fault_queue.specs.Requests.{RequestsData}
use Rattle.work_events.proofs.GoingCore.{going_core}
use Rattle.work_events.proofs.QueueFacts.{few_requests}
use Rattle.work_events.proofs.choices.requests_of.Goals as goal

pub returns-clause-few : goal.returns-clause-few
returns-clause-few g c =
    let now = c.args.core.now in
    subst (λ (requests : RequestsData). length requests ≤ 8) (sym (ap (λ v. v.requests) c.core.view_is)) (few_requests now (going_core _ now c.core.view_is c.core.invariant.whole.kept c.requires.going))
