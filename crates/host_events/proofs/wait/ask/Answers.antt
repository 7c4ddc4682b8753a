use Rattle.std.proofs.Common.{◌≡◌, ◌≤◌, None, refl, sym, subst, arith, rules}
use Rattle.fault_queue.specs.Requests.{request_of}
use Rattle.core_state.specs.CoreValue.{CoreValue, seen_core}
use Rattle.core_state.specs.HostEvents.{Asks}
use Rattle.host_events.proofs.RuleFacts.{rule_faults}
use Rattle.host_events.proofs.ReplyFacts.{upheld_of}
use Rattle.host_events.proofs.QueuedRequests.{none_asked, one_asked, upheld_asking, asks_old, asks_new}
use Rattle.host_events.proofs.wait.ask.Goals as goal

pub returns-then-is_some-clause-event : goal.returns-then-is_some-clause-event
returns-then-is_some-clause-event g c = λ call rule.
    let now = c.args.core.now in
    let is = upheld_of g.S.Site _ now c.core.view_is c.core.invariant in
    let asks = asks_old g.S.Site.tells (seen_core g.S.Site now) c.args.host call c.args.volume c.args.cylinder
    (rule_faults now c.args.host call is.whole.kept c.args.volume c.args.cylinder rule).asks.mine
    (one_asked now _ c.args.host _ _ c.core.view_is c.of.ensures c.is_some.ensures c.if-is_some.true) in
    (refl, asks)

pub queue-requires-clause-none : goal.queue-requires-clause-none
queue-requires-clause-none g c = none_asked c.args.core.now _ c.args.host _ _ c.core.view_is c.of.ensures c.is_some.ensures c.if-is_some.false

pub queue-requires-clause-upheld : goal.queue-requires-clause-upheld
queue-requires-clause-upheld g c =
    let now = c.args.core.now in
    let is = upheld_of g.S.Site _ now c.core.view_is c.core.invariant in
    let low : (1 ≤ c.args.host) × (c.args.host ≤ 8) = search rules in
    upheld_asking g.S.Site.tells (g.S.Site.told now.site) (g.S.Site.writes now.site) (g.S.Site.faults now.site) now is c.args.host (low.0, omega (arith, low.1)) c.requires.rule.0 c.args.volume c.args.cylinder
    (rule_faults now c.args.host c.requires.rule.0 is.whole.kept c.args.volume c.args.cylinder c.requires.rule.1)
    (none_asked now _ c.args.host _ _ c.core.view_is c.of.ensures c.is_some.ensures c.if-is_some.false)

pub returns-in-Ok-clause-event : goal.returns-in-Ok-clause-event
returns-in-Ok-clause-event g c = λ call rule.
    let now = c.args.core.now in
    let none : request_of now.requests c.args.host ≡ None = none_asked now _ c.args.host _ _ c.core.view_is c.of.ensures c.is_some.ensures c.if-is_some.false in
    let asks = subst (λ (x : CoreValue g.row.S.Denot g.row.C.Denot). Asks g.S.Site.tells (seen_core g.S.Site now) c.args.host call c.args.volume c.args.cylinder
    (seen_core g.S.Site x)) (sym c.in-Ok.ensures.ok)
    (asks_new g.S.Site.tells (seen_core g.S.Site now) c.args.host call c.args.volume c.args.cylinder none) in
    (refl, asks)
