use Rattle.std.proofs.Common.{sym, ◌∙◌, ap}
use Rattle.std.specs.Prelude.{is_some}
use Rattle.std.proofs.lemmas.Bool.{false≢true}
use Rattle.fault_queue.specs.Requests.{request_of}
use Rattle.core_state.specs.CoreValue.{CoreValue}
use Rattle.host_events.proofs.RuleFacts.{rule_held}
use Rattle.host_events.proofs.ReplyFacts.{upheld_of}
use Rattle.host_events.proofs.HeldFrames.{held_bare}
use Rattle.host_events.proofs.wait.hold.Goals as goal

pub prove-unreachable-requires : goal.prove-unreachable-requires
prove-unreachable-requires g c =
    let now = c.args.core.now in
    let call = c.requires.rule.0 in
    let is = upheld_of g.S.Site _ now c.core.view_is c.core.invariant in
    let on = rule_held now c.args.host call is.whole.kept c.args.frame c.requires.rule.1 in
    let none = held_bare now (is.whole.kept on.goes.going) c.args.host call c.args.frame on in
    false≢true
    (sym (ap is_some (c.of.ensures ∙ ap (λ (x : CoreValue g.row.S.Denot g.row.C.Denot). request_of x.requests c.args.host) c.core.view_is ∙ none))
    ∙ c.if-prove.ensures)
