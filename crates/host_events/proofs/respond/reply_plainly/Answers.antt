use Rattle.std.proofs.Common.{◌≡◌, ◌≤◌, List, Option, None, sym, ◌∙◌, ap, subst, arith, rules}
use Rattle.channel_commands.specs.Data.{ReplyData}
use Rattle.channel_commands.specs.Views.{call_of, reply_of}
use Rattle.ckd_plain.specs.declared.host.HostState.{HostState}
use Rattle.ckd_plain.specs.Plain.{NeedsNoTrack, response_to}
use Rattle.volume_table.specs.Row.{RowValue}
use Rattle.core_state.specs.CoreValue.{CoreValue}
use Rattle.core_state.specs.HostEvents.{mark_in}
use Rattle.core_state.specs.Pins.{host_at}
use Rattle.host_events.specs.Replies.{after_answer, IsUpheld}
use Rattle.host_events.proofs.RuleFacts.{rule_responds}
use Rattle.host_events.proofs.ReplyFacts.{upheld_of}
use Rattle.host_events.proofs.Responses.{needs_none, upheld_response}
use Rattle.host_events.proofs.respond.reply_plainly.Goals as goal

pub response-requires : goal.response-requires
response-requires g c =
    let now = c.args.core.now in
    let is = upheld_of g.S.Site _ now c.core.view_is c.core.invariant in
    let state : c.host_at-now.result ≡ host_at now.hosts c.args.host =
    c.host_at-now.ensures ∙ ap (λ (l : List HostState). host_at l c.args.host) (c.as_slice.ensures ∙ ap (λ (x : CoreValue g.row.S.Denot g.row.C.Denot). x.hosts) c.core.view_is) in
    subst (λ (x : HostState). NeedsNoTrack x (call_of c.args.call.now)) (sym state)
    (needs_none (host_at now.hosts c.args.host) (call_of c.args.call.now) (rule_responds now c.args.host (call_of c.args.call.now) is.whole.kept c.requires.rule).none)

pub reply-requires-clause-few : goal.reply-requires-clause-few
reply-requires-clause-few g c =
    let now = c.args.core.now in
    let is = upheld_of g.S.Site _ now c.core.view_is c.core.invariant in
    (rule_responds now c.args.host (call_of c.args.call.now) is.whole.kept c.requires.rule).goes.few

pub reply-requires-clause-upheld : goal.reply-requires-clause-upheld
reply-requires-clause-upheld g c =
    let now = c.args.core.now in
    let is = upheld_of g.S.Site _ now c.core.view_is c.core.invariant in
    let low : (1 ≤ c.args.host) × (c.args.host ≤ 8) = search rules in
    let call = call_of c.args.call.now in
    let state : c.host_at-now.result ≡ host_at now.hosts c.args.host =
    c.host_at-now.ensures ∙ ap (λ (l : List HostState). host_at l c.args.host) (c.as_slice.ensures ∙ ap (λ (x : CoreValue g.row.S.Denot g.row.C.Denot). x.hosts) c.core.view_is) in
    let mark : c.mark_of-mark.result ≡ mark_in now.rows call =
    c.mark_of-mark.ensures ∙ ap (λ (l : List (Option RowValue)). mark_in l call) (ap (λ (x : CoreValue g.row.S.Denot g.row.C.Denot). x.rows) c.core.view_is) in
    let answer : ◌≡◌ {A = ReplyData × HostState} (reply_of c.in-Ok.told, c.response.new.host) (response_to (host_at now.hosts c.args.host) (mark_in now.rows call) call) =
    c.in-Ok.ensures ∙ (λ i. response_to (state i) (mark i) call) in
    subst (λ (x : ReplyData × HostState). IsUpheld g.S.Site.tells (g.S.Site.told now.site) (g.S.Site.writes now.site) (g.S.Site.faults now.site)
    (after_answer now (g.S.Site.writes now.site) c.args.host call None x)) (sym answer)
    (upheld_response g.S.Site.tells (g.S.Site.told now.site) (g.S.Site.writes now.site) (g.S.Site.faults now.site) now is (g.met.S.Site.counted now.site) c.args.host (low.0, omega (arith, low.1)) call
    (rule_responds now c.args.host call is.whole.kept c.requires.rule))
