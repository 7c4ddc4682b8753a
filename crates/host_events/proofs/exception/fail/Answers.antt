use Rattle.std.proofs.Common.{◌≡◌, ◌≤◌, List, Some, sym, ◌∙◌, ap, subst, arith, rules}
use Rattle.channel_commands.specs.Data.{equipment_check}
use Rattle.channel_commands.specs.Views.{call_of}
use Rattle.ckd_plain.specs.declared.host.HostState.{HostState}
use Rattle.ckd_plain.specs.declared.unit_check.UnitCheck.TheVariants as check
use Rattle.ckd_plain.specs.Plain.{host_after_check}
use Rattle.core_state.specs.CoreValue.{CoreValue}
use Rattle.core_state.specs.Pins.{host_at}
use Rattle.host_events.specs.Replies.{after_answer, IsUpheld}
use Rattle.host_events.proofs.RuleFacts.{rule_failed}
use Rattle.host_events.proofs.ReplyFacts.{upheld_of}
use Rattle.host_events.proofs.Exceptions.{upheld_failed}
use Rattle.host_events.proofs.exception.fail.Goals as goal

pub reply-requires-clause-few : goal.reply-requires-clause-few
reply-requires-clause-few g c =
    let now = c.args.core.now in
    let is = upheld_of g.S.Site _ now c.core.view_is c.core.invariant in
    (rule_failed now c.args.host (call_of c.args.call.now) is.whole.kept c.args.fault c.requires.rule).goes.few

pub reply-requires-clause-upheld : goal.reply-requires-clause-upheld
reply-requires-clause-upheld g c =
    let now = c.args.core.now in
    let is = upheld_of g.S.Site _ now c.core.view_is c.core.invariant in
    let low : (1 ≤ c.args.host) × (c.args.host ≤ 8) = search rules in
    let state : c.host_at.result ≡ host_at now.hosts c.args.host =
    c.host_at.ensures ∙ ap (λ (l : List HostState). host_at l c.args.host) (c.as_slice.ensures ∙ ap (λ (x : CoreValue g.row.S.Denot g.row.C.Denot). x.hosts) c.core.view_is) in
    let host_is : c.checked-now.result ≡ host_after_check check.EquipmentCheck (host_at now.hosts c.args.host) = c.checked-now.ensures ∙ ap (host_after_check check.EquipmentCheck) state in
    subst (λ (x : HostState). IsUpheld g.S.Site.tells (g.S.Site.told now.site) (g.S.Site.writes now.site) (g.S.Site.faults now.site)
    (after_answer now (g.S.Site.writes now.site) c.args.host (call_of c.args.call.now) (Some c.args.fault) (equipment_check, x))) (sym host_is)
    (upheld_failed g.S.Site.tells (g.S.Site.told now.site) (g.S.Site.writes now.site) (g.S.Site.faults now.site) now is (g.met.S.Site.counted now.site) c.args.host (low.0, omega (arith, low.1)) (call_of c.args.call.now) c.args.fault
    (rule_failed now c.args.host (call_of c.args.call.now) is.whole.kept c.args.fault c.requires.rule))
