use Rattle.std.proofs.Common.{◌∙◌, ap, sym, subst, List}
use Rattle.channel_commands.specs.Views.{call_of}
use Rattle.ckd_plain.specs.declared.host.HostState.{HostState}
use Rattle.host_events.specs.Asking.{IsAlone}
use Rattle.host_events.proofs.AloneFacts.{alone_not_busy}
use Rattle.host_events.proofs.rule.busy_rule.Goals as goal

pub returns-then-is_alone : goal.returns-then-is_alone
returns-then-is_alone g c =
    let alone : IsAlone c.args.core.now.hosts c.args.asked.now.host c.in_ok-volume.volume =
    subst (λ (hosts : List HostState). IsAlone hosts c.args.asked.now.host c.in_ok-volume.volume) (c.as_slice.ensures ∙ ap (λ v. v.hosts) c.core.view_is) (c.is_alone.ensures c.if-is_alone.true) in
    sym (alone_not_busy c.args.core.now c.args.asked.now.host (call_of c.args.asked.now.call.now) c.in_ok-volume.volume c.in_ok-volume.field-0-1 (ap (λ (s : HostState). s.mounted) (sym c.requires.state_) ∙ c.in_ok-volume.was) alone)
