use Rattle.std.proofs.Common.{◌≡◌, ℕ, Bool, Option, None, refl, subst}
use Rattle.std.specs.Prelude.{is_some}
use Rattle.channel_commands.specs.Data.{CallData}
use Rattle.channel_commands.specs.Views.{call_of}
use Rattle.core_state.specs.CoreValue.{CoreData, seen_core}
use Rattle.core_state.specs.HostEvents.{HostEvent}
use Rattle.core_state.specs.declared.rule.WorkAnswer.TheVariants.{Idle}
use Rattle.core_state.proofs.RuleWalks.{some_is}
use Rattle.host_events.specs.Answers.{told_of}
use Rattle.quiet_events.proofs.OtherDevices.{same_wait}
use Rattle.volume_copy.specs.Beside.{asked_copy}
use Rattle.mss_run.specs.Led.{Helps, HelpsThen}
use Rattle.mss_run.proofs.EventFacts.{read_on}
use Rattle.mss_run.proofs.held.Held.step.Goals as goal

pub returns-then-in_vain-clause-nothing : goal.returns-then-in_vain-clause-nothing
returns-then-in_vain-clause-nothing g c = λ is.
    let idle : c.help-helped.result ≡ Idle = some_is c.help-helped.result Idle is in
    let before : CoreData = seen_core g.S.Site c.command-pass.new.self.core in
    let new : CoreData = seen_core g.S.Site c.help-helped.new.self.session.core in
    record {
      waits = same_wait g.S.Site.tells before new (c.help-helped.ensures.idle idle) c.args.pass.host (call_of c.args.call.now) (c.command-pass.ensures.waits c.if-in_vain.true);
      left = c.help-helped.ensures.nothing idle;
    }

pub returns-then-in_vain-clause-helps : goal.returns-then-in_vain-clause-helps
returns-then-in_vain-clause-helps g c =
    let tells = g.S.Site.tells in
    let old = c.args.self.now in
    let before : CoreData = seen_core g.S.Site old.session.core in
    let mid : CoreData = seen_core g.S.Site c.command-pass.new.self.core in
    let new : CoreData = seen_core g.S.Site c.help-helped.new.self.session.core in
    let h : ℕ = c.args.pass.host in
    let call : CallData = call_of c.args.call.now in
    let told = told_of c.command-pass.result.1 in
    let may = g.C.Choose.may old.session.core.chooser in
    let helps : Helps tells may mid old.present c.help-helped.result new =
    subst (λ (chooser : g.row.C.Denot). Helps tells (g.C.Choose.may chooser) mid old.present c.help-helped.result new) c.command-pass.ensures.chooser c.help-helped.ensures.helps in
    read_on (is_some (asked_copy old.session.copier)) tells before (λ (read : CoreData). HostEvent tells read h call told mid)
    (λ (read : CoreData). (m : CoreData) × HostEvent tells read h call told m × Helps tells may m old.present c.help-helped.result new)
    (λ site event. (mid, event, helps)) c.command-pass.ensures.event

pub returns-clause-helps : goal.returns-clause-helps
returns-clause-helps g c =
    let tells = g.S.Site.tells in
    let old = c.args.self.now in
    let before : CoreData = seen_core g.S.Site old.session.core in
    let mid : CoreData = seen_core g.S.Site c.command-pass.new.self.core in
    let h : ℕ = c.args.pass.host in
    let call : CallData = call_of c.args.call.now in
    let told = told_of c.command-pass.result.1 in
    let may = g.C.Choose.may old.session.core.chooser in
    read_on (is_some (asked_copy old.session.copier)) tells before (λ (read : CoreData). HostEvent tells read h call told mid)
    (λ (read : CoreData). (m : CoreData) × HostEvent tells read h call told m × HelpsThen tells may m old.present None mid)
    (λ site event. (mid, event, refl)) c.command-pass.ensures.event
