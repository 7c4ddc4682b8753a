use Rattle.std.proofs.Common.{[], arith, sym, subst, ◌-◌}
use Rattle.core_state.specs.CoreValue.{seen_core}
use Rattle.core_state.specs.declared.session.Event.{Event}
use Rattle.job_text.specs.Jobs.{ScriptData}
use Rattle.serial_driver.specs.Drives.{EventTakes, terms_of}
use Rattle.serial_driver.proofs.ActorFacts.{host_of, recorder_takes}
use Rattle.serial_driver.proofs.drive.Drive.act.Goals as goal

pub returns-then-number-hosts-clause-takes : goal.returns-then-number-hosts-clause-takes
returns-then-number-hosts-clause-takes g c =
    let unknown : ScriptData = record { host = 0; items = [] } in
    subst (λ (e : Event). EventTakes (terms_of g.S.Site g.C.Choose.may c.args.self.now) c.args.self.now.scripts e (seen_core g.S.Site c.args.self.now.core) c.host.result (seen_core g.S.Site c.host.new.self.core))
    (sym (host_of c.args.self.now.scripts c.args.actor unknown (omega (arith, c.host_count-hosts.ensures, c.if-number-hosts.true)))) (c.host.ensures.takes unknown)

pub returns-clause-takes : goal.returns-clause-takes
returns-clause-takes g c =
    recorder_takes (terms_of g.S.Site g.C.Choose.may c.args.self.now) c.args.self.now.scripts (seen_core g.S.Site c.args.self.now.core) c.answer_of.result (seen_core g.S.Site c.work_of.new.self.core)
    c.args.actor (c.args.actor - c.host_count-hosts.result) c.work_of.result (omega (arith, c.host_count-hosts.ensures, c.if-number-hosts.false)) c.work_of.ensures.event c.answer_of.ensures
