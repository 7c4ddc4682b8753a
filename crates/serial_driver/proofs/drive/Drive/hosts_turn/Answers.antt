use Rattle.std.proofs.Common.{◌≡◌, ◌≤◌, ◌<◌, length, None, arith, subst}
use Rattle.core_state.specs.CoreValue.{CoreValue, seen_core}
use Rattle.core_state.specs.IsCore.{IsCore}
use Rattle.host_events.proofs.RuleFacts.{core_seen}
use Rattle.script_places.specs.Scripts.{calls_of}
use Rattle.serial_driver.specs.Drives.{hosts_of, terms_of}
use Rattle.serial_driver.proofs.EventRuns.{leaves_none}
use Rattle.serial_driver.proofs.RoundFacts.{someone, hosts_begin, hosts_over, none_yet, run_falls, host_leaves, host_done, host_on, host_halts, host_goes_on}
use Rattle.serial_driver.proofs.drive.Drive.hosts_turn.Goals as goal

pub loop-number-init : goal.loop-number-init
loop-number-init g c = record {
  so_far = hosts_begin (terms_of g.S.Site g.C.Choose.may c.args.self.now) c.args.self.now.scripts (seen_core g.S.Site c.args.self.now.core);
  goes_on = λ _. none_yet c.args.self.now.scripts (seen_core g.S.Site c.args.self.now.core);
  leaves = leaves_none g.S.Site c.args.self.now;
}

pub loop-number-preserved : goal.loop-number-preserved
loop-number-preserved g c =
    let low : c.loop-number.number < length c.args.self.now.scripts = omega (arith, c.loop-number-test.true, c.host_count-hosts.ensures) in
    let kept : c.loop-number.self.core.stopped ≡ None → IsCore c.loop-number.self.core = subst (λ (v : CoreValue g.row.S.Denot g.row.C.Denot). v.stopped ≡ None → IsCore v) c.core-in-loop-number.ensures.value c.look-in-loop-number.ensures.kept in
    record {
      so_far = host_on g.S.Site g.C.Choose.may c.loop-number.number c.args.self.now c.loop-number.self c.host.new.self low c.loop-number.invariant.leaves c.host.result c.host.ensures.takes c.host.ensures.leaves c.loop-number.invariant.so_far c.in-Done.is;
      goes_on = host_goes_on g.S.Site g.C.Choose.may c.loop-number.number c.args.self.now c.loop-number.self c.host.new.self low c.loop-number.invariant.leaves c.host.result c.host.ensures.takes c.host.ensures.leaves c.look_at_hosts.ensures.scripts kept c.calls_leave_less.ensures c.kept_waiting_changes_nothing.ensures c.in-Done.is c.loop-number.invariant.goes_on;
      leaves = host_done g.S.Site g.C.Choose.may c.loop-number.number c.args.self.now c.loop-number.self c.host.new.self low c.loop-number.invariant.leaves c.host.result c.host.ensures.takes c.host.ensures.leaves c.in-Done.is;
    }

pub returns-in_default : goal.returns-in_default
returns-in_default g c =
    let low : c.loop-number.number < length c.args.self.now.scripts = omega (arith, c.loop-number-test.true, c.host_count-hosts.ensures) in
    record {
      turns = host_halts g.S.Site g.C.Choose.may c.loop-number.number c.args.self.now c.loop-number.self c.host.new.self low c.loop-number.invariant.leaves c.host.result c.host.ensures.takes c.host.ensures.leaves c.loop-number.invariant.so_far c.in_default.not-Done;
      falls = λ done. absurd (c.in_default.not-Done done);
      leaves = host_leaves g.S.Site g.C.Choose.may c.loop-number.number c.args.self.now c.loop-number.self c.host.new.self low c.loop-number.invariant.leaves c.host.result c.host.ensures.takes c.host.ensures.leaves;
    }

pub returns-clause-turns : goal.returns-clause-turns
returns-clause-turns g c =
    let past : length c.args.self.now.scripts ≤ c.loop-number.number = omega (arith, c.loop-number-test.false, c.host_count-hosts.ensures) in
    hosts_over (terms_of g.S.Site g.C.Choose.may c.args.self.now) c.args.self.now.scripts (seen_core g.S.Site c.args.self.now.core) c.loop-number.number (seen_core g.S.Site c.loop-number.self.core) past c.loop-number.invariant.so_far

pub returns-clause-falls : goal.returns-clause-falls
returns-clause-falls g c = λ _ settled going some.
    let past : length c.args.self.now.scripts ≤ c.loop-number.number = omega (arith, c.loop-number-test.false, c.host_count-hosts.ensures) in
    let kept : c.args.self.now.core.stopped ≡ None → IsCore c.args.self.now.core = subst (λ (v : CoreValue g.row.S.Denot g.row.C.Denot). v.stopped ≡ None → IsCore v) c.core.ensures.value c.look.ensures.kept in
    let calls = someone (calls_of c.args.self.now.scripts) (hosts_of c.args.self.now.scripts) (seen_core g.S.Site c.args.self.now.core) some in
    run_falls c.args.self.now.scripts (seen_core g.S.Site c.args.self.now.core) c.loop-number.number (seen_core g.S.Site c.loop-number.self.core) past (c.loop-number.invariant.goes_on going)
    (c.settled_cores_go_on.ensures (seen_core g.S.Site c.args.self.now.core) (calls_of c.args.self.now.scripts c.args.self.now.core.history) (core_seen g.S.Site c.args.self.now.core (kept going)) settled (c.look_at_hosts.ensures.owners going) calls)
