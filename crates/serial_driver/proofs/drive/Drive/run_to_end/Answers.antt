use Rattle.std.proofs.Common.{sym, ◌∙◌}
use Rattle.core_state.specs.CoreValue.{seen_core}
use Rattle.serial_driver.specs.Drives.{terms_of}
use Rattle.serial_driver.proofs.EventRuns.{leaves_none}
use Rattle.serial_driver.proofs.RoundFacts.{no_host_calls, rounds_begin, round_none, round_left, round_halts, round_leaves, round_done, round_stops, round_goes, round_falls}
use Rattle.serial_driver.proofs.drive.Drive.run_to_end.Goals as goal

pub loop-self-init : goal.loop-self-init
loop-self-init g c = record {
  so_far = rounds_begin (terms_of g.S.Site g.C.Choose.may c.args.self.now) c.args.self.now.scripts (seen_core g.S.Site c.args.self.now.core);
  leaves = leaves_none g.S.Site c.args.self.now;
}

pub loop-self-preserved : goal.loop-self-preserved
loop-self-preserved g c = record {
  so_far = round_goes g.S.Site g.C.Choose.may c.args.self.now c.loop-self.self c.loop-self.invariant.so_far c.loop-self.invariant.leaves (sym c.some_host_calls.ensures ∙ c.if-not-some_host_calls.false) c.take.new.self (record { reads = c.take.ensures.read; leaves = c.take.ensures.leaves }) c.settle.new.self c.settle.result c.settle.ensures.settles c.settle.ensures.leaves c.in-Done.is c.hosts_turn.new.self c.hosts_turn.result c.hosts_turn.ensures.turns c.hosts_turn.ensures.leaves c.in-Done-hosts_turn.is;
  leaves = round_done g.S.Site g.C.Choose.may c.args.self.now c.loop-self.self c.loop-self.invariant.so_far c.loop-self.invariant.leaves (sym c.some_host_calls.ensures ∙ c.if-not-some_host_calls.false) c.take.new.self (record { reads = c.take.ensures.read; leaves = c.take.ensures.leaves }) c.settle.new.self c.settle.result c.settle.ensures.settles c.settle.ensures.leaves c.in-Done.is c.hosts_turn.new.self c.hosts_turn.result c.hosts_turn.ensures.turns c.hosts_turn.ensures.leaves c.in-Done-hosts_turn.is;
}

pub loop-self-smaller : goal.loop-self-smaller
loop-self-smaller g c = round_falls g.S.Site g.C.Choose.may c.args.self.now c.loop-self.self c.loop-self.invariant.so_far c.loop-self.invariant.leaves (sym c.some_host_calls.ensures ∙ c.if-not-some_host_calls.false) c.take.new.self (record { reads = c.take.ensures.read; leaves = c.take.ensures.leaves }) c.settle.new.self c.settle.result c.settle.ensures.settles c.settle.ensures.leaves c.in-Done.is c.hosts_turn.new.self c.hosts_turn.result c.hosts_turn.ensures.turns c.hosts_turn.ensures.leaves (c.settle.ensures.run c.in-Done.is) (c.hosts_turn.ensures.falls c.in-Done-hosts_turn.is)

pub returns-then-not-some_host_calls-clause-runs : goal.returns-then-not-some_host_calls-clause-runs
returns-then-not-some_host_calls-clause-runs g c = round_none g.S.Site g.C.Choose.may c.args.self.now c.loop-self.self c.loop-self.invariant.so_far c.loop-self.invariant.leaves (sym c.some_host_calls.ensures ∙ c.if-not-some_host_calls.true)

pub returns-in_default : goal.returns-in_default
returns-in_default g c = record {
  runs = round_halts g.S.Site g.C.Choose.may c.args.self.now c.loop-self.self c.loop-self.invariant.so_far c.loop-self.invariant.leaves (sym c.some_host_calls.ensures ∙ c.if-not-some_host_calls.false) c.take.new.self (record { reads = c.take.ensures.read; leaves = c.take.ensures.leaves }) c.settle.new.self c.settle.result c.settle.ensures.settles c.settle.ensures.leaves c.in_default.not-Done;
  ended = λ done. absurd (c.in_default.not-Done done);
  leaves = round_left g.S.Site g.C.Choose.may c.args.self.now c.loop-self.self c.loop-self.invariant.so_far c.loop-self.invariant.leaves (sym c.some_host_calls.ensures ∙ c.if-not-some_host_calls.false) c.take.new.self (record { reads = c.take.ensures.read; leaves = c.take.ensures.leaves }) c.settle.new.self c.settle.result c.settle.ensures.settles c.settle.ensures.leaves;
}

pub returns-in_default-hosts_turn : goal.returns-in_default-hosts_turn
returns-in_default-hosts_turn g c = record {
  runs = round_stops g.S.Site g.C.Choose.may c.args.self.now c.loop-self.self c.loop-self.invariant.so_far c.loop-self.invariant.leaves (sym c.some_host_calls.ensures ∙ c.if-not-some_host_calls.false) c.take.new.self (record { reads = c.take.ensures.read; leaves = c.take.ensures.leaves }) c.settle.new.self c.settle.result c.settle.ensures.settles c.settle.ensures.leaves c.in-Done.is c.hosts_turn.new.self c.hosts_turn.result c.hosts_turn.ensures.turns c.hosts_turn.ensures.leaves c.in_default-hosts_turn.not-Done;
  ended = λ done. absurd (c.in_default-hosts_turn.not-Done done);
  leaves = round_leaves g.S.Site g.C.Choose.may c.args.self.now c.loop-self.self c.loop-self.invariant.so_far c.loop-self.invariant.leaves (sym c.some_host_calls.ensures ∙ c.if-not-some_host_calls.false) c.take.new.self (record { reads = c.take.ensures.read; leaves = c.take.ensures.leaves }) c.settle.new.self c.settle.result c.settle.ensures.settles c.settle.ensures.leaves c.in-Done.is c.hosts_turn.new.self c.hosts_turn.result c.hosts_turn.ensures.turns c.hosts_turn.ensures.leaves;
}

pub returns-then-not-some_host_calls-clause-ended : goal.returns-then-not-some_host_calls-clause-ended
returns-then-not-some_host_calls-clause-ended g c = λ _ h.
    c.look_at_hosts.ensures.ended h
    (no_host_calls c.loop-self.self.scripts (seen_core g.S.Site c.loop-self.self.core) (sym c.some_host_calls.ensures ∙ c.if-not-some_host_calls.true) h)
