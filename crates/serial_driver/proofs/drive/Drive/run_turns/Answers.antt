use Rattle.std.proofs.Common.{arith}
use Rattle.serial_driver.proofs.ActorFacts.{turn_leaves, turn_done, turn_goes, turn_halts, turns_over}
use Rattle.serial_driver.proofs.drive.Drive.run_turns.Goals as goal

pub returns-in_default : goal.returns-in_default
returns-in_default g c = record {
  runs = turn_halts g.S.Site g.C.Choose.may c.args.turns.now c.loop-turn.turn-index _ c.args.self.now c.loop-turn.self c.act.new.self c.act.result c.loop-turn-test.true c.loop-turn.invariant.so_far c.loop-turn.invariant.leaves c.act.ensures.takes c.act.ensures.leaves c.in_default.not-Done;
  leaves = turn_leaves g.S.Site g.C.Choose.may c.args.turns.now c.loop-turn.turn-index _ c.args.self.now c.loop-turn.self c.act.new.self c.act.result c.loop-turn-test.true c.loop-turn.invariant.so_far c.loop-turn.invariant.leaves c.act.ensures.takes c.act.ensures.leaves;
}

pub loop-turn-preserved : goal.loop-turn-preserved
loop-turn-preserved g c = record {
  so_far = turn_goes g.S.Site g.C.Choose.may c.args.turns.now c.loop-turn.turn-index _ c.args.self.now c.loop-turn.self c.act.new.self c.act.result c.loop-turn-test.true c.loop-turn.invariant.so_far c.loop-turn.invariant.leaves c.act.ensures.takes c.act.ensures.leaves c.in-Done.is;
  leaves = turn_done g.S.Site g.C.Choose.may c.args.turns.now c.loop-turn.turn-index _ c.args.self.now c.loop-turn.self c.act.new.self c.act.result c.loop-turn-test.true c.loop-turn.invariant.so_far c.loop-turn.invariant.leaves c.act.ensures.takes c.act.ensures.leaves c.in-Done.is;
}

pub returns-clause-runs : goal.returns-clause-runs
returns-clause-runs g c = turns_over _ _ c.args.turns.now c.loop-turn.turn-index _ _ (omega (arith, c.loop-turn-test.false)) c.loop-turn.invariant.so_far
