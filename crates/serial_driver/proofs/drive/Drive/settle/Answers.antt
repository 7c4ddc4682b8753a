use Rattle.std.proofs.Common.{◌≡◌, None, subst}
use Rattle.core_state.specs.CoreValue.{CoreValue}
use Rattle.core_state.specs.IsCore.{IsCore}
use Rattle.serial_driver.proofs.SettleFacts.{turn_leaves, turn_done, turn_on, turn_ends, turn_rests, turn_run}
use Rattle.serial_driver.proofs.drive.Drive.settle.Goals as goal

pub returns-in_default : goal.returns-in_default
returns-in_default g c = record {
  settles = turn_ends g.S.Site g.C.Choose.may c.args.self.now c.loop-halted.self c.turn-turn.new.self c.loop-halted.invariant.so_far c.loop-halted.invariant.leaves c.turn-turn.result c.turn-turn.ensures.turns c.turn-turn.ensures.leaves c.in_default.not-Done;
  run = λ done. absurd (c.in_default.not-Done done);
  leaves = turn_leaves g.S.Site g.C.Choose.may c.args.self.now c.loop-halted.self c.turn-turn.new.self c.loop-halted.invariant.so_far c.loop-halted.invariant.leaves c.turn-turn.result c.turn-turn.ensures.turns c.turn-turn.ensures.leaves;
}

pub returns-then-turn-clause-settles : goal.returns-then-turn-clause-settles
returns-then-turn-clause-settles g c =
    let kept : c.turn-turn.new.self.core.stopped ≡ None → IsCore c.turn-turn.new.self.core = subst (λ (v : CoreValue g.row.S.Denot g.row.C.Denot). v.stopped ≡ None → IsCore v) c.core.ensures.value c.look.ensures.kept in
    turn_rests g.S.Site g.C.Choose.may c.args.self.now c.loop-halted.self c.turn-turn.new.self c.loop-halted.invariant.so_far c.loop-halted.invariant.leaves c.turn-turn.result c.turn-turn.ensures.turns c.turn-turn.ensures.leaves kept c.idle_cores_are_settled.ensures c.in-Done.is c.if-turn.true

pub loop-halted-preserved : goal.loop-halted-preserved
loop-halted-preserved g c = record {
  so_far = turn_on g.S.Site g.C.Choose.may c.args.self.now c.loop-halted.self c.turn-turn.new.self c.loop-halted.invariant.so_far c.loop-halted.invariant.leaves c.turn-turn.result c.turn-turn.ensures.turns c.turn-turn.ensures.leaves c.in-Done.is c.if-turn.false;
  leaves = turn_done g.S.Site g.C.Choose.may c.args.self.now c.loop-halted.self c.turn-turn.new.self c.loop-halted.invariant.so_far c.loop-halted.invariant.leaves c.turn-turn.result c.turn-turn.ensures.turns c.turn-turn.ensures.leaves c.in-Done.is;
}

pub returns-then-turn-clause-leaves : goal.returns-then-turn-clause-leaves
returns-then-turn-clause-leaves g c =
    turn_done g.S.Site g.C.Choose.may c.args.self.now c.loop-halted.self c.turn-turn.new.self c.loop-halted.invariant.so_far c.loop-halted.invariant.leaves c.turn-turn.result c.turn-turn.ensures.turns c.turn-turn.ensures.leaves c.in-Done.is

pub returns-then-turn-clause-run : goal.returns-then-turn-clause-run
returns-then-turn-clause-run g c = λ _. turn_run g.S.Site g.C.Choose.may c.args.self.now c.loop-halted.self c.turn-turn.new.self c.loop-halted.invariant.so_far c.loop-halted.invariant.leaves c.turn-turn.result c.turn-turn.ensures.turns c.turn-turn.ensures.leaves c.in-Done.is
