use Rattle.serial_driver.proofs.ActorFacts.{run_ends, run_halts, run_leaves}
use Rattle.serial_driver.proofs.drive.Drive.run.Goals as goal

pub returns-in_default : goal.returns-in_default
returns-in_default g c = record {
  runs = run_halts g.S.Site g.C.Choose.may c.args.turns.now c.args.self.now c.run_turns.new.self c.run_turns.result c.run_turns.ensures.runs c.in_default.not-Done;
  ended = λ done. absurd (c.in_default.not-Done done);
  leaves = c.run_turns.ensures.leaves;
}

pub returns-in-Done : goal.returns-in-Done
returns-in-Done g c = record {
  runs = run_ends g.S.Site g.C.Choose.may c.args.turns.now c.args.self.now c.run_turns.new.self c.run_turns.result c.run_turns.ensures.runs c.run_turns.ensures.leaves c.in-Done.is c.run_to_end.new.self c.run_to_end.result c.run_to_end.ensures.runs;
  ended = c.run_to_end.ensures.ended;
  leaves = run_leaves g.S.Site g.C.Choose.may c.args.turns.now c.args.self.now c.run_turns.new.self c.run_turns.result c.run_turns.ensures.runs c.run_turns.ensures.leaves c.in-Done.is c.run_to_end.new.self c.run_to_end.result c.run_to_end.ensures.leaves;
}
