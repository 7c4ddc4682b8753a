use Rattle.std.proofs.Common.{arith}
use Rattle.serial_driver.proofs.EventRuns.{event_leaves, leaves_done, event_goes, event_halts, events_over}
use Rattle.serial_driver.proofs.drive.Drive.run_events.Goals as goal

pub returns-in_default : goal.returns-in_default
returns-in_default g c = record {
  runs = event_halts g.S.Site g.C.Choose.may c.args.events.now c.loop-event.event-index c.event-item.result c.args.self.now c.loop-event.self c.event.new.self c.event.result c.loop-event-test.true c.event-item.is c.loop-event.invariant.so_far c.loop-event.invariant.leaves c.event.ensures.takes c.event.ensures.leaves c.in_default.not-Done;
  leaves = event_leaves g.S.Site g.C.Choose.may c.args.events.now c.loop-event.event-index c.event-item.result c.args.self.now c.loop-event.self c.event.new.self c.event.result c.loop-event-test.true c.event-item.is c.loop-event.invariant.so_far c.loop-event.invariant.leaves c.event.ensures.takes c.event.ensures.leaves;
}

pub loop-event-preserved : goal.loop-event-preserved
loop-event-preserved g c = record {
  so_far = event_goes g.S.Site g.C.Choose.may c.args.events.now c.loop-event.event-index c.event-item.result c.args.self.now c.loop-event.self c.event.new.self c.event.result c.loop-event-test.true c.event-item.is c.loop-event.invariant.so_far c.loop-event.invariant.leaves c.event.ensures.takes c.event.ensures.leaves c.in-Done.is;
  leaves = leaves_done g.S.Site g.C.Choose.may c.args.events.now c.loop-event.event-index c.event-item.result c.args.self.now c.loop-event.self c.event.new.self c.event.result c.loop-event-test.true c.event-item.is c.loop-event.invariant.so_far c.loop-event.invariant.leaves c.event.ensures.takes c.event.ensures.leaves c.in-Done.is;
}

pub returns-clause-runs : goal.returns-clause-runs
returns-clause-runs g c = events_over _ _ c.args.events.now c.loop-event.event-index _ _ (omega (arith, c.loop-event-test.false)) c.loop-event.invariant.so_far
