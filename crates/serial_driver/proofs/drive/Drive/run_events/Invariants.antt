use Rattle.std.proofs.Common.{drop}
use Rattle.core_state.specs.CoreValue.{seen_core}
use Rattle.serial_driver.specs.declared.answer.DriveAnswer.TheVariants.{Done}
use Rattle.serial_driver.specs.Drives.{LeavesDrive, terms_of}
use Rattle.serial_driver.proofs.EventRuns.{EventsSoFar}
use Rattle.serial_driver.proofs.drive.Drive.run_events.Given as goal

abbrev pub invariant-loop-event : goal.invariant-loop-event
invariant-loop-event g l = record {
  so_far : EventsSoFar (terms_of g.S.Site g.C.Choose.may l.initial.self) l.initial.self.scripts l.events (seen_core g.S.Site l.initial.self.core) (drop l.event-index l.events) (seen_core g.S.Site l.self.core);
  leaves : LeavesDrive g.S.Site l.initial.self l.self Done;
}
