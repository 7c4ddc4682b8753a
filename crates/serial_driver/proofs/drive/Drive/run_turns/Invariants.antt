use Rattle.std.proofs.Common.{drop}
use Rattle.core_state.specs.CoreValue.{seen_core}
use Rattle.serial_driver.specs.declared.answer.DriveAnswer.TheVariants.{Done}
use Rattle.serial_driver.specs.Drives.{LeavesDrive, events_of, terms_of}
use Rattle.serial_driver.proofs.EventRuns.{EventsSoFar}
use Rattle.serial_driver.proofs.drive.Drive.run_turns.Given as goal

abbrev pub invariant-loop-turn : goal.invariant-loop-turn
invariant-loop-turn g l = record {
  so_far : EventsSoFar (terms_of g.S.Site g.C.Choose.may l.initial.self) l.initial.self.scripts (events_of l.initial.self.scripts l.turns) (seen_core g.S.Site l.initial.self.core) (drop l.turn-index (events_of l.initial.self.scripts l.turns)) (seen_core g.S.Site l.self.core);
  leaves : LeavesDrive g.S.Site l.initial.self l.self Done;
}
