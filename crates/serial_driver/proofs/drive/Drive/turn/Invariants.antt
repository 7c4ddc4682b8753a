use Rattle.core_state.specs.CoreValue.{seen_core}
use Rattle.serial_driver.specs.declared.answer.DriveAnswer.TheVariants.{Done}
use Rattle.serial_driver.specs.Drives.{LeavesDrive, terms_of}
use Rattle.serial_driver.proofs.TurnFacts.{TurnSoFar}
use Rattle.serial_driver.proofs.drive.Drive.turn.Given as goal

abbrev pub invariant-loop-number : goal.invariant-loop-number
invariant-loop-number g l = record {
  so_far : TurnSoFar (terms_of g.S.Site g.C.Choose.may l.initial.self) (seen_core g.S.Site l.initial.self.core) l.number l.idle (seen_core g.S.Site l.self.core);
  leaves : LeavesDrive g.S.Site l.initial.self l.self Done;
}
