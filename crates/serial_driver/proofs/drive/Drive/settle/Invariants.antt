use Rattle.core_state.specs.CoreValue.{seen_core}
use Rattle.core_progress.specs.WorkLeft.{settle_left}
use Rattle.serial_driver.specs.declared.answer.DriveAnswer.TheVariants.{Done}
use Rattle.serial_driver.specs.Drives.{LeavesDrive, terms_of}
use Rattle.serial_driver.proofs.SettleFacts.{SettlesSoFar}
use Rattle.serial_driver.proofs.drive.Drive.settle.Given as goal

abbrev pub invariant-loop-halted : goal.invariant-loop-halted
invariant-loop-halted g l = record {
  so_far : SettlesSoFar (terms_of g.S.Site g.C.Choose.may l.initial.self) (seen_core g.S.Site l.initial.self.core) (seen_core g.S.Site l.self.core);
  leaves : LeavesDrive g.S.Site l.initial.self l.self Done;
}

abbrev pub decreases-loop-halted : goal.decreases-loop-halted
decreases-loop-halted g l = settle_left (seen_core g.S.Site l.self.core)
