use Rattle.core_state.specs.CoreValue.{seen_core}
use Rattle.core_progress.specs.WorkLeft.{run_left}
use Rattle.serial_driver.specs.declared.answer.DriveAnswer.TheVariants.{Done}
use Rattle.serial_driver.specs.Drives.{LeavesDrive, terms_of}
use Rattle.serial_driver.proofs.RoundFacts.{RoundsSoFar}
use Rattle.serial_driver.proofs.drive.Drive.run_to_end.Given as goal

abbrev pub invariant-loop-self : goal.invariant-loop-self
invariant-loop-self g l = record {
  so_far : RoundsSoFar (terms_of g.S.Site g.C.Choose.may l.initial.self) l.initial.self.scripts (seen_core g.S.Site l.initial.self.core) (seen_core g.S.Site l.self.core);
  leaves : LeavesDrive g.S.Site l.initial.self l.self Done;
}

abbrev pub decreases-loop-self : goal.decreases-loop-self
decreases-loop-self g l = run_left (seen_core g.S.Site l.self.core)
