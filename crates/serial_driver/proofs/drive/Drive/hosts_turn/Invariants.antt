use Rattle.std.proofs.Common.{◌≡◌, None}
use Rattle.core_state.specs.CoreValue.{seen_core}
use Rattle.serial_driver.specs.declared.answer.DriveAnswer.TheVariants.{Done}
use Rattle.serial_driver.specs.Drives.{LeavesDrive, terms_of}
use Rattle.serial_driver.proofs.RoundFacts.{HostsSoFar, GoesOn}
use Rattle.serial_driver.proofs.drive.Drive.hosts_turn.Given as goal

abbrev pub invariant-loop-number : goal.invariant-loop-number
invariant-loop-number g l = record {
  so_far : HostsSoFar (terms_of g.S.Site g.C.Choose.may l.initial.self) l.initial.self.scripts (seen_core g.S.Site l.initial.self.core) l.number (seen_core g.S.Site l.self.core);
  goes_on : l.initial.self.core.stopped ≡ None → GoesOn l.initial.self.scripts (seen_core g.S.Site l.initial.self.core) l.number (seen_core g.S.Site l.self.core);
  leaves : LeavesDrive g.S.Site l.initial.self l.self Done;
}
