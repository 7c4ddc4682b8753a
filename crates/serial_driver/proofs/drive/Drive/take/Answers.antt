use Rattle.std.proofs.Common.{◌≡◌, subst}
use Rattle.std.specs.Prelude.{is_some}
use Rattle.core_state.specs.Chains.{Reading}
use Rattle.core_state.specs.CoreValue.{seen_core}
use Rattle.volume_copy.specs.Beside.{asked_copy}
use Rattle.serial_driver.specs.declared.answer.DriveAnswer.TheVariants.{Done}
use Rattle.serial_driver.specs.Drives.{DriveValue, LeavesDrive}
use Rattle.serial_driver.proofs.TakeFacts.{read_driven, read_leaves, reads_seen}
use Rattle.serial_driver.proofs.drive.Drive.take.Goals as goal

pub invariant_of-self : goal.invariant_of-self
invariant_of-self g c =
    read_driven g.S.Site c.self.inside.session.core c.take_next.new.session.core c.self.inside.scripts.now (is_some (asked_copy c.self.inside.session.copier)) c.take_next.ensures.core c.self.inside.places.items c.self.invariant

pub returns-clause-read : goal.returns-clause-read
returns-clause-read g c =
    subst (λ (d : DriveValue g.row.S.Denot g.row.C.Denot). Reading (is_some (asked_copy d.copier)) g.S.Site.tells (seen_core g.S.Site d.core) (λ read. seen_core g.S.Site c.take_next.new.session.core ≡ read)) c.self.view_is
    (reads_seen g.S.Site c.self.inside.session.core c.take_next.new.session.core (is_some (asked_copy c.self.inside.session.copier)) c.take_next.ensures.core)

pub returns-clause-leaves : goal.returns-clause-leaves
returns-clause-leaves g c =
    subst (λ (d : DriveValue g.row.S.Denot g.row.C.Denot). LeavesDrive g.S.Site d (record { core = c.take_next.new.session.core; copier = c.take_next.new.session.copier; scripts = c.self.inside.scripts.now }) Done) c.self.view_is
    (read_leaves g.S.Site c.self.inside.session.core c.take_next.new.session.core c.self.inside.scripts.now c.self.inside.session.copier c.take_next.new.session.copier c.take_next.ensures.copier (is_some (asked_copy c.self.inside.session.copier)) c.take_next.ensures.core)
