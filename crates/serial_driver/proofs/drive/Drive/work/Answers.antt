use Rattle.std.proofs.Common.{◌<◌, arith, refl, ◌∙◌, ap, subst}
use Rattle.serial_driver.specs.Answers.{of_work}
use Rattle.serial_driver.specs.Drives.{DriveValue, LeavesDrive}
use Rattle.volume_copy.specs.Beside.{asked_copy}
use Rattle.serial_driver.proofs.WorkFacts.{work_session, work_halts, work_cause, work_driven, no_limit}
use Rattle.serial_driver.proofs.drive.Drive.work.Goals as goal

pub invariant_of-self : goal.invariant_of-self
invariant_of-self g c =
    let low : c.args.recorder < c.self.inside.session.core.config.recorders = omega (arith, c.requires, ap (λ (d : DriveValue g.row.S.Denot g.row.C.Denot). d.core.config.recorders) c.self.view_is) in
    work_driven g.S.Site (g.C.Choose.may c.self.inside.session.core.chooser) c.self.inside.session.core c.work_event.new.self.core c.look.ensures.kept c.args.recorder low c.work_event.result c.work_event.ensures.event c.self.inside.scripts.now c.self.inside.places.items c.self.invariant

pub returns-clause-leaves : goal.returns-clause-leaves
returns-clause-leaves g c =
    let low : c.args.recorder < c.self.inside.session.core.config.recorders = omega (arith, c.requires, ap (λ (d : DriveValue g.row.S.Denot g.row.C.Denot). d.core.config.recorders) c.self.view_is) in
    subst (λ (d : DriveValue g.row.S.Denot g.row.C.Denot). LeavesDrive g.S.Site d (record { core = c.work_event.new.self.core; copier = c.work_event.new.self.copier; scripts = c.self.inside.scripts.now }) (of_work c.work_event.result)) c.self.view_is
    (record {
      session = work_session g.S.Site (g.C.Choose.may c.self.inside.session.core.chooser) c.self.inside.session.core c.work_event.new.self.core c.look.ensures.kept c.args.recorder low c.work_event.result c.work_event.ensures.event;
      scripts_ = refl;
      copier_ = ap asked_copy c.work_event.ensures.copier;
      chooser_ = c.work_event.ensures.chooser;
      written = c.work_event.ensures.devices.written;
      later = c.work_event.ensures.devices.later;
      sound = c.work_event.ensures.devices.sound;
      halts = work_halts g.S.Site (g.C.Choose.may c.self.inside.session.core.chooser) c.self.inside.session.core c.work_event.new.self.core c.look.ensures.kept c.args.recorder low c.work_event.result c.work_event.ensures.event;
      cause = work_cause g.S.Site (g.C.Choose.may c.self.inside.session.core.chooser) c.self.inside.session.core c.work_event.new.self.core c.look.ensures.kept c.args.recorder low c.work_event.result c.work_event.ensures.event;
      only_reads_fail = λ but never none. c.work_event.ensures.only_reads_fail but never ∙ none;
      full = λ is. absurd (no_limit c.work_event.result is);
    })
