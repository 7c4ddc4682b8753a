use Rattle.std.proofs.Common.{[], List, sym, subst}
use Rattle.core_state.specs.CoreValue.{CoreValue}
use Rattle.job_text.specs.Jobs.{ScriptData, JobData}
use Rattle.serial_driver.specs.Drives.{AllStand, IsDriven, IsUnused}
use Rattle.serial_driver.proofs.DriveBegins.{begun_driven}
use Rattle.serial_driver.proofs.drive.Drive.new.Goals as goal

pub invariant_of-result : goal.invariant_of-result
invariant_of-result g c =
    subst (λ (v : CoreValue g.row.S.Denot g.row.C.Denot). IsDriven v c.as_slice-scripts.result.now c.in-Ok.places.items) (sym c.new.ensures.core)
    (subst (λ (l : List ScriptData). IsDriven c.args.core l c.in-Ok.places.items) (sym c.as_slice-scripts.ensures)
    (begun_driven c.args.core _ c.in-Ok.places.items (subst (λ (j : JobData). IsUnused c.args.core j) (sym c.job.view_is) c.requires.unused) c.job.invariant
    (subst (λ (l : List ScriptData). AllStand [] l c.in-Ok.places.items) c.as_slice-scripts.ensures c.in-Ok.ensures)))
