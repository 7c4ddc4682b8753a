use Rattle.core_progress.proofs.RunStays.{leaves_run}
use Rattle.core_progress.proofs.SettleFalls.{settle_falls}
use Rattle.core_progress.proofs.law.work_leaves_the_run.Goals as goal

pub returns : goal.returns
returns g c = λ core recorder chooser what left kept event.
    let keeps = (settle_falls g.S.Site.tells (g.C.Choose.may chooser) core left recorder what kept event).1 in
    leaves_run core left keeps.asks keeps.marks_
