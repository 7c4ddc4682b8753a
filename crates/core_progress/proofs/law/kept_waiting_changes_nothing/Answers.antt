use Rattle.core_progress.proofs.KeptWaiting.{kept_same}
use Rattle.core_progress.proofs.law.kept_waiting_changes_nothing.Goals as goal

pub returns : goal.returns
returns g c = λ core h call told left kept event waits. kept_same g.S.Site.tells core left h call kept.on_mounted told event waits
