use Rattle.core_progress.proofs.HostLeaves.{owners_call}
use Rattle.core_progress.proofs.law.unreplied_calls_leave_the_owners.Goals as goal

pub returns : goal.returns
returns g c = λ core h call told left calls kept event unreplied its owners. owners_call g.S.Site.tells core left kept h call told event unreplied calls its owners
