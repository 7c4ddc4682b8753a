use Rattle.core_restart.proofs.TakenUp.{session_begun, session_later}
use Rattle.core_restart.proofs.law.sessions_keep_their_volumes.Goals as goal

pub returns-clause-begun : goal.returns-clause-begun
returns-clause-begun g c = λ config volumes site core is same told. session_begun config volumes site core is same told

pub returns-clause-later : goal.returns-clause-later
returns-clause-later g c = λ old new core left session later told. session_later old new core left session later told
