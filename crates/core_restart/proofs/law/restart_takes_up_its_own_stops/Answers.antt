use Rattle.core_restart.proofs.Started.{stops_start}
use Rattle.core_restart.proofs.TakenUp.{leaves_front, restart_taken}
use Rattle.core_restart.proofs.law.restart_takes_up_its_own_stops.Goals as goal

pub returns-clause-leaves : goal.returns-clause-leaves
returns-clause-leaves g c = λ config old new answer is stop. leaves_front c.first_fault_is_of_unsound_content.ensures config old new answer is stop

pub returns-clause-restart : goal.returns-clause-restart
returns-clause-restart g c = λ config old new answer is stop again left then over. restart_taken c.first_fault_is_of_unsound_content.ensures config old new answer is stop again left then over

pub returns-clause-start : goal.returns-clause-start
returns-clause-start g c = λ config old new answer is. stops_start c.first_fault_is_of_unsound_content.ensures config old new answer is
