use Rattle.core_restart.proofs.TakenUp.{both_keep, leaves_all, session_taken}
use Rattle.core_restart.proofs.law.restart_takes_up_every_stop.Goals as goal

pub returns-clause-leaves : goal.returns-clause-leaves
returns-clause-leaves g c = λ site core session stop. leaves_all (both_keep c.only_the_track_under_a_write_changes.ensures.serials c.hosts_know_their_marks.ensures.marks) c.first_fault_is_of_unsound_content.ensures site core session stop

pub returns-clause-restart : goal.returns-clause-restart
returns-clause-restart g c = λ site core session stop old new answer over. session_taken (both_keep c.only_the_track_under_a_write_changes.ensures.serials c.hosts_know_their_marks.ensures.marks) c.first_fault_is_of_unsound_content.ensures site core session stop old new answer over
