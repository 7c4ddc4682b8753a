use Rattle.core_restart.proofs.TakenUp.{both_keep}
use Rattle.plain_sessions.proofs.PlainFacts.{opening_is, plain_at, stops_at}
use Rattle.plain_sessions.proofs.law.sessions_are_plain.Goals as goal

pub returns-clause-begins : goal.returns-clause-begins
returns-clause-begins g c = λ config was began left t over later told. opening_is config was began over g.S.Site.tells t left later told

pub returns-clause-plain : goal.returns-clause-plain
returns-clause-plain g c = λ config was began left t over later told. plain_at config was began over g.S.Site.tells t left later told

pub returns-clause-stops : goal.returns-clause-stops
returns-clause-stops g c = λ config was began left t over later told.
    stops_at config was began over g.S.Site.tells t left later told
    (both_keep c.only_the_track_under_a_write_changes.ensures.serials c.hosts_know_their_marks.ensures.marks) c.first_fault_is_of_unsound_content.ensures
