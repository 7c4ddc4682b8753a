use Rattle.host_events.proofs.EventLeaves.{leaves_others, leaves_machine}
use Rattle.host_events.proofs.law.events_leave_the_rest.Goals as goal

pub returns-clause-others : goal.returns-clause-others
returns-clause-others g c = λ core h call told left low once event. leaves_others g.S.Site.tells core h call told left low once event

pub returns-clause-machine : goal.returns-clause-machine
returns-clause-machine g c = λ core h call told left event. leaves_machine g.S.Site.tells core h left call told event
