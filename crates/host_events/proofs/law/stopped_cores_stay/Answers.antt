use Rattle.host_events.proofs.Stopped.{keeps_fault, stays_stopped}
use Rattle.host_events.proofs.law.stopped_cores_stay.Goals as goal

pub returns-clause-stops : goal.returns-clause-stops
returns-clause-stops g c = λ core h call fault left kept event. keeps_fault g.S.Site.tells core kept h left call fault event

pub returns-clause-stays : goal.returns-clause-stays
returns-clause-stays g c = λ core fault chooser steps left is chain. stays_stopped g.S.Site.tells (g.C.Choose.may chooser) fault steps core left is chain
