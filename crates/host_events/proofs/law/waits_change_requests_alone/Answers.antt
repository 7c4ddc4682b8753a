use Rattle.host_events.proofs.Waits.{waits_alone, memory_alone}
use Rattle.host_events.proofs.law.waits_change_requests_alone.Goals as goal

pub returns-clause-waits : goal.returns-clause-waits
returns-clause-waits g c = λ core h call w left kept event. waits_alone g.S.Site.tells core kept h left call w event

pub returns-clause-memory : goal.returns-clause-memory
returns-clause-memory g c = λ core h call left event. memory_alone g.S.Site.tells core h left call event
