use Rattle.host_events.proofs.NotedEvents.{notes}
use Rattle.host_events.proofs.law.events_are_those_that_change.Goals as goal

pub returns : goal.returns
returns g c = λ core h call told left kept event. notes g.S.Site.tells core kept h left call told event
