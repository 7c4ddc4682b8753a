use Rattle.host_events.proofs.EventLeaves.{enters}
use Rattle.host_events.proofs.law.events_add_one_entry_at_most.Goals as goal

pub returns : goal.returns
returns g c = λ core h call told left kept event. enters g.S.Site.tells core kept h left call told event
