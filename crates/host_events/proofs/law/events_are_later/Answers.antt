use Rattle.host_events.proofs.EventLeaves.{keeps_beginning, leaves_cartridges}
use Rattle.host_events.proofs.law.events_are_later.Goals as goal

pub returns : goal.returns
returns g c = λ core h call told left kept event. record {
  beginning = keeps_beginning g.S.Site.tells core h left call told event;
  grown = λ t. let writes = leaves_cartridges g.S.Site.tells core kept h left t call told event in (writes.items, writes.grown);
}
