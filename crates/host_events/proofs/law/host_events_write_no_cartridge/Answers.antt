use Rattle.host_events.proofs.EventLeaves.{leaves_cartridges}
use Rattle.host_events.proofs.law.host_events_write_no_cartridge.Goals as goal

pub returns : goal.returns
returns g c = λ core h call told left kept event tell. leaves_cartridges g.S.Site.tells core kept h left tell call told event
