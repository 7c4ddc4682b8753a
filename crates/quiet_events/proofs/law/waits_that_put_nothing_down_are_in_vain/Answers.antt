use Rattle.quiet_events.proofs.HostsAnswered.{vain}
use Rattle.quiet_events.proofs.law.waits_that_put_nothing_down_are_in_vain.Goals as goal

pub returns : goal.returns
returns g c = λ core h call why left event same. vain g.S.Site.tells core h left call same why event
