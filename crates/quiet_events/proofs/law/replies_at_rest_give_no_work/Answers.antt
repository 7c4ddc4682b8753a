use Rattle.quiet_events.proofs.HostsAnswered.{reply_quiet}
use Rattle.quiet_events.proofs.law.replies_at_rest_give_no_work.Goals as goal

pub returns : goal.returns
returns g c = λ core h call told left event rest recorder. reply_quiet g.S.Site.tells core h left recorder call told event rest
