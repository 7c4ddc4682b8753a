use Rattle.quiet_events.proofs.OwnWork.{work_quiet}
use Rattle.quiet_events.proofs.law.own_work_gives_others_nothing.Goals as goal

pub returns : goal.returns
returns g c = λ chooser core recorder told left is event on. work_quiet g.S.Site.tells (g.C.Choose.may chooser) core recorder is left told on event
