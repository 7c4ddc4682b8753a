use Rattle.std.proofs.Common.{subst}
use Rattle.std.specs.Prelude.{is_some}
use Rattle.core_state.specs.CoreValue.{CoreData, CoreValue, seen_core}
use Rattle.core_state.specs.HostEvents.{HostEvent}
use Rattle.host_events.specs.Answers.{told_of}
use Rattle.volume_copy.specs.Beside.{asked_copy}
use Rattle.serial_driver.proofs.ReadFacts.{unread}
use Rattle.serial_driver.proofs.host.refuse.Goals as goal

pub returns-clause-event : goal.returns-clause-event
returns-clause-event g c = λ h call. (
  told_of c.refused.result,
  unread g.S.Site.tells (seen_core g.S.Site c.args.session.now.core) (is_some (asked_copy c.args.session.now.copier))
      (λ (read : CoreData). HostEvent g.S.Site.tells read h call (told_of c.refused.result) (seen_core g.S.Site c.args.session.now.core))
      (subst (λ (v : CoreValue g.row.S.Denot g.row.C.Denot). HostEvent g.S.Site.tells (seen_core g.S.Site v) h call (told_of c.refused.result) (seen_core g.S.Site v)) c.core.ensures (c.refused.ensures.event h call)),
  c.answer_of.ensures,
)
