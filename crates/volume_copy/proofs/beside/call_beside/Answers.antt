use Rattle.std.proofs.Common.{sym, subst}
use Rattle.channel_commands.specs.Views.{call_of}
use Rattle.core_state.specs.CoreValue.{CoreValue, seen_core}
use Rattle.core_state.specs.Pins.{host_at}
use Rattle.core_state.proofs.Moved.{whole_seen}
use Rattle.host_events.specs.Answers.{told_of}
use Rattle.volume_copy.specs.Steps.{Guards}
use Rattle.volume_copy.proofs.FaultFacts.{host_faults}
use Rattle.volume_copy.proofs.BesideFacts.{event_beside, event_unread}
use Rattle.volume_copy.proofs.beside.call_beside.Goals as goal

pub returns-in-Err-clause-event : goal.returns-in-Err-clause-event
returns-in-Err-clause-event g c = event_unread g.S.Site c.args.core.now c.guard.new.core c.guard.new.core _ _ _ c.in-Err.ensures.memory.1 (c.refused.ensures.event c.args.host (call_of c.args.call.now))

pub returns-clause-stands : goal.returns-clause-stands
returns-clause-stands g c =
    event_beside g.S.Site c.args.core.now c.guard.new.core c.host_event-told.new.core c.args.copier.now c.guard.new.copier c.note.new.self c.guard.ensures.keeps
    (c.host_events_leave_copies.ensures c.guard.new.copier (seen_core g.S.Site c.guard.new.core) c.args.host (call_of c.args.call.now) (told_of c.host_event-told.result) (seen_core g.S.Site c.host_event-told.new.core)
    c.state-state.ensures.kept (whole_seen g.S.Site c.guard.new.core c.look.ensures.whole) (subst (λ (v : CoreValue g.row.S.Denot g.row.C.Denot). Guards c.guard.new.copier (host_at v.hosts c.args.host) (call_of c.args.call.now)) (sym c.guard.ensures.core.core) c.in-Ok.ensures.guards)
    c.host_event-told.ensures.event)
    (host_faults g.S.Site.tells (seen_core g.S.Site c.guard.new.core) (whole_seen g.S.Site c.guard.new.core c.look.ensures.whole).kept c.args.host (seen_core g.S.Site c.host_event-told.new.core) (call_of c.args.call.now) (told_of c.host_event-told.result) c.host_event-told.ensures.event)
    (c.events_are_later.ensures (seen_core g.S.Site c.guard.new.core) c.args.host (call_of c.args.call.now) (told_of c.host_event-told.result) (seen_core g.S.Site c.host_event-told.new.core)
    (whole_seen g.S.Site c.guard.new.core c.look.ensures.whole).kept c.host_event-told.ensures.event).beginning.first_faults
    c.host_event-told.ensures.devices.later c.note.ensures.failed c.note.ensures.stands c.note.ensures.time
