use Rattle.std.proofs.Common.{◌≡◌, ◌≤◌, length, refl, sym, ◌∙◌, ap, subst, arith}
use Rattle.std.specs.Prelude.{is_err}
use Rattle.table_pair.specs.declared.change.TheConstants.{CHANGE_ITEMS}
use Rattle.core_state.specs.declared.rule.WorkAnswer.TheVariants.{Stopped}
use Rattle.core_state.specs.CoreValue.{CoreValue}
use Rattle.core_state.specs.SessionData.{SessionData, with_last_event}
use Rattle.core_state.specs.declared.session.Event.TheVariants.{Work}
use Rattle.work_events.specs.declared.ending.TheConstants.{END_ITEMS}
use Rattle.work_events.specs.Leaving.{TaskParts}
use Rattle.work_events.proofs.KeptFacts.{kept_at}
use Rattle.work_events.proofs.RowSteps.{has_room, kept_as, kept_room, row_changed, row_failed, row_held, row_stopped, row_there, slots_counted, stopped_is}
use Rattle.work_events.proofs.RoomFacts.{its_place, its_request, one_of, room_behind, room_going, room_same, room_spares, room_writes, same_fails_none, when_err, when_ok, works_always, writes_then}
use Rattle.work_events.proofs.RuleFacts.{MayEnd, rule_ends}
use Rattle.work_events.proofs.EndSteps.{is_synced, kept_unsynced, loose_since, unsynced_does}
use Rattle.work_events.proofs.EndWhole.{due_end, end_does, end_stops, kept_end, left_fails_none}
use Rattle.work_events.proofs.FailedSteps.{failed_is}
use Rattle.work_events.proofs.ending.end.Goals as goal

pub task_and_request-requires : goal.task_and_request-requires
task_and_request-requires g c =
    let now = c.args.core.now in
    let kept = kept_at g.S.Site _ now c.core.view_is c.core.invariant in
    let says = rule_ends now c.args.recorder c.requires.fits kept.whole.kept c.args.transfer c.requires.rule in
    (says.task, says.request, says.serves)

pub invariant_of-core : goal.invariant_of-core
invariant_of-core g c =
    let now = c.args.core.now in
    kept_room g.S.Site (has_room g.S.Site now c.core.view_is c.core.invariant c.make_room.new.site _ c.make_room.ensures.session c.make_room.ensures.site)

-- ---- the sync fails

pub end_failed-requires-clause-frame : goal.end_failed-requires-clause-frame
end_failed-requires-clause-frame g c =
    let now = c.args.core.now in
    let has = has_room g.S.Site now c.core.view_is c.core.invariant c.make_room.new.site _ c.make_room.ensures.session c.make_room.ensures.site in
    let says = rule_ends now c.args.recorder c.requires.fits has.kept.whole.kept c.args.transfer c.requires.rule in
    let its = (has.kept.whole.kept says.going).tasks_.each c.args.recorder c.task_and_request.result.0 c.task_and_request.ensures.serves.at in
    let size : length c.core.inside.frames.owners ≡ now.config.frames = ap (λ (z : CoreValue g.row.S.Denot g.row.C.Denot). length z.owners) has.is ∙ has.kept.whole.shaped.owners_ in
    let fits = its.low in
    omega (arith, size, fits)

pub invariant_of-core-then-is_err-2 : goal.invariant_of-core-then-is_err-2
invariant_of-core-then-is_err-2 g c =
    let now = c.args.core.now in
    let has = has_room g.S.Site now c.core.view_is c.core.invariant c.make_room.new.site _ c.make_room.ensures.session c.make_room.ensures.site in
    let says = rule_ends now c.args.recorder c.requires.fits has.kept.whole.kept c.args.transfer c.requires.rule in
    let task = c.task_and_request.result.0 in
    let y = c.sync_copies.new.site in
    let loose = when_err c.sync_copies.result (sym c.is_err-2.ensures.value ∙ c.if-is_err-2.true) c.sync_copies.ensures.loose in
    let path = failed_is g.S.Site has y c.args.recorder task c.end_failed.ensures.frames c.faults-fault.ensures c.end_failed.ensures.requests c.end_failed.ensures.tasks c.end_failed.ensures.told in
    kept_as g.S.Site y _ _
    (kept_unsynced g.S.Site has says.going c.args.transfer y loose c.sync_copies.ensures.devices c.args.recorder task c.task_and_request.result.1 c.task_and_request.ensures.serves)
    path

pub returns-then-is_err-2-clause-event : goal.returns-then-is_err-2-clause-event
returns-then-is_err-2-clause-event g c =
    let now = c.args.core.now in
    let has = has_room g.S.Site now c.core.view_is c.core.invariant c.make_room.new.site _ c.make_room.ensures.session c.make_room.ensures.site in
    let says = rule_ends now c.args.recorder c.requires.fits has.kept.whole.kept c.args.transfer c.requires.rule in
    let task = c.task_and_request.result.0 in
    let y = c.sync_copies.new.site in
    let loose = when_err c.sync_copies.result (sym c.is_err-2.ensures.value ∙ c.if-is_err-2.true) c.sync_copies.ensures.loose in
    let path = failed_is g.S.Site has y c.args.recorder task c.end_failed.ensures.frames c.faults-fault.ensures c.end_failed.ensures.requests c.end_failed.ensures.tasks c.end_failed.ensures.told in
    unsynced_does g.S.Site (g.C.Choose.may now.chooser) now _ c.args.recorder task c.args.transfer c.end_failed.result c.end_failed.ensures.answer c.task_and_request.ensures.serves.at (loose_since g.S.Site has says.going c.args.transfer y loose) path

-- ---- it is done

pub write_change-requires-clause-there : goal.write_change-requires-clause-there
write_change-requires-clause-there g c =
    let now = c.args.core.now in
    let has = has_room g.S.Site now c.core.view_is c.core.invariant c.make_room.new.site _ c.make_room.ensures.session c.make_room.ensures.site in
    let says = rule_ends now c.args.recorder c.requires.fits has.kept.whole.kept c.args.transfer c.requires.rule in
    let task = c.task_and_request.result.0 in
    let y = c.sync_copies.new.site in
    let behind = is_synced g.S.Site has says.going c.args.recorder task c.task_and_request.result.1 c.task_and_request.ensures.serves c.args.transfer y c.sync_copies.result (sym c.is_err-2.ensures.value ∙ c.if-is_err-2.false) c.sync_copies.ensures.firm in
    let may : MayEnd now c.args.transfer.kind task c.args.transfer = says.may task c.task_and_request.result.1 c.task_and_request.ensures.serves in
    row_there g.S.Site behind.has c.args.transfer.volume c.change_of-change.result (due_end g.S.Site y c.args.recorder task c.task_and_request.result.1 c.args.transfer behind says.going may c.change_of-change.result c.change_of-change.ensures) says.going

pub write_change-requires-clause-places : goal.write_change-requires-clause-places
write_change-requires-clause-places g c =
    let now = c.args.core.now in
    slots_counted g.S.Site (has_room g.S.Site now c.core.view_is c.core.invariant c.make_room.new.site _ c.make_room.ensures.session c.make_room.ensures.site)

pub write_change-requires-clause-held : goal.write_change-requires-clause-held
write_change-requires-clause-held g c =
    let now = c.args.core.now in
    let has = has_room g.S.Site now c.core.view_is c.core.invariant c.make_room.new.site _ c.make_room.ensures.session c.make_room.ensures.site in
    let says = rule_ends now c.args.recorder c.requires.fits has.kept.whole.kept c.args.transfer c.requires.rule in
    let task = c.task_and_request.result.0 in
    let y = c.sync_copies.new.site in
    let behind = is_synced g.S.Site has says.going c.args.recorder task c.task_and_request.result.1 c.task_and_request.ensures.serves c.args.transfer y c.sync_copies.result (sym c.is_err-2.ensures.value ∙ c.if-is_err-2.false) c.sync_copies.ensures.firm in
    let may : MayEnd now c.args.transfer.kind task c.args.transfer = says.may task c.task_and_request.result.1 c.task_and_request.ensures.serves in
    row_held g.S.Site behind.has c.args.transfer.volume c.change_of-change.result (due_end g.S.Site y c.args.recorder task c.task_and_request.result.1 c.args.transfer behind says.going may c.change_of-change.result c.change_of-change.ensures) says.going

pub leave_task-requires-clause-frame : goal.leave_task-requires-clause-frame
leave_task-requires-clause-frame g c =
    let now = c.args.core.now in
    let has = has_room g.S.Site now c.core.view_is c.core.invariant c.make_room.new.site _ c.make_room.ensures.session c.make_room.ensures.site in
    let says = rule_ends now c.args.recorder c.requires.fits has.kept.whole.kept c.args.transfer c.requires.rule in
    let its = (has.kept.whole.kept says.going).tasks_.each c.args.recorder c.task_and_request.result.0 c.task_and_request.ensures.serves.at in
    let size : length c.core.inside.frames.owners ≡ now.config.frames = ap (λ (z : CoreValue g.row.S.Denot g.row.C.Denot). length z.owners) has.is ∙ has.kept.whole.shaped.owners_ in
    let fits = its.low in
    omega (arith, size, fits)

pub invariant_of-core-in-Ok : goal.invariant_of-core-in-Ok
invariant_of-core-in-Ok g c =
    let now = c.args.core.now in
    let has = has_room g.S.Site now c.core.view_is c.core.invariant c.make_room.new.site _ c.make_room.ensures.session c.make_room.ensures.site in
    let says = rule_ends now c.args.recorder c.requires.fits has.kept.whole.kept c.args.transfer c.requires.rule in
    let task = c.task_and_request.result.0 in
    let y = c.sync_copies.new.site in
    let behind = is_synced g.S.Site has says.going c.args.recorder task c.task_and_request.result.1 c.task_and_request.ensures.serves c.args.transfer y c.sync_copies.result (sym c.is_err-2.ensures.value ∙ c.if-is_err-2.false) c.sync_copies.ensures.firm in
    let may : MayEnd now c.args.transfer.kind task c.args.transfer = says.may task c.task_and_request.result.1 c.task_and_request.ensures.serves in
    let x = c.write_change.new.site in
    let changes = row_changed g.S.Site behind.has c.args.transfer.volume c.change_of-change.result x c.write_change.ensures.rows c.write_change.ensures.site_.devices _ c.in-Ok.ensures.copies _ refl c.in-Ok.ensures.used.done c.in-Ok.ensures.session.told (g.met.S.Site.counted x) c.in-Ok.ensures.site_.cause.same in
    let parts : TaskParts = record { frames = c.leave_task.new.frames; requests = c.leave_task.new.requests; tasks = c.leave_task.new.tasks.items } in
    kept_end g.S.Site y c.args.recorder task c.task_and_request.result.1 c.args.transfer behind says.going may c.change_of-change.result c.change_of-change.ensures x changes parts c.leave_task.ensures c.tell_work.ensures.told

pub returns-in-Ok-clause-event : goal.returns-in-Ok-clause-event
returns-in-Ok-clause-event g c =
    let now = c.args.core.now in
    let has = has_room g.S.Site now c.core.view_is c.core.invariant c.make_room.new.site _ c.make_room.ensures.session c.make_room.ensures.site in
    let says = rule_ends now c.args.recorder c.requires.fits has.kept.whole.kept c.args.transfer c.requires.rule in
    let task = c.task_and_request.result.0 in
    let y = c.sync_copies.new.site in
    let behind = is_synced g.S.Site has says.going c.args.recorder task c.task_and_request.result.1 c.task_and_request.ensures.serves c.args.transfer y c.sync_copies.result (sym c.is_err-2.ensures.value ∙ c.if-is_err-2.false) c.sync_copies.ensures.firm in
    let may : MayEnd now c.args.transfer.kind task c.args.transfer = says.may task c.task_and_request.result.1 c.task_and_request.ensures.serves in
    let x = c.write_change.new.site in
    let changes = row_changed g.S.Site behind.has c.args.transfer.volume c.change_of-change.result x c.write_change.ensures.rows c.write_change.ensures.site_.devices _ c.in-Ok.ensures.copies _ refl c.in-Ok.ensures.used.done c.in-Ok.ensures.session.told (g.met.S.Site.counted x) c.in-Ok.ensures.site_.cause.same in
    let parts : TaskParts = record { frames = c.leave_task.new.frames; requests = c.leave_task.new.requests; tasks = c.leave_task.new.tasks.items } in
    end_does g.S.Site y c.args.recorder task c.task_and_request.result.1 c.args.transfer behind says.going may c.change_of-change.result c.change_of-change.ensures x changes parts c.leave_task.ensures c.tell_work.ensures.told (g.C.Choose.may now.chooser) c.tell_work.result c.tell_work.ensures.answer

pub returns-in-Ok-clause-none_fails : goal.returns-in-Ok-clause-none_fails
returns-in-Ok-clause-none_fails g c =
    let now = c.args.core.now in
    let has = has_room g.S.Site now c.core.view_is c.core.invariant c.make_room.new.site _ c.make_room.ensures.session c.make_room.ensures.site in
    let says = rule_ends now c.args.recorder c.requires.fits has.kept.whole.kept c.args.transfer c.requires.rule in
    let task = c.task_and_request.result.0 in
    let parts : TaskParts = record { frames = c.leave_task.new.frames; requests = c.leave_task.new.requests; tasks = c.leave_task.new.tasks.items } in
    λ but never. left_fails_none g.S.Site has says.going c.args.recorder task c.args.transfer.kind parts c.leave_task.ensures

-- ---- the row isn't written

pub invariant_of-core-in-Err : goal.invariant_of-core-in-Err
invariant_of-core-in-Err g c =
    let now = c.args.core.now in
    let has = has_room g.S.Site now c.core.view_is c.core.invariant c.make_room.new.site _ c.make_room.ensures.session c.make_room.ensures.site in
    let says = rule_ends now c.args.recorder c.requires.fits has.kept.whole.kept c.args.transfer c.requires.rule in
    let task = c.task_and_request.result.0 in
    let y = c.sync_copies.new.site in
    let behind = is_synced g.S.Site has says.going c.args.recorder task c.task_and_request.result.1 c.task_and_request.ensures.serves c.args.transfer y c.sync_copies.result (sym c.is_err-2.ensures.value ∙ c.if-is_err-2.false) c.sync_copies.ensures.firm in
    let may : MayEnd now c.args.transfer.kind task c.args.transfer = says.may task c.task_and_request.result.1 c.task_and_request.ensures.serves in
    row_stopped g.S.Site behind.has c.args.transfer.volume c.change_of-change.result c.write_change.new.site c.write_change.ensures.rows c.write_change.ensures.site_.devices _ c.in-Err.ensures.copies (due_end g.S.Site y c.args.recorder task c.task_and_request.result.1 c.args.transfer behind says.going may c.change_of-change.result c.change_of-change.ensures) says.going c.args.recorder c.in-Err.ensures.site_.cause.failed c.in-Err.ensures.used.failed c.in-Err.ensures.session.stopped c.tell_stop.ensures.told

pub returns-in-Err-clause-event : goal.returns-in-Err-clause-event
returns-in-Err-clause-event g c =
    let now = c.args.core.now in
    let has = has_room g.S.Site now c.core.view_is c.core.invariant c.make_room.new.site _ c.make_room.ensures.session c.make_room.ensures.site in
    let says = rule_ends now c.args.recorder c.requires.fits has.kept.whole.kept c.args.transfer c.requires.rule in
    let task = c.task_and_request.result.0 in
    let y = c.sync_copies.new.site in
    let behind = is_synced g.S.Site has says.going c.args.recorder task c.task_and_request.result.1 c.task_and_request.ensures.serves c.args.transfer y c.sync_copies.result (sym c.is_err-2.ensures.value ∙ c.if-is_err-2.false) c.sync_copies.ensures.firm in
    let may : MayEnd now c.args.transfer.kind task c.args.transfer = says.may task c.task_and_request.result.1 c.task_and_request.ensures.serves in
    let x = c.write_change.new.site in
    let fails = row_failed g.S.Site behind.has c.args.transfer.volume c.change_of-change.result x c.write_change.ensures.rows c.write_change.ensures.site_.devices _ c.in-Err.ensures.copies c.in-Err.ensures.site_.counted c.in-Err.ensures.site_.cause.failed in
    let path = stopped_is g.S.Site behind.has c.args.transfer.volume c.change_of-change.result x c.write_change.ensures.rows c.write_change.ensures.site_.devices _ c.in-Err.ensures.copies c.args.recorder c.in-Err.ensures.used.failed c.in-Err.ensures.session.stopped c.tell_stop.ensures.told in
    end_stops g.S.Site y c.args.recorder task c.task_and_request.result.1 c.args.transfer behind says.going may c.change_of-change.result c.change_of-change.ensures (g.C.Choose.may now.chooser) _ c.tell_stop.result (c.tell_stop.ensures.answer ∙ ap Stopped c.faults.ensures) fails path

-- ---- there is room, and the recorder and its host have their places

pub end_failed-requires-clause-asked : goal.end_failed-requires-clause-asked
end_failed-requires-clause-asked g c = its_request c.task_and_request.result.0.host c.task_and_request.result.1 c.core.view_is c.task_and_request.ensures.serves.asked

pub end_failed-requires-clause-fits : goal.end_failed-requires-clause-fits
end_failed-requires-clause-fits g c = its_place g.S.Site c.args.recorder c.core.view_is c.core.invariant c.requires.fits

pub end_failed-requires-clause-room : goal.end_failed-requires-clause-room
end_failed-requires-clause-room g c = when_ok c.make_room.result (sym c.is_err.ensures.value ∙ c.if-is_err.false) c.make_room.ensures.room_events

pub sync_copies-requires : goal.sync_copies-requires
sync_copies-requires g c =
    let room = when_ok c.make_room.result (sym c.is_err.ensures.value ∙ c.if-is_err.false) c.make_room.ensures.room_site in
    record { room = one_of room (omega arith) }

pub write_change-requires-clause-room : goal.write_change-requires-clause-room
write_change-requires-clause-room g c =
    room_behind g.S.Site CHANGE_ITEMS (when_ok c.make_room.result (sym c.is_err.ensures.value ∙ c.if-is_err.false) c.make_room.ensures.room_site) c.sync_copies.ensures.devices

pub write_change-requires-clause-room_console : goal.write_change-requires-clause-room_console
write_change-requires-clause-room_console g c = when_ok c.make_room.result (sym c.is_err.ensures.value ∙ c.if-is_err.false) c.make_room.ensures.room_console

pub leave_task-requires-clause-asked : goal.leave_task-requires-clause-asked
leave_task-requires-clause-asked g c = its_request c.task_and_request.result.0.host c.task_and_request.result.1 c.core.view_is c.task_and_request.ensures.serves.asked

pub leave_task-requires-clause-fits : goal.leave_task-requires-clause-fits
leave_task-requires-clause-fits g c = its_place g.S.Site c.args.recorder c.core.view_is c.core.invariant c.requires.fits

pub tell_work-requires : goal.tell_work-requires
tell_work-requires g c =
    subst (λ (e : _). 1 ≤ e.spare) (sym c.write_change.ensures.session.events_)
    (when_ok c.make_room.result (sym c.is_err.ensures.value ∙ c.if-is_err.false) c.make_room.ensures.room_events)

pub tell_stop-requires : goal.tell_stop-requires
tell_stop-requires g c =
    subst (λ (e : _). 1 ≤ e.spare) (sym c.write_change.ensures.session.events_)
    (when_ok c.make_room.result (sym c.is_err.ensures.value ∙ c.if-is_err.false) c.make_room.ensures.room_events)

-- ---- what it leaves of the site, that it goes on where no write fails, and that then no request fails

pub returns-then-is_err-clause-event : goal.returns-then-is_err-clause-event
returns-then-is_err-clause-event g c =
    let has = has_room g.S.Site c.args.core.now c.core.view_is c.core.invariant c.make_room.new.site _ c.make_room.ensures.session c.make_room.ensures.site in
    room_same g.S.Site has

pub returns-then-is_err-clause-devices : goal.returns-then-is_err-clause-devices
returns-then-is_err-clause-devices g c =
    let has = has_room g.S.Site c.args.core.now c.core.view_is c.core.invariant c.make_room.new.site _ c.make_room.ensures.session c.make_room.ensures.site in
    room_spares g.S.Site has END_ITEMS

pub returns-then-is_err-clause-works : goal.returns-then-is_err-clause-works
returns-then-is_err-clause-works g c =
    let has = has_room g.S.Site c.args.core.now c.core.view_is c.core.invariant c.make_room.new.site _ c.make_room.ensures.session c.make_room.ensures.site in
    λ but never. room_going g.S.Site has

pub returns-then-is_err-clause-none_fails : goal.returns-then-is_err-clause-none_fails
returns-then-is_err-clause-none_fails g c =
    λ but never. same_fails_none c.core.view_is

pub returns-then-is_err-2-clause-devices : goal.returns-then-is_err-2-clause-devices
returns-then-is_err-2-clause-devices g c =
    let has = has_room g.S.Site c.args.core.now c.core.view_is c.core.invariant c.make_room.new.site _ c.make_room.ensures.session c.make_room.ensures.site in
    room_writes g.S.Site has END_ITEMS c.sync_copies.ensures.devices (omega arith)

pub returns-then-is_err-2-clause-works : goal.returns-then-is_err-2-clause-works
returns-then-is_err-2-clause-works g c =
    let has = has_room g.S.Site c.args.core.now c.core.view_is c.core.invariant c.make_room.new.site _ c.make_room.ensures.session c.make_room.ensures.site in
    λ but never. works_always c.sync_copies.result (c.sync_copies.ensures.works but (has.reserves.sound but never)) (sym c.is_err-2.ensures.value ∙ c.if-is_err-2.true)

pub returns-then-is_err-2-clause-none_fails : goal.returns-then-is_err-2-clause-none_fails
returns-then-is_err-2-clause-none_fails g c =
    let has = has_room g.S.Site c.args.core.now c.core.view_is c.core.invariant c.make_room.new.site _ c.make_room.ensures.session c.make_room.ensures.site in
    λ but never. works_always c.sync_copies.result (c.sync_copies.ensures.works but (has.reserves.sound but never)) (sym c.is_err-2.ensures.value ∙ c.if-is_err-2.true)

pub returns-in-Ok-clause-devices : goal.returns-in-Ok-clause-devices
returns-in-Ok-clause-devices g c =
    let has = has_room g.S.Site c.args.core.now c.core.view_is c.core.invariant c.make_room.new.site _ c.make_room.ensures.session c.make_room.ensures.site in
    room_writes g.S.Site has END_ITEMS (writes_then g.S.Site 1 CHANGE_ITEMS c.sync_copies.ensures.devices c.write_change.ensures.site_.devices) (omega arith)

pub returns-in-Ok-clause-works : goal.returns-in-Ok-clause-works
returns-in-Ok-clause-works g c =
    let has = has_room g.S.Site c.args.core.now c.core.view_is c.core.invariant c.make_room.new.site _ c.make_room.ensures.session c.make_room.ensures.site in
    λ but never. ap (λ (d : SessionData). d.stopped) (c.tell_work.ensures.told ∙ ap (with_last_event (Work c.args.recorder)) c.in-Ok.ensures.session.told) ∙ room_going g.S.Site has

pub returns-in-Err-clause-devices : goal.returns-in-Err-clause-devices
returns-in-Err-clause-devices g c =
    let has = has_room g.S.Site c.args.core.now c.core.view_is c.core.invariant c.make_room.new.site _ c.make_room.ensures.session c.make_room.ensures.site in
    room_writes g.S.Site has END_ITEMS (writes_then g.S.Site 1 CHANGE_ITEMS c.sync_copies.ensures.devices c.write_change.ensures.site_.devices) (omega arith)

pub returns-in-Err-clause-works : goal.returns-in-Err-clause-works
returns-in-Err-clause-works g c =
    let has = has_room g.S.Site c.args.core.now c.core.view_is c.core.invariant c.make_room.new.site _ c.make_room.ensures.session c.make_room.ensures.site in
    λ but never. works_always c.write_change.result (c.write_change.ensures.site_.works but (c.sync_copies.ensures.devices.sound but (has.reserves.sound but never))) (ap is_err c.in-Err.is)

pub returns-in-Err-clause-none_fails : goal.returns-in-Err-clause-none_fails
returns-in-Err-clause-none_fails g c =
    λ but never. same_fails_none c.core.view_is

-- ---- its chooser stays

pub returns-then-is_err-clause-chooser : goal.returns-then-is_err-clause-chooser
returns-then-is_err-clause-chooser g c = ap (λ (z : CoreValue g.row.S.Denot g.row.C.Denot). z.chooser) c.core.view_is

pub returns-then-is_err-2-clause-chooser : goal.returns-then-is_err-2-clause-chooser
returns-then-is_err-2-clause-chooser g c = ap (λ (z : CoreValue g.row.S.Denot g.row.C.Denot). z.chooser) c.core.view_is

pub returns-in-Ok-clause-chooser : goal.returns-in-Ok-clause-chooser
returns-in-Ok-clause-chooser g c = ap (λ (z : CoreValue g.row.S.Denot g.row.C.Denot). z.chooser) c.core.view_is

pub returns-in-Err-clause-chooser : goal.returns-in-Err-clause-chooser
returns-in-Err-clause-chooser g c = ap (λ (z : CoreValue g.row.S.Denot g.row.C.Denot). z.chooser) c.core.view_is

-- ---- where memory was wanting the room isn't less

pub returns-then-is_err-clause-room : goal.returns-then-is_err-clause-room
returns-then-is_err-clause-room g c =
    let has = has_room g.S.Site c.args.core.now c.core.view_is c.core.invariant c.make_room.new.site _ c.make_room.ensures.session c.make_room.ensures.site in
    λ untold. has.reserves.room
