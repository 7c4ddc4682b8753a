use Rattle.std.proofs.Common.{◌≡◌, ◌≤◌, length, Some, refl, sym, ◌∙◌, ap, subst, arith}
use Rattle.std.specs.Prelude.{is_err, slice_set}
use Rattle.table_pair.specs.declared.change.TheConstants.{CHANGE_ITEMS}
use Rattle.volume_table.specs.declared.changes.Change.TheVariants.{Assign}
use Rattle.victim_choice.specs.Order.{order_after}
use Rattle.core_state.specs.declared.session.Event.TheVariants.{Work}
use Rattle.core_state.specs.CoreValue.{CoreValue}
use Rattle.core_state.specs.declared.rule.WorkAnswer.TheVariants.{Stopped}
use Rattle.core_state.specs.SessionData.{SessionData, data_of, of_parts, with_last_event, with_last_message}
use Rattle.core_state.specs.Sessions.{session_data}
use Rattle.core_state.specs.Agrees.{message_of}
use Rattle.volume_table.specs.Listed.{row_in_list}
use Rattle.work_events.proofs.KeptFacts.{kept_at, in_order}
use Rattle.work_events.proofs.RowSteps.{has_room, kept_as, kept_room, row_changed, row_failed, row_held, row_stopped, row_there, slots_counted, stopped_is}
use Rattle.work_events.proofs.RoomFacts.{room_going, room_same, room_spares, room_writes, when_ok, works_always}
use Rattle.work_events.proofs.RuleFacts.{MayAssignPage, rule_assigns}
use Rattle.work_events.proofs.AssignWhole.{assigned, assigned_does, due_assigned, kept_assigned, unassigned_does}
use Rattle.work_events.proofs.frames.assign.Goals as goal

pub task_and_request-task-requires : goal.task_and_request-task-requires
task_and_request-task-requires g c =
    let now = c.args.core.now in
    let kept = kept_at g.S.Site _ now c.core.view_is c.core.invariant in
    let says = rule_assigns now c.args.recorder c.requires.fits kept.whole.kept c.args.volume c.args.page c.requires.rule in
    (says.task, says.request, says.serves)

pub invariant_of-core : goal.invariant_of-core
invariant_of-core g c =
    let now = c.args.core.now in
    kept_room g.S.Site (has_room g.S.Site now c.core.view_is c.core.invariant c.make_room.new.site _ c.make_room.ensures.session c.make_room.ensures.site)

pub write_change-requires-clause-there : goal.write_change-requires-clause-there
write_change-requires-clause-there g c =
    let now = c.args.core.now in
    let has = has_room g.S.Site now c.core.view_is c.core.invariant c.make_room.new.site _ c.make_room.ensures.session c.make_room.ensures.site in
    let says = rule_assigns now c.args.recorder c.requires.fits has.kept.whole.kept c.args.volume c.args.page c.requires.rule in
    let may : MayAssignPage now c.args.volume c.args.page c.task_and_request-task.result.0 c.task_and_request-task.result.1 = says.may c.task_and_request-task.result.0 c.task_and_request-task.result.1 c.task_and_request-task.ensures.serves c.task_and_request-task.ensures.low c.task_and_request-task.ensures.known in
    let due = due_assigned g.row.S.Denot g.S.Site.tells (g.S.Site.told now.site) now has.kept.whole says.going c.args.recorder c.task_and_request-task.result.0 c.task_and_request-task.result.1 c.task_and_request-task.ensures.serves c.args.volume c.args.page may in
    row_there g.S.Site has c.args.volume (Assign c.args.page c.task_and_request-task.result.0.frame) due says.going

pub write_change-requires-clause-places : goal.write_change-requires-clause-places
write_change-requires-clause-places g c =
    let now = c.args.core.now in
    slots_counted g.S.Site (has_room g.S.Site now c.core.view_is c.core.invariant c.make_room.new.site _ c.make_room.ensures.session c.make_room.ensures.site)

pub write_change-requires-clause-held : goal.write_change-requires-clause-held
write_change-requires-clause-held g c =
    let now = c.args.core.now in
    let has = has_room g.S.Site now c.core.view_is c.core.invariant c.make_room.new.site _ c.make_room.ensures.session c.make_room.ensures.site in
    let says = rule_assigns now c.args.recorder c.requires.fits has.kept.whole.kept c.args.volume c.args.page c.requires.rule in
    let may : MayAssignPage now c.args.volume c.args.page c.task_and_request-task.result.0 c.task_and_request-task.result.1 = says.may c.task_and_request-task.result.0 c.task_and_request-task.result.1 c.task_and_request-task.ensures.serves c.task_and_request-task.ensures.low c.task_and_request-task.ensures.known in
    let due = due_assigned g.row.S.Denot g.S.Site.tells (g.S.Site.told now.site) now has.kept.whole says.going c.args.recorder c.task_and_request-task.result.0 c.task_and_request-task.result.1 c.task_and_request-task.ensures.serves c.args.volume c.args.page may in
    row_held g.S.Site has c.args.volume (Assign c.args.page c.task_and_request-task.result.0.frame) due says.going

pub give_frame-requires-clause-known : goal.give_frame-requires-clause-known
give_frame-requires-clause-known g c =
    let now = c.args.core.now in
    let has = has_room g.S.Site now c.core.view_is c.core.invariant c.make_room.new.site _ c.make_room.ensures.session c.make_room.ensures.site in
    let says = rule_assigns now c.args.recorder c.requires.fits has.kept.whole.kept c.args.volume c.args.page c.requires.rule in
    let its = (has.kept.whole.kept says.going).tasks_.each c.args.recorder c.task_and_request-task.result.0 c.task_and_request-task.ensures.serves.at in
    let size : length c.core.inside.frames.owners ≡ now.config.frames = ap (λ (z : CoreValue g.row.S.Denot g.row.C.Denot). length z.owners) has.is ∙ has.kept.whole.shaped.owners_ in
    let fits = its.low in
    omega (arith, size, fits)

pub give_frame-requires-clause-ordered : goal.give_frame-requires-clause-ordered
give_frame-requires-clause-ordered g c =
    let now = c.args.core.now in
    let has = has_room g.S.Site now c.core.view_is c.core.invariant c.make_room.new.site _ c.make_room.ensures.session c.make_room.ensures.site in
    let says = rule_assigns now c.args.recorder c.requires.fits has.kept.whole.kept c.args.volume c.args.page c.requires.rule in
    let core = has.kept.whole.kept says.going in
    let low = in_order now.config.frames c.task_and_request-task.result.0.frame now.recency core.beside.order (core.tasks_.each c.args.recorder c.task_and_request-task.result.0 c.task_and_request-task.ensures.serves.at).low in
    let same = ap (λ (z : CoreValue g.row.S.Denot g.row.C.Denot). length z.recency) has.is in
    omega (arith, low, same)

pub invariant_of-core-in-Ok : goal.invariant_of-core-in-Ok
invariant_of-core-in-Ok g c =
    let now = c.args.core.now in
    let has = has_room g.S.Site now c.core.view_is c.core.invariant c.make_room.new.site _ c.make_room.ensures.session c.make_room.ensures.site in
    let says = rule_assigns now c.args.recorder c.requires.fits has.kept.whole.kept c.args.volume c.args.page c.requires.rule in
    let may : MayAssignPage now c.args.volume c.args.page c.task_and_request-task.result.0 c.task_and_request-task.result.1 = says.may c.task_and_request-task.result.0 c.task_and_request-task.result.1 c.task_and_request-task.ensures.serves c.task_and_request-task.ensures.low c.task_and_request-task.ensures.known in
    let is = c.core.view_is in
    let x = c.write_change.new.site in
    let done_ = row_changed g.S.Site has c.args.volume (Assign c.args.page c.task_and_request-task.result.0.frame) x c.write_change.ensures.rows c.write_change.ensures.site_.devices _ c.in-Ok.ensures.copies _ refl c.in-Ok.ensures.used.done c.in-Ok.ensures.session.told (g.met.S.Site.counted x) c.in-Ok.ensures.site_.cause.same in
    let told : session_data c.tell_work.new.session ≡ with_last_event (Work c.args.recorder) (with_last_message (message_of (g.S.Site.writes x) c.args.volume (Assign c.args.page c.task_and_request-task.result.0.frame) (row_in_list now.rows)) (data_of now)) = c.tell_work.ensures.told ∙ ap (with_last_event (Work c.args.recorder)) done_.told in
    let owners : c.give_frame.new.frames.owners ≡ slice_set now.owners c.task_and_request-task.result.0.frame (Some (c.args.volume, c.args.page)) = ap (λ f. f.owners) c.give_frame.ensures.frames ∙ (λ i. slice_set (is i).owners c.task_and_request-task.result.0.frame (Some (c.args.volume, c.args.page))) in
    let moving : c.give_frame.new.frames.moving ≡ now.moving = ap (λ f. f.moving) c.give_frame.ensures.frames ∙ ap (λ (z : CoreValue g.row.S.Denot g.row.C.Denot). z.moving) is in
    let recency : c.give_frame.new.recency ≡ order_after c.task_and_request-task.result.0.frame now.recency = c.give_frame.ensures.recency ∙ ap (λ (z : CoreValue g.row.S.Denot g.row.C.Denot). order_after c.task_and_request-task.result.0.frame z.recency) is in
    kept_as g.S.Site x _ _
    (kept_assigned g.row.S.Denot g.S.Site.tells (g.S.Site.told now.site) (g.S.Site.told x) (g.S.Site.writes now.site) (g.S.Site.faults now.site) (g.S.Site.writes x) (g.S.Site.faults x) now has.kept says.going c.args.recorder c.task_and_request-task.result.0 c.task_and_request-task.result.1 c.task_and_request-task.ensures.serves x done_.more done_.le c.args.volume c.args.page may done_.done_)
    (λ i. record (of_parts (is i) x (done_.rows_ i) (owners i) (moving i) (is i).requests (is i).tasks (is i).hosts (told i)) { used = done_.used_ i; recency = recency i })

pub returns-in-Ok-clause-event : goal.returns-in-Ok-clause-event
returns-in-Ok-clause-event g c =
    let now = c.args.core.now in
    let has = has_room g.S.Site now c.core.view_is c.core.invariant c.make_room.new.site _ c.make_room.ensures.session c.make_room.ensures.site in
    let is = c.core.view_is in
    let x = c.write_change.new.site in
    let done_ = row_changed g.S.Site has c.args.volume (Assign c.args.page c.task_and_request-task.result.0.frame) x c.write_change.ensures.rows c.write_change.ensures.site_.devices _ c.in-Ok.ensures.copies _ refl c.in-Ok.ensures.used.done c.in-Ok.ensures.session.told (g.met.S.Site.counted x) c.in-Ok.ensures.site_.cause.same in
    let told : session_data c.tell_work.new.session ≡ with_last_event (Work c.args.recorder) (with_last_message (message_of (g.S.Site.writes x) c.args.volume (Assign c.args.page c.task_and_request-task.result.0.frame) (row_in_list now.rows)) (data_of now)) = c.tell_work.ensures.told ∙ ap (with_last_event (Work c.args.recorder)) done_.told in
    let owners : c.give_frame.new.frames.owners ≡ slice_set now.owners c.task_and_request-task.result.0.frame (Some (c.args.volume, c.args.page)) = ap (λ f. f.owners) c.give_frame.ensures.frames ∙ (λ i. slice_set (is i).owners c.task_and_request-task.result.0.frame (Some (c.args.volume, c.args.page))) in
    let moving : c.give_frame.new.frames.moving ≡ now.moving = ap (λ f. f.moving) c.give_frame.ensures.frames ∙ ap (λ (z : CoreValue g.row.S.Denot g.row.C.Denot). z.moving) is in
    let recency : c.give_frame.new.recency ≡ order_after c.task_and_request-task.result.0.frame now.recency = c.give_frame.ensures.recency ∙ ap (λ (z : CoreValue g.row.S.Denot g.row.C.Denot). order_after c.task_and_request-task.result.0.frame z.recency) is in
    let path : ◌≡◌ {A = CoreValue g.row.S.Denot g.row.C.Denot} _ (assigned now c.args.recorder c.task_and_request-task.result.0 c.args.volume c.args.page x (g.S.Site.writes x)) = λ i. record (of_parts (is i) x (done_.rows_ i) (owners i) (moving i) (is i).requests (is i).tasks (is i).hosts (told i)) { used = done_.used_ i; recency = recency i } in
    assigned_does g.S.Site (g.C.Choose.may now.chooser) now _ c.args.recorder c.task_and_request-task.result.0 c.args.volume c.args.page c.tell_work.result c.tell_work.ensures.answer c.task_and_request-task.ensures.serves.at done_.have path

pub invariant_of-core-in-Err : goal.invariant_of-core-in-Err
invariant_of-core-in-Err g c =
    let now = c.args.core.now in
    let has = has_room g.S.Site now c.core.view_is c.core.invariant c.make_room.new.site _ c.make_room.ensures.session c.make_room.ensures.site in
    let says = rule_assigns now c.args.recorder c.requires.fits has.kept.whole.kept c.args.volume c.args.page c.requires.rule in
    let may : MayAssignPage now c.args.volume c.args.page c.task_and_request-task.result.0 c.task_and_request-task.result.1 = says.may c.task_and_request-task.result.0 c.task_and_request-task.result.1 c.task_and_request-task.ensures.serves c.task_and_request-task.ensures.low c.task_and_request-task.ensures.known in
    let due = due_assigned g.row.S.Denot g.S.Site.tells (g.S.Site.told now.site) now has.kept.whole says.going c.args.recorder c.task_and_request-task.result.0 c.task_and_request-task.result.1 c.task_and_request-task.ensures.serves c.args.volume c.args.page may in
    row_stopped g.S.Site has c.args.volume (Assign c.args.page c.task_and_request-task.result.0.frame) c.write_change.new.site c.write_change.ensures.rows c.write_change.ensures.site_.devices _ c.in-Err.ensures.copies due says.going c.args.recorder c.in-Err.ensures.site_.cause.failed c.in-Err.ensures.used.failed c.in-Err.ensures.session.stopped c.tell_stop.ensures.told

pub returns-in-Err-clause-event : goal.returns-in-Err-clause-event
returns-in-Err-clause-event g c =
    let now = c.args.core.now in
    let has = has_room g.S.Site now c.core.view_is c.core.invariant c.make_room.new.site _ c.make_room.ensures.session c.make_room.ensures.site in
    let x = c.write_change.new.site in
    let change = Assign c.args.page c.task_and_request-task.result.0.frame in
    let fails = row_failed g.S.Site has c.args.volume change x c.write_change.ensures.rows c.write_change.ensures.site_.devices _ c.in-Err.ensures.copies c.in-Err.ensures.site_.counted c.in-Err.ensures.site_.cause.failed in
    let path = stopped_is g.S.Site has c.args.volume change x c.write_change.ensures.rows c.write_change.ensures.site_.devices _ c.in-Err.ensures.copies c.args.recorder c.in-Err.ensures.used.failed c.in-Err.ensures.session.stopped c.tell_stop.ensures.told in
    unassigned_does g.S.Site (g.C.Choose.may now.chooser) now _ c.args.recorder c.task_and_request-task.result.0 c.args.volume c.args.page c.tell_stop.result (c.tell_stop.ensures.answer ∙ ap Stopped c.faults.ensures) c.task_and_request-task.ensures.serves.at fails path

-- ---- there is room

pub write_change-requires-clause-room : goal.write_change-requires-clause-room
write_change-requires-clause-room g c =
    when_ok c.make_room.result (sym c.is_err.ensures.value ∙ c.if-is_err.false) c.make_room.ensures.room_site

pub write_change-requires-clause-room_console : goal.write_change-requires-clause-room_console
write_change-requires-clause-room_console g c =
    when_ok c.make_room.result (sym c.is_err.ensures.value ∙ c.if-is_err.false) c.make_room.ensures.room_console

pub tell_work-requires : goal.tell_work-requires
tell_work-requires g c =
    subst (λ (e : _). 1 ≤ e.spare) (sym c.write_change.ensures.session.events_) (when_ok c.make_room.result (sym c.is_err.ensures.value ∙ c.if-is_err.false) c.make_room.ensures.room_events)

pub tell_stop-requires : goal.tell_stop-requires
tell_stop-requires g c =
    subst (λ (e : _). 1 ≤ e.spare) (sym c.write_change.ensures.session.events_) (when_ok c.make_room.result (sym c.is_err.ensures.value ∙ c.if-is_err.false) c.make_room.ensures.room_events)

-- ---- what it leaves of the site, and that it goes on where no write fails

pub returns-then-is_err-clause-event : goal.returns-then-is_err-clause-event
returns-then-is_err-clause-event g c =
    let has = has_room g.S.Site c.args.core.now c.core.view_is c.core.invariant c.make_room.new.site _ c.make_room.ensures.session c.make_room.ensures.site in
    room_same g.S.Site has

pub returns-then-is_err-clause-devices : goal.returns-then-is_err-clause-devices
returns-then-is_err-clause-devices g c =
    let has = has_room g.S.Site c.args.core.now c.core.view_is c.core.invariant c.make_room.new.site _ c.make_room.ensures.session c.make_room.ensures.site in
    room_spares g.S.Site has CHANGE_ITEMS

pub returns-then-is_err-clause-works : goal.returns-then-is_err-clause-works
returns-then-is_err-clause-works g c =
    let has = has_room g.S.Site c.args.core.now c.core.view_is c.core.invariant c.make_room.new.site _ c.make_room.ensures.session c.make_room.ensures.site in
    λ but never. room_going g.S.Site has

pub returns-in-Ok-clause-devices : goal.returns-in-Ok-clause-devices
returns-in-Ok-clause-devices g c =
    let has = has_room g.S.Site c.args.core.now c.core.view_is c.core.invariant c.make_room.new.site _ c.make_room.ensures.session c.make_room.ensures.site in
    room_writes g.S.Site has CHANGE_ITEMS c.write_change.ensures.site_.devices (omega arith)

pub returns-in-Ok-clause-works : goal.returns-in-Ok-clause-works
returns-in-Ok-clause-works g c =
    let has = has_room g.S.Site c.args.core.now c.core.view_is c.core.invariant c.make_room.new.site _ c.make_room.ensures.session c.make_room.ensures.site in
    λ but never. ap (λ (d : SessionData). d.stopped) (c.tell_work.ensures.told ∙ ap (with_last_event (Work c.args.recorder)) c.in-Ok.ensures.session.told) ∙ room_going g.S.Site has

pub returns-in-Err-clause-devices : goal.returns-in-Err-clause-devices
returns-in-Err-clause-devices g c =
    let has = has_room g.S.Site c.args.core.now c.core.view_is c.core.invariant c.make_room.new.site _ c.make_room.ensures.session c.make_room.ensures.site in
    room_writes g.S.Site has CHANGE_ITEMS c.write_change.ensures.site_.devices (omega arith)

pub returns-in-Err-clause-works : goal.returns-in-Err-clause-works
returns-in-Err-clause-works g c =
    let has = has_room g.S.Site c.args.core.now c.core.view_is c.core.invariant c.make_room.new.site _ c.make_room.ensures.session c.make_room.ensures.site in
    λ but never. works_always c.write_change.result (c.write_change.ensures.site_.works but (has.reserves.sound but never)) (ap is_err c.in-Err.is)

-- ---- its chooser stays

pub returns-then-is_err-clause-chooser : goal.returns-then-is_err-clause-chooser
returns-then-is_err-clause-chooser g c = ap (λ (z : CoreValue g.row.S.Denot g.row.C.Denot). z.chooser) c.core.view_is

pub returns-in-Ok-clause-chooser : goal.returns-in-Ok-clause-chooser
returns-in-Ok-clause-chooser g c = ap (λ (z : CoreValue g.row.S.Denot g.row.C.Denot). z.chooser) c.core.view_is

pub returns-in-Err-clause-chooser : goal.returns-in-Err-clause-chooser
returns-in-Err-clause-chooser g c = ap (λ (z : CoreValue g.row.S.Denot g.row.C.Denot). z.chooser) c.core.view_is

-- ---- where memory was wanting the room isn't less

pub returns-then-is_err-clause-room : goal.returns-then-is_err-clause-room
returns-then-is_err-clause-room g c =
    let has = has_room g.S.Site c.args.core.now c.core.view_is c.core.invariant c.make_room.new.site _ c.make_room.ensures.session c.make_room.ensures.site in
    λ untold. has.reserves.room
