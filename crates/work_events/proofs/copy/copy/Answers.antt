use Rattle.std.proofs.Common.{◌≡◌, inl, inr, ℕ, length, refl, ◌∙◌, ap, sym, subst, arith}
use Rattle.std.specs.Prelude.{is_err}
use Rattle.mss_base.specs.Counts.{Rises}
use Rattle.core_state.specs.CoreValue.{CoreValue}
use Rattle.work_events.proofs.KeptFacts.{kept_at}
use Rattle.work_events.proofs.RowSteps.{has_room, kept_room}
use Rattle.work_events.proofs.RoomFacts.{its_place, its_request, room_same, room_spares, room_writes, when_ok, works_always}
use Rattle.work_events.proofs.RuleFacts.{rule_copies}
use Rattle.work_events.proofs.CopySteps.{copied_is, copy_does, copy_kept, copy_undone, copy_unkept}
use Rattle.work_events.proofs.FailedSteps.{failed_is}
use Rattle.work_events.proofs.copy.copy.Goals as goal

pub task_and_request-task-requires : goal.task_and_request-task-requires
task_and_request-task-requires g c =
    let now = c.args.core.now in
    let is = c.core.view_is in
    let kept = kept_at g.S.Site _ now is c.core.invariant in
    let says = rule_copies now c.args.recorder c.requires.fits kept.whole.kept c.args.transfer c.requires.rule in
    (says.task, says.request, says.serves)

pub invariant_of-core : goal.invariant_of-core
invariant_of-core g c =
    let now = c.args.core.now in
    kept_room g.S.Site (has_room g.S.Site now c.core.view_is c.core.invariant c.make_room.new.site _ c.make_room.ensures.session c.make_room.ensures.site)

pub copy_track-requires-clause-more : goal.copy_track-requires-clause-more
copy_track-requires-clause-more g c =
    let now = c.args.core.now in
    let is = c.core.view_is in
    let kept = kept_at g.S.Site _ now is c.core.invariant in
    let says = rule_copies now c.args.recorder c.requires.fits kept.whole.kept c.args.transfer c.requires.rule in
    let may = says.may c.task_and_request-task.result.0 c.task_and_request-task.result.1 c.task_and_request-task.ensures.serves c.task_and_request-task.ensures.low in
    may.more

pub end_failed-requires-clause-frame : goal.end_failed-requires-clause-frame
end_failed-requires-clause-frame g c =
    let now = c.args.core.now in
    let has = has_room g.S.Site now c.core.view_is c.core.invariant c.make_room.new.site _ c.make_room.ensures.session c.make_room.ensures.site in
    let says = rule_copies now c.args.recorder c.requires.fits has.kept.whole.kept c.args.transfer c.requires.rule in
    let low = (has.kept.whole.kept says.going).tasks_.each c.args.recorder c.task_and_request-task.result.0 c.task_and_request-task.ensures.serves.at in
    let size : length c.core.inside.frames.owners ≡ now.config.frames = ap (λ (z : CoreValue g.row.S.Denot g.row.C.Denot). length z.owners) has.is ∙ has.kept.whole.shaped.owners_ in
    let fits = low.low in
    omega (arith, size, fits)

pub invariant_of-core-in-Ok : goal.invariant_of-core-in-Ok
invariant_of-core-in-Ok g c =
    let now = c.args.core.now in
    let has = has_room g.S.Site now c.core.view_is c.core.invariant c.make_room.new.site _ c.make_room.ensures.session c.make_room.ensures.site in
    let says = rule_copies now c.args.recorder c.requires.fits has.kept.whole.kept c.args.transfer c.requires.rule in
    let task = c.task_and_request-task.result.0 in
    let asked = c.task_and_request-task.result.1 in
    let serves = c.task_and_request-task.ensures.serves in
    let may = says.may task asked serves c.task_and_request-task.ensures.low in
    let path = copied_is g.S.Site has c.args.transfer c.copy_track.new.site _ c.in-Ok.ensures.copies c.args.recorder task c.in-Ok.ensures.done c.put_task.ensures c.tell_work.ensures.told in
    copy_kept g.S.Site has c.args.transfer c.copy_track.new.site _ c.in-Ok.ensures.copies c.args.recorder task says.going asked serves may _ path

pub returns-in-Ok-clause-event : goal.returns-in-Ok-clause-event
returns-in-Ok-clause-event g c =
    let now = c.args.core.now in
    let has = has_room g.S.Site now c.core.view_is c.core.invariant c.make_room.new.site _ c.make_room.ensures.session c.make_room.ensures.site in
    let says = rule_copies now c.args.recorder c.requires.fits has.kept.whole.kept c.args.transfer c.requires.rule in
    let task = c.task_and_request-task.result.0 in
    let asked = c.task_and_request-task.result.1 in
    let serves = c.task_and_request-task.ensures.serves in
    let path = copied_is g.S.Site has c.args.transfer c.copy_track.new.site _ c.in-Ok.ensures.copies c.args.recorder task c.in-Ok.ensures.done c.put_task.ensures c.tell_work.ensures.told in
    copy_does g.S.Site has c.args.transfer c.copy_track.new.site _ c.in-Ok.ensures.copies c.args.recorder task (g.C.Choose.may now.chooser) asked serves c.tell_work.result c.tell_work.ensures.answer _ path

pub invariant_of-core-in-Err : goal.invariant_of-core-in-Err
invariant_of-core-in-Err g c =
    let now = c.args.core.now in
    let has = has_room g.S.Site now c.core.view_is c.core.invariant c.make_room.new.site _ c.make_room.ensures.session c.make_room.ensures.site in
    let says = rule_copies now c.args.recorder c.requires.fits has.kept.whole.kept c.args.transfer c.requires.rule in
    let task = c.task_and_request-task.result.0 in
    let asked = c.task_and_request-task.result.1 in
    let serves = c.task_and_request-task.ensures.serves in
    let may = says.may task asked serves c.task_and_request-task.ensures.low in
    let path = failed_is g.S.Site has c.copy_track.new.site c.args.recorder task c.end_failed.ensures.frames c.faults-fault.ensures c.end_failed.ensures.requests c.end_failed.ensures.tasks c.end_failed.ensures.told in
    copy_unkept g.S.Site has c.args.transfer c.copy_track.new.site _ c.in-Err.ensures.copies c.args.recorder task says.going asked serves may _ path

pub returns-in-Err-clause-event : goal.returns-in-Err-clause-event
returns-in-Err-clause-event g c =
    let now = c.args.core.now in
    let has = has_room g.S.Site now c.core.view_is c.core.invariant c.make_room.new.site _ c.make_room.ensures.session c.make_room.ensures.site in
    let says = rule_copies now c.args.recorder c.requires.fits has.kept.whole.kept c.args.transfer c.requires.rule in
    let task = c.task_and_request-task.result.0 in
    let asked = c.task_and_request-task.result.1 in
    let serves = c.task_and_request-task.ensures.serves in
    let path = failed_is g.S.Site has c.copy_track.new.site c.args.recorder task c.end_failed.ensures.frames c.faults-fault.ensures c.end_failed.ensures.requests c.end_failed.ensures.tasks c.end_failed.ensures.told in
    copy_undone g.S.Site has c.args.transfer c.copy_track.new.site _ c.in-Err.ensures.copies c.args.recorder task (g.C.Choose.may now.chooser) asked serves c.end_failed.result c.end_failed.ensures.answer _ refl path

pub returns-in-Ok-clause-unread : goal.returns-in-Ok-clause-unread
returns-in-Ok-clause-unread g c = λ but never.
    inl (ap (λ (z : CoreValue g.row.S.Denot g.row.C.Denot). z.requests) c.core.view_is)

pub returns-in-Err-clause-unread : goal.returns-in-Err-clause-unread
returns-in-Err-clause-unread g c = λ but never.
    let is = c.core.view_is in
    let room = c.make_room.ensures.site in
    let begun : g.S.Site.never_fails_but c.core.inside.site but = subst (λ (y : CoreValue g.row.S.Denot g.row.C.Denot). g.S.Site.never_fails_but y.site but) (sym is) never in
    let reads = (c.in-Err.ensures.copies.only_reads_fail but (room.sound but begun)).reads in
    let told : g.S.Site.tells → g.S.Site.told c.copy_track.new.site ≡ g.S.Site.told c.args.core.now.site = λ tl. reads.log tl ∙ room.log tl ∙ ap (λ (y : CoreValue g.row.S.Denot g.row.C.Denot). g.S.Site.told y.site) is in
    let unwritten : g.S.Site.writes c.copy_track.new.site ≡ g.S.Site.writes c.args.core.now.site = reads.unwritten ∙ room.unwritten ∙ ap (λ (y : CoreValue g.row.S.Denot g.row.C.Denot). g.S.Site.writes y.site) is in
    let sound : g.S.Site.faults c.make_room.new.site ≡ g.S.Site.faults c.args.core.now.site = room.same ∙ ap (λ (y : CoreValue g.row.S.Denot g.row.C.Denot). g.S.Site.faults y.site) is in
    let failed : Rises (g.S.Site.faults c.args.core.now.site) (g.S.Site.faults c.copy_track.new.site) = subst (λ (k : ℕ). Rises k (g.S.Site.faults c.copy_track.new.site)) sound c.in-Err.ensures.copies.cause.failed in
    inr (record { told = told; unwritten = unwritten; failed = failed })

-- ---- there is room, and the recorder and its host have their places

pub copy_track-requires-clause-room : goal.copy_track-requires-clause-room
copy_track-requires-clause-room g c = when_ok c.make_room.result (sym c.is_err.ensures.value ∙ c.if-is_err.false) c.make_room.ensures.room_site

pub put_task-requires : goal.put_task-requires
put_task-requires g c = its_place g.S.Site c.args.recorder c.core.view_is c.core.invariant c.requires.fits

pub tell_work-requires : goal.tell_work-requires
tell_work-requires g c = when_ok c.make_room.result (sym c.is_err.ensures.value ∙ c.if-is_err.false) c.make_room.ensures.room_events

pub end_failed-requires-clause-asked : goal.end_failed-requires-clause-asked
end_failed-requires-clause-asked g c = its_request c.task_and_request-task.result.0.host c.task_and_request-task.result.1 c.core.view_is c.task_and_request-task.ensures.serves.asked

pub end_failed-requires-clause-fits : goal.end_failed-requires-clause-fits
end_failed-requires-clause-fits g c = its_place g.S.Site c.args.recorder c.core.view_is c.core.invariant c.requires.fits

pub end_failed-requires-clause-room : goal.end_failed-requires-clause-room
end_failed-requires-clause-room g c = when_ok c.make_room.result (sym c.is_err.ensures.value ∙ c.if-is_err.false) c.make_room.ensures.room_events

-- ---- what it leaves of the site, and that no request fails where no call does

pub returns-then-is_err-clause-event : goal.returns-then-is_err-clause-event
returns-then-is_err-clause-event g c =
    let has = has_room g.S.Site c.args.core.now c.core.view_is c.core.invariant c.make_room.new.site _ c.make_room.ensures.session c.make_room.ensures.site in
    room_same g.S.Site has

pub returns-then-is_err-clause-devices : goal.returns-then-is_err-clause-devices
returns-then-is_err-clause-devices g c =
    let has = has_room g.S.Site c.args.core.now c.core.view_is c.core.invariant c.make_room.new.site _ c.make_room.ensures.session c.make_room.ensures.site in
    room_spares g.S.Site has 1

pub returns-then-is_err-clause-works : goal.returns-then-is_err-clause-works
returns-then-is_err-clause-works g c = λ but never readable. ap (λ (z : CoreValue g.row.S.Denot g.row.C.Denot). z.requests) c.core.view_is

pub returns-then-is_err-clause-unread : goal.returns-then-is_err-clause-unread
returns-then-is_err-clause-unread g c = λ but never. inl (ap (λ (z : CoreValue g.row.S.Denot g.row.C.Denot). z.requests) c.core.view_is)

pub returns-in-Ok-clause-devices : goal.returns-in-Ok-clause-devices
returns-in-Ok-clause-devices g c =
    let has = has_room g.S.Site c.args.core.now c.core.view_is c.core.invariant c.make_room.new.site _ c.make_room.ensures.session c.make_room.ensures.site in
    room_writes g.S.Site has 1 c.copy_track.ensures.copies.devices (omega arith)

pub returns-in-Ok-clause-works : goal.returns-in-Ok-clause-works
returns-in-Ok-clause-works g c = λ but never readable. ap (λ (z : CoreValue g.row.S.Denot g.row.C.Denot). z.requests) c.core.view_is

pub returns-in-Err-clause-devices : goal.returns-in-Err-clause-devices
returns-in-Err-clause-devices g c =
    let has = has_room g.S.Site c.args.core.now c.core.view_is c.core.invariant c.make_room.new.site _ c.make_room.ensures.session c.make_room.ensures.site in
    room_writes g.S.Site has 1 c.copy_track.ensures.copies.devices (omega arith)

pub returns-in-Err-clause-works : goal.returns-in-Err-clause-works
returns-in-Err-clause-works g c =
    let has = has_room g.S.Site c.args.core.now c.core.view_is c.core.invariant c.make_room.new.site _ c.make_room.ensures.session c.make_room.ensures.site in
    λ but never readable. works_always c.copy_track.result (c.copy_track.ensures.copies.works but (has.reserves.sound but never) readable) (ap is_err c.in-Err.is)

-- ---- its chooser stays

pub returns-then-is_err-clause-chooser : goal.returns-then-is_err-clause-chooser
returns-then-is_err-clause-chooser g c = ap (λ (z : CoreValue g.row.S.Denot g.row.C.Denot). z.chooser) c.core.view_is

pub returns-in-Ok-clause-chooser : goal.returns-in-Ok-clause-chooser
returns-in-Ok-clause-chooser g c = ap (λ (z : CoreValue g.row.S.Denot g.row.C.Denot). z.chooser) c.core.view_is

pub returns-in-Err-clause-chooser : goal.returns-in-Err-clause-chooser
returns-in-Err-clause-chooser g c = ap (λ (z : CoreValue g.row.S.Denot g.row.C.Denot). z.chooser) c.core.view_is

-- ---- where memory was wanting the room isn't less

pub returns-then-is_err-clause-room : goal.returns-then-is_err-clause-room
returns-then-is_err-clause-room g c =
    let has = has_room g.S.Site c.args.core.now c.core.view_is c.core.invariant c.make_room.new.site _ c.make_room.ensures.session c.make_room.ensures.site in
    λ untold. has.reserves.room
