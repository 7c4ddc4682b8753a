-- What comes of the command is the event, and keeps the core.
use Rattle.std.proofs.Common.{rules, ◌≡◌, ◌≤◌, length, refl, None, Some, sym, ◌∙◌, ap, subst}
use Rattle.std.specs.Prelude.{Err}
use Rattle.volume_table.specs.Listed.{row_in_list}
use Rattle.channel_commands.specs.Data.{ReplyData, equipment_check, stopped}
use Rattle.channel_commands.specs.Views.{call_of, reply_of}
use Rattle.ckd_track.specs.declared.format.TheConstants.{FORMAT_ITEMS}
use Rattle.mss_base.specs.Places.{frame_block}
use Rattle.track_engine.specs.declared.place.EngineFault.{EngineFault}
use Rattle.track_engine.specs.declared.place.EngineFault.TheVariants.{ReadFailed, WriteFailed}
use Rattle.track_engine.specs.Faults.{IsNoFailure, IsNoFailedWrite}
use Rattle.core_state.specs.HostEvents.{replied}
use Rattle.core_state.specs.Counted.{AreEntries}
use Rattle.core_state.specs.declared.session.TheConstants.{ENTRY_LIMIT}
use Rattle.core_state.specs.Pins.{host_at, put_host}
use Rattle.core_state.specs.SessionData.{SessionData, with_stop}
use Rattle.core_state.specs.Sessions.{session_data}
use Rattle.core_state.specs.Tasks.{tasks_after}
use Rattle.host_events.specs.Parts.{IsUnfailed}
use Rattle.host_events.specs.Replies.{with_reply}
use Rattle.host_events.specs.Runs.{run_by, Comes}
use Rattle.host_events.proofs.Prepared.{prepared_kept}
use Rattle.host_events.proofs.RoomLeft.{left_room, left_spares, left_writes}
use Rattle.host_events.proofs.RunDoes.{done_is_unfailed}
use Rattle.host_events.proofs.RunKept.{has_row, in_frame, is_staged, is_asked, is_data_, touches, passes_, tracks_, room_event, still_kept, still_event, run_kept, run_event, check_kept, check_event, stop_kept, stop_event}
use Rattle.host_events.proofs.run.run_on_frame.Goals as goal
use Rattle.core_state.specs.CoreValue.{CoreValue, seen_site}

pub invariant_of-core : goal.invariant_of-core
invariant_of-core g c =
    let S = g.S.Site in
    prepared_kept g.row.S.Denot S c.args.core.now c.core.view_is c.core.invariant c.prepare.new.site c.prepare.ensures.site
    c.core.inside.requests refl (session_data c.prepare.new.session) c.prepare.ensures.session

pub run_in-requires-clause-may : goal.run_in-requires-clause-may
run_in-requires-clause-may g c =
    let S = g.S.Site in
    record {
      asks =
          is_asked g.row.S.Denot S c.args.core.now c.core.view_is c.core.invariant c.args.host (call_of c.args.call.now) c.args.command.now
          c.args.volume c.args.frame c.requires.rule c.standing-old.result (c.standing-old.ensures.state ∙ ap (λ l. host_at l c.args.host) c.as_slice.ensures) c.standing-old.ensures.cylinder c.standing-old.ensures.head;
      passes =
          passes_ g.row.S.Denot S c.args.core.now c.core.view_is c.core.invariant c.args.host (call_of c.args.call.now) c.args.command.now
          c.args.volume c.args.frame c.requires.rule c.standing-old.result (c.standing-old.ensures.state ∙ ap (λ l. host_at l c.args.host) c.as_slice.ensures) c.standing-old.ensures.cylinder c.standing-old.ensures.head;
      data_ =
          is_data_ g.row.S.Denot S c.args.core.now c.core.view_is c.core.invariant c.args.host (call_of c.args.call.now) c.args.command.now
          c.args.volume c.args.frame c.requires.rule c.standing-old.result (c.standing-old.ensures.state ∙ ap (λ l. host_at l c.args.host) c.as_slice.ensures) c.standing-old.ensures.cylinder c.standing-old.ensures.head;
    }

pub run_in-requires-clause-tracks : goal.run_in-requires-clause-tracks
run_in-requires-clause-tracks g c =
    let S = g.S.Site in
    tracks_ g.row.S.Denot S c.args.core.now c.core.view_is c.core.invariant c.args.host (call_of c.args.call.now) c.args.command.now
    c.args.volume c.args.frame c.requires.rule c.standing-old.result (c.standing-old.ensures.state ∙ ap (λ l. host_at l c.args.host) c.as_slice.ensures) c.standing-old.ensures.cylinder c.standing-old.ensures.head
    c.prepare.new.site c.prepare.ensures.site

pub touch-requires : goal.touch-requires
touch-requires g c =
    let S = g.S.Site in
    touches g.row.S.Denot S c.args.core.now c.core.view_is c.core.invariant c.args.host (call_of c.args.call.now) c.args.command.now
    c.args.volume c.args.frame c.requires.rule c.standing-old.result (c.standing-old.ensures.state ∙ ap (λ l. host_at l c.args.host) c.as_slice.ensures) c.standing-old.ensures.cylinder c.standing-old.ensures.head

pub invariant_of-core-in-Ok-run_in : goal.invariant_of-core-in-Ok-run_in
invariant_of-core-in-Ok-run_in g c =
    let S = g.S.Site in
    run_kept g.row.S.Denot S c.args.core.now c.core.view_is c.core.invariant c.args.host (call_of c.args.call.now) c.args.command.now
    c.args.volume c.args.frame c.requires.rule c.standing-old.result (c.standing-old.ensures.state ∙ ap (λ l. host_at l c.args.host) c.as_slice.ensures) c.standing-old.ensures.cylinder c.standing-old.ensures.head
    c.prepare.new.site c.prepare.ensures.site c.run_in.new.site c.run_in.ensures.site_ (λ tl. g.met.S.Site.counted c.run_in.new.site tl)
    (reply_of c.in-Ok-run_in.reply) c.run_in.new.host c.in-Ok-run_in.ensures.comes.0
    c.close.new.requests c.close.ensures.requests c.touch_after.new.tasks.items (c.touch_after.ensures ∙ ap (λ n. tasks_after c.args.command.now c.args.volume n c.core.inside.tasks.items) c.page.ensures)
    c.close.new.hosts.items c.close.ensures.hosts c.touch.new.self c.touch.ensures
    (session_data c.close.new.session) (c.close.ensures.session ∙ (λ i. with_reply c.args.host (c.in-Ok.ensures.copy i) (reply_of c.in-Ok-run_in.reply) None (c.writes-mark.ensures i) (c.prepare.ensures.session i)))

pub invariant_of-core-in-Err-ReadFailed : goal.invariant_of-core-in-Err-ReadFailed
invariant_of-core-in-Err-ReadFailed g c =
    let S = g.S.Site in
    let comes : Comes S.tells (run_by c.standing-old.result (frame_block c.args.frame c.standing-old.result.cylinder 0) c.args.command.now (call_of c.args.call.now))
    (seen_site S c.prepare.new.site) (seen_site S c.run_in.new.site) c.run_in.new.host (Err (ReadFailed c.in-Err-ReadFailed.fault)) =
    subst (λ (e : EngineFault). Comes S.tells (run_by c.standing-old.result (frame_block c.args.frame c.standing-old.result.cylinder 0) c.args.command.now (call_of c.args.call.now))
    (seen_site S c.prepare.new.site) (seen_site S c.run_in.new.site) c.run_in.new.host (Err e)) c.in-Err-ReadFailed.field-0-is c.in-Err-ReadFailed.ensures.comes in
    check_kept g.row.S.Denot S c.args.core.now c.core.view_is c.core.invariant c.args.host (call_of c.args.call.now) c.args.command.now
    c.args.volume c.args.frame c.requires.rule c.standing-old.result (c.standing-old.ensures.state ∙ ap (λ l. host_at l c.args.host) c.as_slice.ensures) c.standing-old.ensures.cylinder c.standing-old.ensures.head
    c.prepare.new.site c.prepare.ensures.site c.run_in.new.site c.run_in.ensures.site_ (λ tl. g.met.S.Site.counted c.run_in.new.site tl)
    comes.0 c.close-in-Err-ReadFailed.new.requests c.close-in-Err-ReadFailed.ensures.requests c.close-in-Err-ReadFailed.new.hosts.items (c.close-in-Err-ReadFailed.ensures.hosts ∙ ap (put_host c.core.inside.hosts.items c.args.host) c.checked-now.ensures)
    (session_data c.close-in-Err-ReadFailed.new.session) (c.close-in-Err-ReadFailed.ensures.session ∙ (λ i. with_reply c.args.host (c.in-Ok.ensures.copy i) equipment_check (Some ((c.in-Err-ReadFailed.fault-is ∙ comes.1) i)) (c.writes-mark-in-Err-ReadFailed.ensures i) (c.prepare.ensures.session i)))

pub invariant_of-core-in-Err-WriteFailed : goal.invariant_of-core-in-Err-WriteFailed
invariant_of-core-in-Err-WriteFailed g c =
    let S = g.S.Site in
    let comes : Comes S.tells (run_by c.standing-old.result (frame_block c.args.frame c.standing-old.result.cylinder 0) c.args.command.now (call_of c.args.call.now))
    (seen_site S c.prepare.new.site) (seen_site S c.run_in.new.site) c.run_in.new.host (Err (WriteFailed c.in-Err-WriteFailed.fault)) =
    subst (λ (e : EngineFault). Comes S.tells (run_by c.standing-old.result (frame_block c.args.frame c.standing-old.result.cylinder 0) c.args.command.now (call_of c.args.call.now))
    (seen_site S c.prepare.new.site) (seen_site S c.run_in.new.site) c.run_in.new.host (Err e)) c.in-Err-WriteFailed.field-0-is c.in-Err-WriteFailed.ensures.comes in
    stop_kept g.row.S.Denot S c.args.core.now c.core.view_is c.core.invariant c.args.host (call_of c.args.call.now) c.args.command.now
    c.args.volume c.args.frame c.requires.rule c.standing-old.result (c.standing-old.ensures.state ∙ ap (λ l. host_at l c.args.host) c.as_slice.ensures) c.standing-old.ensures.cylinder c.standing-old.ensures.head
    c.prepare.new.site c.prepare.ensures.site c.run_in.new.site c.run_in.ensures.site_ (λ tl. g.met.S.Site.counted c.run_in.new.site tl)
    c.in-Err-WriteFailed.fault comes (session_data c.halt.new.session) (c.halt.ensures ∙ (λ i. with_stop (c.in-Err-WriteFailed.fault-is i) (with_reply c.args.host (c.in-Ok.ensures.copy i) stopped (Some (c.in-Err-WriteFailed.fault-is i)) (c.writes.ensures i) (c.prepare.ensures.session i))))

pub invariant_of-core-in-Err-Memory : goal.invariant_of-core-in-Err-Memory
invariant_of-core-in-Err-Memory g c =
    let S = g.S.Site in
    still_kept g.row.S.Denot S c.args.core.now c.core.view_is c.core.invariant c.args.host (call_of c.args.call.now) c.args.command.now
    c.args.volume c.args.frame c.requires.rule c.standing-old.result (c.standing-old.ensures.state ∙ ap (λ l. host_at l c.args.host) c.as_slice.ensures) c.standing-old.ensures.cylinder c.standing-old.ensures.head
    c.prepare.new.site c.prepare.ensures.site c.run_in.new.site c.run_in.ensures.site_ (λ tl. g.met.S.Site.counted c.run_in.new.site tl)
    (subst (λ (e : EngineFault). Comes S.tells (run_by c.standing-old.result (frame_block c.args.frame c.standing-old.result.cylinder 0) c.args.command.now (call_of c.args.call.now))
    (seen_site S c.prepare.new.site) (seen_site S c.run_in.new.site) c.run_in.new.host (Err e)) c.in-Err-Memory.field-0-is c.in-Err-Memory.ensures.comes)
    (session_data c.prepare.new.session) c.prepare.ensures.session

pub returns-in-Ok-run_in-clause-event : goal.returns-in-Ok-run_in-clause-event
returns-in-Ok-run_in-clause-event g c =
    let S = g.S.Site in
    run_event g.row.S.Denot S c.args.core.now c.core.view_is c.core.invariant c.args.host (call_of c.args.call.now) c.args.command.now
    c.args.volume c.args.frame c.requires.rule c.standing-old.result (c.standing-old.ensures.state ∙ ap (λ l. host_at l c.args.host) c.as_slice.ensures) c.standing-old.ensures.cylinder c.standing-old.ensures.head
    c.prepare.new.site c.prepare.ensures.site c.run_in.new.site c.run_in.ensures.site_ (λ tl. g.met.S.Site.counted c.run_in.new.site tl)
    (reply_of c.in-Ok-run_in.reply) c.run_in.new.host c.in-Ok-run_in.ensures.comes.0
    c.close.new.requests c.close.ensures.requests c.touch_after.new.tasks.items (c.touch_after.ensures ∙ ap (λ n. tasks_after c.args.command.now c.args.volume n c.core.inside.tasks.items) c.page.ensures)
    c.close.new.hosts.items c.close.ensures.hosts c.touch.new.self c.touch.ensures
    (session_data c.close.new.session) (c.close.ensures.session ∙ (λ i. with_reply c.args.host (c.in-Ok.ensures.copy i) (reply_of c.in-Ok-run_in.reply) None (c.writes-mark.ensures i) (c.prepare.ensures.session i)))
    (reply_of c.in-Ok-run_in.told) c.in-Ok-run_in.ensures.comes.1 (length c.as_slice-2.result.now) (ap length c.as_slice-2.ensures ∙ ap (λ (d : SessionData). length d.history) c.prepare.ensures.session)

pub returns-in_default-clause-event : goal.returns-in_default-clause-event
returns-in_default-clause-event g c =
    let S = g.S.Site in
    room_event g.row.S.Denot S c.args.core.now c.core.view_is c.core.invariant c.args.host (call_of c.args.call.now) c.args.command.now
    c.args.volume c.args.frame c.requires.rule c.standing-old.result (c.standing-old.ensures.state ∙ ap (λ l. host_at l c.args.host) c.as_slice.ensures) c.standing-old.ensures.cylinder c.standing-old.ensures.head
    c.prepare.new.site c.prepare.ensures.site (session_data c.prepare.new.session) c.prepare.ensures.session

pub returns-in-Err-ReadFailed-clause-event : goal.returns-in-Err-ReadFailed-clause-event
returns-in-Err-ReadFailed-clause-event g c =
    let S = g.S.Site in
    let comes : Comes S.tells (run_by c.standing-old.result (frame_block c.args.frame c.standing-old.result.cylinder 0) c.args.command.now (call_of c.args.call.now))
    (seen_site S c.prepare.new.site) (seen_site S c.run_in.new.site) c.run_in.new.host (Err (ReadFailed c.in-Err-ReadFailed.fault)) =
    subst (λ (e : EngineFault). Comes S.tells (run_by c.standing-old.result (frame_block c.args.frame c.standing-old.result.cylinder 0) c.args.command.now (call_of c.args.call.now))
    (seen_site S c.prepare.new.site) (seen_site S c.run_in.new.site) c.run_in.new.host (Err e)) c.in-Err-ReadFailed.field-0-is c.in-Err-ReadFailed.ensures.comes in
    check_event g.row.S.Denot S c.args.core.now c.core.view_is c.core.invariant c.args.host (call_of c.args.call.now) c.args.command.now
    c.args.volume c.args.frame c.requires.rule c.standing-old.result (c.standing-old.ensures.state ∙ ap (λ l. host_at l c.args.host) c.as_slice.ensures) c.standing-old.ensures.cylinder c.standing-old.ensures.head
    c.prepare.new.site c.prepare.ensures.site c.run_in.new.site c.run_in.ensures.site_ (λ tl. g.met.S.Site.counted c.run_in.new.site tl)
    comes.0 c.close-in-Err-ReadFailed.new.requests c.close-in-Err-ReadFailed.ensures.requests c.close-in-Err-ReadFailed.new.hosts.items (c.close-in-Err-ReadFailed.ensures.hosts ∙ ap (put_host c.core.inside.hosts.items c.args.host) c.checked-now.ensures)
    (session_data c.close-in-Err-ReadFailed.new.session) (c.close-in-Err-ReadFailed.ensures.session ∙ (λ i. with_reply c.args.host (c.in-Ok.ensures.copy i) equipment_check (Some ((c.in-Err-ReadFailed.fault-is ∙ comes.1) i)) (c.writes-mark-in-Err-ReadFailed.ensures i) (c.prepare.ensures.session i)))
    (length c.as_slice-2.result.now) (ap length c.as_slice-2.ensures ∙ ap (λ (d : SessionData). length d.history) c.prepare.ensures.session)

pub returns-in-Err-Memory-clause-event : goal.returns-in-Err-Memory-clause-event
returns-in-Err-Memory-clause-event g c =
    let S = g.S.Site in
    still_event g.row.S.Denot S c.args.core.now c.core.view_is c.core.invariant c.args.host (call_of c.args.call.now) c.args.command.now
    c.args.volume c.args.frame c.requires.rule c.standing-old.result (c.standing-old.ensures.state ∙ ap (λ l. host_at l c.args.host) c.as_slice.ensures) c.standing-old.ensures.cylinder c.standing-old.ensures.head
    c.prepare.new.site c.prepare.ensures.site c.run_in.new.site c.run_in.ensures.site_ (λ tl. g.met.S.Site.counted c.run_in.new.site tl)
    (subst (λ (e : EngineFault). Comes S.tells (run_by c.standing-old.result (frame_block c.args.frame c.standing-old.result.cylinder 0) c.args.command.now (call_of c.args.call.now))
    (seen_site S c.prepare.new.site) (seen_site S c.run_in.new.site) c.run_in.new.host (Err e)) c.in-Err-Memory.field-0-is c.in-Err-Memory.ensures.comes)
    (session_data c.prepare.new.session) c.prepare.ensures.session

pub returns-in-Err-WriteFailed-clause-event : goal.returns-in-Err-WriteFailed-clause-event
returns-in-Err-WriteFailed-clause-event g c =
    let S = g.S.Site in
    let comes : Comes S.tells (run_by c.standing-old.result (frame_block c.args.frame c.standing-old.result.cylinder 0) c.args.command.now (call_of c.args.call.now))
    (seen_site S c.prepare.new.site) (seen_site S c.run_in.new.site) c.run_in.new.host (Err (WriteFailed c.in-Err-WriteFailed.fault)) =
    subst (λ (e : EngineFault). Comes S.tells (run_by c.standing-old.result (frame_block c.args.frame c.standing-old.result.cylinder 0) c.args.command.now (call_of c.args.call.now))
    (seen_site S c.prepare.new.site) (seen_site S c.run_in.new.site) c.run_in.new.host (Err e)) c.in-Err-WriteFailed.field-0-is c.in-Err-WriteFailed.ensures.comes in
    stop_event g.row.S.Denot S c.args.core.now c.core.view_is c.core.invariant c.args.host (call_of c.args.call.now) c.args.command.now
    c.args.volume c.args.frame c.requires.rule c.standing-old.result (c.standing-old.ensures.state ∙ ap (λ l. host_at l c.args.host) c.as_slice.ensures) c.standing-old.ensures.cylinder c.standing-old.ensures.head
    c.prepare.new.site c.prepare.ensures.site c.run_in.new.site c.run_in.ensures.site_ (λ tl. g.met.S.Site.counted c.run_in.new.site tl)
    c.in-Err-WriteFailed.fault comes (session_data c.halt.new.session) (c.halt.ensures ∙ (λ i. with_stop (c.in-Err-WriteFailed.fault-is i) (with_reply c.args.host (c.in-Ok.ensures.copy i) stopped (Some (c.in-Err-WriteFailed.fault-is i)) (c.writes.ensures i) (c.prepare.ensures.session i))))
    _ c.in-Err-WriteFailed.fault-is

pub row_of-row-requires : goal.row_of-row-requires
row_of-row-requires g c =
    let S = g.S.Site in
    record {
      there = has_row g.row.S.Denot S c.args.core.now c.core.view_is c.core.invariant c.args.host (call_of c.args.call.now) c.args.command.now
          c.args.volume c.args.frame c.requires.rule c.standing-old.result (c.standing-old.ensures.state ∙ ap (λ l. host_at l c.args.host) c.as_slice.ensures) c.standing-old.ensures.cylinder c.standing-old.ensures.head;
    }

pub run_in-requires-clause-staged : goal.run_in-requires-clause-staged
run_in-requires-clause-staged g c =
    let S = g.S.Site in
    let row : row_in_list c.core.inside.rows c.args.volume ≡ Some c.row_of-row.result.now = search rules in
    record {
      frame_ =
          in_frame g.row.S.Denot S c.args.core.now c.core.view_is c.core.invariant c.args.host (call_of c.args.call.now) c.args.command.now
          c.args.volume c.args.frame c.requires.rule c.standing-old.result (c.standing-old.ensures.state ∙ ap (λ l. host_at l c.args.host) c.as_slice.ensures) c.standing-old.ensures.cylinder c.standing-old.ensures.head
          c.row_of-row.result.now row;
      staged =
          is_staged g.row.S.Denot S c.args.core.now c.core.view_is c.core.invariant c.args.host (call_of c.args.call.now) c.args.command.now
          c.args.volume c.args.frame c.requires.rule c.standing-old.result (c.standing-old.ensures.state ∙ ap (λ l. host_at l c.args.host) c.as_slice.ensures) c.standing-old.ensures.cylinder c.standing-old.ensures.head
          c.row_of-row.result.now row;
    }

-- ---- no call failed: then a run isn't answered by a failure

pub returns-in-Ok-run_in-clause-works : goal.returns-in-Ok-run_in-clause-works
returns-in-Ok-run_in-clause-works g c = λ but sound unit.
    let comes = c.in-Ok-run_in.ensures.comes in
    subst (λ (r : ReplyData). IsUnfailed (replied (length c.as_slice-2.result.now) r)) (sym comes.1) (done_is_unfailed (length c.as_slice-2.result.now) _ comes.0.done_)

pub returns-in-Err-ReadFailed-clause-works : goal.returns-in-Err-ReadFailed-clause-works
returns-in-Err-ReadFailed-clause-works g c = λ but sound unit.
    subst IsNoFailure c.in-Err-ReadFailed.field-0-is (c.in-Err-ReadFailed.ensures.works but (c.prepare.ensures.site.sound but (subst (λ (z : CoreValue g.row.S.Denot g.row.C.Denot). g.S.Site.never_fails_but z.site but) (sym c.core.view_is) sound)) unit)

pub returns-in-Err-WriteFailed-clause-works : goal.returns-in-Err-WriteFailed-clause-works
returns-in-Err-WriteFailed-clause-works g c = λ but sound unit.
    subst IsNoFailure c.in-Err-WriteFailed.field-0-is (c.in-Err-WriteFailed.ensures.works but (c.prepare.ensures.site.sound but (subst (λ (z : CoreValue g.row.S.Denot g.row.C.Denot). g.S.Site.never_fails_but z.site but) (sym c.core.view_is) sound)) unit)

pub returns-in-Err-WriteFailed-clause-only_reads_fail : goal.returns-in-Err-WriteFailed-clause-only_reads_fail
returns-in-Err-WriteFailed-clause-only_reads_fail g c = λ but sound.
    subst IsNoFailedWrite c.in-Err-WriteFailed.field-0-is (c.in-Err-WriteFailed.ensures.only_reads_fail but (c.prepare.ensures.site.sound but (subst (λ (z : CoreValue g.row.S.Denot g.row.C.Denot). g.S.Site.never_fails_but z.site but) (sym c.core.view_is) sound)))

-- ---- the entry that is put last has its room

pub close-requires-clause-few : goal.close-requires-clause-few
close-requires-clause-few g c = subst (λ (d : SessionData). length d.history ≤ ENTRY_LIMIT) (sym c.prepare.ensures.session) c.core.invariant.whole.shaped.few

pub close-requires-clause-entries : goal.close-requires-clause-entries
close-requires-clause-entries g c = subst (λ (d : SessionData). AreEntries d.history) (sym c.prepare.ensures.session) c.core.invariant.counted.entries

pub close-requires-in-Err-ReadFailed-clause-few : goal.close-requires-in-Err-ReadFailed-clause-few
close-requires-in-Err-ReadFailed-clause-few g c = subst (λ (d : SessionData). length d.history ≤ ENTRY_LIMIT) (sym c.prepare.ensures.session) c.core.invariant.whole.shaped.few

pub close-requires-in-Err-ReadFailed-clause-entries : goal.close-requires-in-Err-ReadFailed-clause-entries
close-requires-in-Err-ReadFailed-clause-entries g c = subst (λ (d : SessionData). AreEntries d.history) (sym c.prepare.ensures.session) c.core.invariant.counted.entries

pub halt-requires-clause-few : goal.halt-requires-clause-few
halt-requires-clause-few g c = subst (λ (d : SessionData). length d.history ≤ ENTRY_LIMIT) (sym c.prepare.ensures.session) c.core.invariant.whole.shaped.few

pub halt-requires-clause-entries : goal.halt-requires-clause-entries
halt-requires-clause-entries g c = subst (λ (d : SessionData). AreEntries d.history) (sym c.prepare.ensures.session) c.core.invariant.counted.entries

pub close-requires-clause-room : goal.close-requires-clause-room
close-requires-clause-room g c = c.in-Ok.ensures.room

pub close-requires-clause-room_marks : goal.close-requires-clause-room_marks
close-requires-clause-room_marks g c = c.in-Ok.ensures.room_marks

pub close-requires-clause-room_events : goal.close-requires-clause-room_events
close-requires-clause-room_events g c = c.in-Ok.ensures.room_events

pub close-requires-clause-hosts : goal.close-requires-clause-hosts
close-requires-clause-hosts g c = c.core.invariant.whole.shaped.hosts_

pub close-requires-in-Err-ReadFailed-clause-room : goal.close-requires-in-Err-ReadFailed-clause-room
close-requires-in-Err-ReadFailed-clause-room g c = c.in-Ok.ensures.room

pub close-requires-in-Err-ReadFailed-clause-room_marks : goal.close-requires-in-Err-ReadFailed-clause-room_marks
close-requires-in-Err-ReadFailed-clause-room_marks g c = c.in-Ok.ensures.room_marks

pub close-requires-in-Err-ReadFailed-clause-room_events : goal.close-requires-in-Err-ReadFailed-clause-room_events
close-requires-in-Err-ReadFailed-clause-room_events g c = c.in-Ok.ensures.room_events

pub close-requires-in-Err-ReadFailed-clause-hosts : goal.close-requires-in-Err-ReadFailed-clause-hosts
close-requires-in-Err-ReadFailed-clause-hosts g c = c.core.invariant.whole.shaped.hosts_

pub halt-requires-clause-room : goal.halt-requires-clause-room
halt-requires-clause-room g c = c.in-Ok.ensures.room

pub halt-requires-clause-room_marks : goal.halt-requires-clause-room_marks
halt-requires-clause-room_marks g c = c.in-Ok.ensures.room_marks

pub halt-requires-clause-room_events : goal.halt-requires-clause-room_events
halt-requires-clause-room_events g c = c.in-Ok.ensures.room_events

pub run_in-requires-clause-room : goal.run_in-requires-clause-room
run_in-requires-clause-room g c = c.in-Ok.ensures.room_site

-- ---- what it leaves of the site

pub returns-in_default-clause-devices : goal.returns-in_default-clause-devices
returns-in_default-clause-devices g c = left_spares g.S.Site c.core.view_is c.prepare.ensures.site FORMAT_ITEMS

pub returns-in_default-clause-room : goal.returns-in_default-clause-room
returns-in_default-clause-room g c = λ untold. left_room g.S.Site c.core.view_is c.prepare.ensures.site

pub returns-in-Ok-run_in-clause-devices : goal.returns-in-Ok-run_in-clause-devices
returns-in-Ok-run_in-clause-devices g c = left_writes g.S.Site c.core.view_is c.prepare.ensures.site FORMAT_ITEMS c.run_in.ensures.site_

pub returns-in-Err-ReadFailed-clause-devices : goal.returns-in-Err-ReadFailed-clause-devices
returns-in-Err-ReadFailed-clause-devices g c = left_writes g.S.Site c.core.view_is c.prepare.ensures.site FORMAT_ITEMS c.run_in.ensures.site_

pub returns-in-Err-WriteFailed-clause-devices : goal.returns-in-Err-WriteFailed-clause-devices
returns-in-Err-WriteFailed-clause-devices g c = left_writes g.S.Site c.core.view_is c.prepare.ensures.site FORMAT_ITEMS c.run_in.ensures.site_

pub returns-in-Err-Memory-clause-devices : goal.returns-in-Err-Memory-clause-devices
returns-in-Err-Memory-clause-devices g c = left_writes g.S.Site c.core.view_is c.prepare.ensures.site FORMAT_ITEMS c.run_in.ensures.site_

pub returns-in-Ok-run_in-clause-room : goal.returns-in-Ok-run_in-clause-room
returns-in-Ok-run_in-clause-room g c = λ untold. absurd untold

pub returns-in-Err-ReadFailed-clause-room : goal.returns-in-Err-ReadFailed-clause-room
returns-in-Err-ReadFailed-clause-room g c = λ untold. absurd untold

pub returns-in-Err-WriteFailed-clause-room : goal.returns-in-Err-WriteFailed-clause-room
returns-in-Err-WriteFailed-clause-room g c = λ untold. absurd untold

-- ---- its chooser stays

pub returns-in_default-clause-chooser : goal.returns-in_default-clause-chooser
returns-in_default-clause-chooser g c = ap (λ (z : CoreValue g.row.S.Denot g.row.C.Denot). z.chooser) c.core.view_is

pub returns-in-Ok-run_in-clause-chooser : goal.returns-in-Ok-run_in-clause-chooser
returns-in-Ok-run_in-clause-chooser g c = ap (λ (z : CoreValue g.row.S.Denot g.row.C.Denot). z.chooser) c.core.view_is

pub returns-in-Err-ReadFailed-clause-chooser : goal.returns-in-Err-ReadFailed-clause-chooser
returns-in-Err-ReadFailed-clause-chooser g c = ap (λ (z : CoreValue g.row.S.Denot g.row.C.Denot). z.chooser) c.core.view_is

pub returns-in-Err-WriteFailed-clause-chooser : goal.returns-in-Err-WriteFailed-clause-chooser
returns-in-Err-WriteFailed-clause-chooser g c = ap (λ (z : CoreValue g.row.S.Denot g.row.C.Denot). z.chooser) c.core.view_is

pub returns-in-Err-Memory-clause-chooser : goal.returns-in-Err-Memory-clause-chooser
returns-in-Err-Memory-clause-chooser g c = ap (λ (z : CoreValue g.row.S.Denot g.row.C.Denot). z.chooser) c.core.view_is
