-- The outcomes of the change are the event, and keep the core.
use Rattle.std.proofs.Common.{◌≤◌, length, Some, refl, sym, ◌∙◌, ap, subst}
use Rattle.std.specs.Prelude.{is_err, is_some}
use Rattle.table_pair.specs.declared.change.TheConstants.{CHANGE_ITEMS}
use Rattle.channel_commands.specs.Data.{stopped}
use Rattle.channel_commands.specs.Views.{call_of}
use Rattle.volume_table.specs.Listed.{row_in_list}
use Rattle.volume_table.specs.declared.changes.Change.TheVariants.{Changed}
use Rattle.core_state.specs.Agrees.{message_of}
use Rattle.core_state.specs.declared.session.Event.TheVariants.{Host}
use Rattle.core_state.specs.declared.session.TheConstants.{ENTRY_LIMIT}
use Rattle.core_state.specs.CoreValue.{CoreValue}
use Rattle.core_state.specs.Counted.{AreEntries}
use Rattle.core_state.specs.SessionData.{SessionData, with_stop, with_last_event, with_last_message}
use Rattle.core_state.specs.Sessions.{session_data}
use Rattle.core_state.specs.Tasks.{touched_all}
use Rattle.host_events.specs.Parts.{ready_for}
use Rattle.host_events.specs.Replies.{with_reply}
use Rattle.host_events.proofs.MarkKept.{changes_row, has_listed, marked_kept, marked_event, unmarked_kept, unmarked_event}
use Rattle.host_events.proofs.MarkRequests.{had_has, ready_is, gone_is}
use Rattle.host_events.proofs.Prepared.{prepared_kept}
use Rattle.host_events.proofs.RoomLeft.{left_room, left_same, left_sound, left_spares, left_writes, works_always}
use Rattle.host_events.proofs.mark.mark.Goals as goal

pub invariant_of-core : goal.invariant_of-core
invariant_of-core g c =
    let S = g.S.Site in
    prepared_kept g.row.S.Denot S c.args.core.now c.core.view_is c.core.invariant c.prepare.new.site c.prepare.ensures.site
    c.core.inside.requests refl (session_data c.prepare.new.session) c.prepare.ensures.session

pub invariant_of-core-in_default-ask : goal.invariant_of-core-in_default-ask
invariant_of-core-in_default-ask g c =
    let S = g.S.Site in
    prepared_kept g.row.S.Denot S c.args.core.now c.core.view_is c.core.invariant c.prepare.new.site c.prepare.ensures.site
    c.ask.new.requests c.in_default-ask.ensures.err (session_data c.prepare.new.session) c.prepare.ensures.session

pub write_change-requires-clause-there : goal.write_change-requires-clause-there
write_change-requires-clause-there g c =
    let S = g.S.Site in
    changes_row g.row.S.Denot S c.args.core.now c.core.view_is c.core.invariant c.args.host (call_of c.args.call.now) c.args.volume c.args.cylinder c.requires.rule

pub write_change-requires-clause-held : goal.write_change-requires-clause-held
write_change-requires-clause-held g c =
    let S = g.S.Site in
    has_listed g.row.S.Denot S c.args.core.now c.core.view_is c.core.invariant c.args.host (call_of c.args.call.now) c.args.volume c.args.cylinder c.requires.rule
    c.prepare.new.site c.prepare.ensures.site

pub make_ready-requires : goal.make_ready-requires
make_ready-requires g c =
    let S = g.S.Site in
    had_has c.args.host (ready_for c.args.volume c.args.cylinder) c.core.inside.requests c.is_some-had.result (c.is_some-had.ensures ∙ ap is_some c.of.ensures) c.ask.new.requests c.in-Ok-ask.ensures.ok

pub invariant_of-core-in-Ok-write_change : goal.invariant_of-core-in-Ok-write_change
invariant_of-core-in-Ok-write_change g c =
    let S = g.S.Site in
    marked_kept g.row.S.Denot S c.args.core.now c.core.view_is c.core.invariant c.args.host (call_of c.args.call.now) c.args.volume c.args.cylinder c.requires.rule
    c.prepare.new.site c.prepare.ensures.site _ c.write_change.new.site c.in-Ok-write_change.ensures.site_ (λ tl. g.met.S.Site.counted c.write_change.new.site tl)
    c.in-Ok-write_change.ensures.copies c.write_change.new.rows c.write_change.ensures.rows _ refl c.write_change.new.used.items c.in-Ok-write_change.ensures.used.done
    c.make_ready.new.requests (ready_is c.args.host (ready_for c.args.volume c.args.cylinder) c.core.inside.requests c.is_some-had.result (c.is_some-had.ensures ∙ ap is_some c.of.ensures) c.ask.new.requests c.in-Ok-ask.ensures.ok c.make_ready.new.requests c.make_ready.ensures)
    c.touch_all.new.tasks.items (c.touch_all.ensures ∙ ap (λ n. touched_all c.args.volume n c.core.inside.tasks.items) c.page.ensures)
    (session_data c.note.new.self) (c.note.ensures.noted ∙ ap (with_last_event (Host c.args.host)) (c.in-Ok-write_change.ensures.session.told ∙ (λ i. with_last_message (message_of (S.writes c.write_change.new.site) c.args.volume (Changed c.args.cylinder) (row_in_list c.core.inside.rows)) (c.prepare.ensures.session i))))

pub returns-in-Ok-write_change-clause-event : goal.returns-in-Ok-write_change-clause-event
returns-in-Ok-write_change-clause-event g c =
    let S = g.S.Site in
    marked_event g.row.S.Denot S c.args.core.now c.core.view_is c.core.invariant c.args.host (call_of c.args.call.now) c.args.volume c.args.cylinder c.requires.rule
    c.prepare.new.site c.prepare.ensures.site _ c.write_change.new.site c.in-Ok-write_change.ensures.site_ (λ tl. g.met.S.Site.counted c.write_change.new.site tl)
    c.in-Ok-write_change.ensures.copies c.write_change.new.rows c.write_change.ensures.rows _ refl c.write_change.new.used.items c.in-Ok-write_change.ensures.used.done
    c.make_ready.new.requests (ready_is c.args.host (ready_for c.args.volume c.args.cylinder) c.core.inside.requests c.is_some-had.result (c.is_some-had.ensures ∙ ap is_some c.of.ensures) c.ask.new.requests c.in-Ok-ask.ensures.ok c.make_ready.new.requests c.make_ready.ensures)
    c.touch_all.new.tasks.items (c.touch_all.ensures ∙ ap (λ n. touched_all c.args.volume n c.core.inside.tasks.items) c.page.ensures)
    (session_data c.note.new.self) (c.note.ensures.noted ∙ ap (with_last_event (Host c.args.host)) (c.in-Ok-write_change.ensures.session.told ∙ (λ i. with_last_message (message_of (S.writes c.write_change.new.site) c.args.volume (Changed c.args.cylinder) (row_in_list c.core.inside.rows)) (c.prepare.ensures.session i))))

pub invariant_of-core-in-Err : goal.invariant_of-core-in-Err
invariant_of-core-in-Err g c =
    let S = g.S.Site in
    unmarked_kept g.row.S.Denot S c.args.core.now c.core.view_is c.core.invariant c.args.host (call_of c.args.call.now) c.args.volume c.args.cylinder c.requires.rule
    c.prepare.new.site c.prepare.ensures.site _ c.write_change.new.site c.in-Err.ensures.site_ (λ tl. g.met.S.Site.counted c.write_change.new.site tl)
    c.in-Err.ensures.copies c.write_change.new.rows c.write_change.ensures.rows
    _ refl c.write_change.new.used.items c.in-Err.ensures.used.failed c.give_up.new.requests (gone_is c.args.host (ready_for c.args.volume c.args.cylinder) c.core.inside.requests c.is_some-had.result (c.is_some-had.ensures ∙ ap is_some c.of.ensures) c.ask.new.requests c.in-Ok-ask.ensures.ok c.give_up.new.requests c.give_up.ensures) c.faults-fault.result c.faults-fault.ensures
    (session_data c.enter.new.session) (c.enter.ensures ∙ (λ i. with_reply c.args.host (c.in-Ok.ensures.copy i) stopped (Some c.faults-fault.result) (c.writes-mark.ensures i) ((c.in-Err.ensures.session.stopped ∙ (λ j. with_stop (S.faults c.write_change.new.site) (c.prepare.ensures.session j))) i)))

pub returns-in-Err-clause-event : goal.returns-in-Err-clause-event
returns-in-Err-clause-event g c =
    let S = g.S.Site in
    unmarked_event g.row.S.Denot S c.args.core.now c.core.view_is c.core.invariant c.args.host (call_of c.args.call.now) c.args.volume c.args.cylinder c.requires.rule
    c.prepare.new.site c.prepare.ensures.site _ c.write_change.new.site c.in-Err.ensures.site_ (λ tl. g.met.S.Site.counted c.write_change.new.site tl)
    c.in-Err.ensures.copies c.write_change.new.rows c.write_change.ensures.rows
    _ refl c.write_change.new.used.items c.in-Err.ensures.used.failed c.give_up.new.requests (gone_is c.args.host (ready_for c.args.volume c.args.cylinder) c.core.inside.requests c.is_some-had.result (c.is_some-had.ensures ∙ ap is_some c.of.ensures) c.ask.new.requests c.in-Ok-ask.ensures.ok c.give_up.new.requests c.give_up.ensures) c.faults-fault.result c.faults-fault.ensures
    (session_data c.enter.new.session) (c.enter.ensures ∙ (λ i. with_reply c.args.host (c.in-Ok.ensures.copy i) stopped (Some c.faults-fault.result) (c.writes-mark.ensures i) ((c.in-Err.ensures.session.stopped ∙ (λ j. with_stop (S.faults c.write_change.new.site) (c.prepare.ensures.session j))) i)))

-- ---- there is room

pub write_change-requires-clause-room : goal.write_change-requires-clause-room
write_change-requires-clause-room g c = c.in-Ok.ensures.room_site

pub write_change-requires-clause-room_console : goal.write_change-requires-clause-room_console
write_change-requires-clause-room_console g c = c.in-Ok.ensures.room_console

pub note-requires : goal.note-requires
note-requires g c = record { room = subst (λ (e : _). 1 ≤ e.spare) (sym c.write_change.ensures.session.events_) c.in-Ok.ensures.room_events }

pub enter-requires-clause-few : goal.enter-requires-clause-few
enter-requires-clause-few g c =
    subst (λ (h : _). length h.items ≤ ENTRY_LIMIT) (sym c.write_change.ensures.session.history_)
    (subst (λ (d : SessionData). length d.history ≤ ENTRY_LIMIT) (sym c.prepare.ensures.session) c.core.invariant.whole.shaped.few)

pub enter-requires-clause-entries : goal.enter-requires-clause-entries
enter-requires-clause-entries g c =
    subst (λ (h : _). AreEntries h.items) (sym c.write_change.ensures.session.history_)
    (subst (λ (d : SessionData). AreEntries d.history) (sym c.prepare.ensures.session) c.core.invariant.counted.entries)

pub enter-requires-clause-room : goal.enter-requires-clause-room
enter-requires-clause-room g c = subst (λ (h : _). 1 ≤ h.spare) (sym c.write_change.ensures.session.history_) c.in-Ok.ensures.room

pub enter-requires-clause-room_marks : goal.enter-requires-clause-room_marks
enter-requires-clause-room_marks g c = subst (λ (m : _). 1 ≤ m.spare) (sym c.write_change.ensures.session.marks_) c.in-Ok.ensures.room_marks

pub enter-requires-clause-room_events : goal.enter-requires-clause-room_events
enter-requires-clause-room_events g c = subst (λ (e : _). 1 ≤ e.spare) (sym c.write_change.ensures.session.events_) c.in-Ok.ensures.room_events

-- ---- after want of memory nothing changed but the room

pub returns-in_default-clause-event : goal.returns-in_default-clause-event
returns-in_default-clause-event g c = left_same g.S.Site c.core.view_is c.prepare.ensures.site _ (session_data c.prepare.new.session) refl c.prepare.ensures.session

pub returns-in_default-ask-clause-event : goal.returns-in_default-ask-clause-event
returns-in_default-ask-clause-event g c = left_same g.S.Site c.core.view_is c.prepare.ensures.site c.ask.new.requests (session_data c.prepare.new.session) c.in_default-ask.ensures.err c.prepare.ensures.session

-- ---- what it leaves of the site, and that it goes on where no write fails

pub returns-in_default-clause-devices : goal.returns-in_default-clause-devices
returns-in_default-clause-devices g c = left_spares g.S.Site c.core.view_is c.prepare.ensures.site CHANGE_ITEMS

pub returns-in_default-clause-room : goal.returns-in_default-clause-room
returns-in_default-clause-room g c = λ untold. left_room g.S.Site c.core.view_is c.prepare.ensures.site

pub returns-in_default-ask-clause-devices : goal.returns-in_default-ask-clause-devices
returns-in_default-ask-clause-devices g c = left_spares g.S.Site c.core.view_is c.prepare.ensures.site CHANGE_ITEMS

pub returns-in_default-ask-clause-room : goal.returns-in_default-ask-clause-room
returns-in_default-ask-clause-room g c = λ untold. left_room g.S.Site c.core.view_is c.prepare.ensures.site

pub returns-in-Ok-write_change-clause-devices : goal.returns-in-Ok-write_change-clause-devices
returns-in-Ok-write_change-clause-devices g c = left_writes g.S.Site c.core.view_is c.prepare.ensures.site CHANGE_ITEMS c.write_change.ensures.site_.devices

pub returns-in-Ok-write_change-clause-room : goal.returns-in-Ok-write_change-clause-room
returns-in-Ok-write_change-clause-room g c = λ untold. absurd untold

pub returns-in-Err-clause-devices : goal.returns-in-Err-clause-devices
returns-in-Err-clause-devices g c = left_writes g.S.Site c.core.view_is c.prepare.ensures.site CHANGE_ITEMS c.write_change.ensures.site_.devices

pub returns-in-Err-clause-room : goal.returns-in-Err-clause-room
returns-in-Err-clause-room g c = λ untold. absurd untold

pub returns-in-Err-clause-only_reads_fail : goal.returns-in-Err-clause-only_reads_fail
returns-in-Err-clause-only_reads_fail g c = λ but never. works_always c.write_change.result (c.write_change.ensures.site_.works but (left_sound g.S.Site c.core.view_is c.prepare.ensures.site but never)) (ap is_err c.in-Err.is)

-- ---- its chooser stays

pub returns-in_default-clause-chooser : goal.returns-in_default-clause-chooser
returns-in_default-clause-chooser g c = ap (λ (z : CoreValue g.row.S.Denot g.row.C.Denot). z.chooser) c.core.view_is

pub returns-in_default-ask-clause-chooser : goal.returns-in_default-ask-clause-chooser
returns-in_default-ask-clause-chooser g c = ap (λ (z : CoreValue g.row.S.Denot g.row.C.Denot). z.chooser) c.core.view_is

pub returns-in-Ok-write_change-clause-chooser : goal.returns-in-Ok-write_change-clause-chooser
returns-in-Ok-write_change-clause-chooser g c = ap (λ (z : CoreValue g.row.S.Denot g.row.C.Denot). z.chooser) c.core.view_is

pub returns-in-Err-clause-chooser : goal.returns-in-Err-clause-chooser
returns-in-Err-clause-chooser g c = ap (λ (z : CoreValue g.row.S.Denot g.row.C.Denot). z.chooser) c.core.view_is
