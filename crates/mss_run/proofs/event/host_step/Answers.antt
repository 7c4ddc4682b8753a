use Rattle.std.proofs.Common.{◌≡◌, ℕ, true, length, None, sym, ◌∙◌}
use Rattle.std.specs.Prelude.{is_some}
use Rattle.channel_commands.specs.Data.{CallData}
use Rattle.channel_commands.specs.Views.{call_of}
use Rattle.core_state.specs.CoreValue.{CoreData, seen_core}
use Rattle.core_state.specs.HostEvents.{HostEvent, IsSame}
use Rattle.core_state.specs.IsCore.{IsCore}
use Rattle.host_events.specs.Answers.{told_of}
use Rattle.host_events.proofs.RuleFacts.{core_seen}
use Rattle.volume_copy.specs.Beside.{asked_copy}
use Rattle.mss_run.specs.Happens.{is_in_vain}
use Rattle.quiet_events.proofs.OtherDevices.{same_wait, work_there}
use Rattle.mss_run.proofs.EventFacts.{core_read, happens, later_read, read_at, read_on, vain, waits_vain}
use Rattle.mss_run.proofs.GoingOn.{stays_going}
use Rattle.mss_run.proofs.event.host_step.Goals as goal

pub returns-clause-history : goal.returns-clause-history
returns-clause-history g c =
    let before : CoreData = seen_core g.S.Site c.args.copied.now.core in
    let new : CoreData = seen_core g.S.Site c.host_event-answer.new.self.core in
    let h : ℕ = c.args.host in
    let call : CallData = call_of c.args.call.now in
    let told = told_of c.host_event-answer.result in
    let read = read_at (is_some (asked_copy c.args.copied.now.copier)) g.S.Site.tells before (λ (old : CoreData). HostEvent g.S.Site.tells old h call told new) c.host_event-answer.ensures.event in
    let old : CoreData = record before { site = read.0 } in
    let kept : old.stopped ≡ None → IsCore old = λ none. core_read before read.0 (core_seen g.S.Site c.args.copied.now.core (c.entries_beside-entries.ensures.kept none)) in
    happens old h call new told c.entries_beside-entries.ensures.few
    (c.events_add_one_entry_at_most.ensures old h call told new kept read.2)
    (c.answers_have_their_causes.ensures.forth old h call told new kept read.2)

pub returns-clause-later : goal.returns-clause-later
returns-clause-later g c =
    let before : CoreData = seen_core g.S.Site c.args.copied.now.core in
    let new : CoreData = seen_core g.S.Site c.host_event-answer.new.self.core in
    let h : ℕ = c.args.host in
    let call : CallData = call_of c.args.call.now in
    let told = told_of c.host_event-answer.result in
    let read = read_at (is_some (asked_copy c.args.copied.now.copier)) g.S.Site.tells before (λ (old : CoreData). HostEvent g.S.Site.tells old h call told new) c.host_event-answer.ensures.event in
    let old : CoreData = record before { site = read.0 } in
    let kept : old.stopped ≡ None → IsCore old = λ none. core_read before read.0 (core_seen g.S.Site c.args.copied.now.core (c.entries_beside-entries.ensures.kept none)) in
    later_read g.S.Site.tells before new read.0 read.1 (c.events_are_later.ensures old h call told new kept read.2)

pub returns-clause-in_vain : goal.returns-clause-in_vain
returns-clause-in_vain g c = λ is.
    let tells = g.S.Site.tells in
    let before : CoreData = seen_core g.S.Site c.args.copied.now.core in
    let new : CoreData = seen_core g.S.Site c.host_event-answer.new.self.core in
    let h : ℕ = c.args.host in
    let call : CallData = call_of c.args.call.now in
    let told = told_of c.host_event-answer.result in
    let vain_ : is_in_vain told (length before.events) (length new.events) ≡ true = sym (c.is_in_vain-in_vain.ensures ∙ (λ i. is_in_vain told (c.events_of-before.ensures i) (c.events_of-after.ensures i))) ∙ is in
    read_on (is_some (asked_copy c.args.copied.now.copier)) tells before (λ (old : CoreData). HostEvent tells old h call told new) (λ (old : CoreData). IsSame tells old new) (λ site event.
    let old : CoreData = record before { site = site } in
    let kept : old.stopped ≡ None → IsCore old = λ none. core_read before site (core_seen g.S.Site c.args.copied.now.core (c.entries_beside-entries.ensures.kept none)) in
    vain tells old h call new (λ w waited. c.waits_change_requests_alone.ensures.waits old h call w new kept waited) told event vain_)
    c.host_event-answer.ensures.event

pub returns-clause-sound : goal.returns-clause-sound
returns-clause-sound g c = c.host_event-answer.ensures.devices.sound

pub returns-clause-only_reads_fail : goal.returns-clause-only_reads_fail
returns-clause-only_reads_fail g c = λ but never going.
    let before : CoreData = seen_core g.S.Site c.args.copied.now.core in
    let new : CoreData = seen_core g.S.Site c.host_event-answer.new.self.core in
    let h : ℕ = c.args.host in
    let call : CallData = call_of c.args.call.now in
    let told = told_of c.host_event-answer.result in
    let read = read_at (is_some (asked_copy c.args.copied.now.copier)) g.S.Site.tells before (λ (old : CoreData). HostEvent g.S.Site.tells old h call told new) c.host_event-answer.ensures.event in
    let old : CoreData = record before { site = read.0 } in
    let kept : old.stopped ≡ None → IsCore old = λ none. core_read before read.0 (core_seen g.S.Site c.args.copied.now.core (c.entries_beside-entries.ensures.kept none)) in
    stays_going g.S.Site.tells old h new call (λ w event. c.waits_change_requests_alone.ensures.waits old h call w new kept event) told read.2
    (c.host_event-answer.ensures.only_reads_fail but never going) ∙ going

pub returns-clause-waits : goal.returns-clause-waits
returns-clause-waits g c = λ is.
    let tells = g.S.Site.tells in
    let before : CoreData = seen_core g.S.Site c.args.copied.now.core in
    let new : CoreData = seen_core g.S.Site c.host_event-answer.new.self.core in
    let h : ℕ = c.args.host in
    let call : CallData = call_of c.args.call.now in
    let told = told_of c.host_event-answer.result in
    let vain_ : is_in_vain told (length before.events) (length new.events) ≡ true = sym (c.is_in_vain-in_vain.ensures ∙ (λ i. is_in_vain told (c.events_of-before.ensures i) (c.events_of-after.ensures i))) ∙ is in
    let read = read_at (is_some (asked_copy c.args.copied.now.copier)) tells before (λ (old : CoreData). HostEvent tells old h call told new) c.host_event-answer.ensures.event in
    let old : CoreData = record before { site = read.0 } in
    let kept : old.stopped ≡ None → IsCore old = λ none. core_read before read.0 (core_seen g.S.Site c.args.copied.now.core (c.entries_beside-entries.ensures.kept none)) in
    same_wait tells old new (vain tells old h call new (λ w waited. c.waits_change_requests_alone.ensures.waits old h call w new kept waited) told read.2 vain_) h call
    (waits_vain tells old h call new (λ w waited same. c.waits_that_put_nothing_down_are_in_vain.ensures old h call w new waited same) told read.2 vain_)

pub returns-clause-rests : goal.returns-clause-rests
returns-clause-rests g c = λ rest n idle.
    let tells = g.S.Site.tells in
    let before : CoreData = seen_core g.S.Site c.args.copied.now.core in
    let new : CoreData = seen_core g.S.Site c.host_event-answer.new.self.core in
    let h : ℕ = c.args.host in
    let call : CallData = call_of c.args.call.now in
    let told = told_of c.host_event-answer.result in
    let read = read_at (is_some (asked_copy c.args.copied.now.copier)) tells before (λ (old : CoreData). HostEvent tells old h call told new) c.host_event-answer.ensures.event in
    c.replies_at_rest_give_no_work.ensures (record before { site = read.0 }) h call told new read.2 rest n (work_there before read.0 n idle)
