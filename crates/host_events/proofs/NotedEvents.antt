-- The events that are put down are those that changed something.
use Rattle.std.proofs.Common.{◌≡◌, ◌≢◌, inl, inr, ℕ, true, false, List, [], ◌∷◌, ◌++◌, None, is_some, length, refl, sym, ◌∙◌, ap, arith, length-append}
use Rattle.std.specs.Prelude.{not}
use Rattle.std.proofs.lemmas.Bool.{cond_both, false≢true, and_parts}
use Rattle.channel_commands.specs.Data.{CallData}
use Rattle.ckd_plain.specs.History.{EntryData}
use Rattle.fault_queue.specs.declared.queue.Request.{Request}
use Rattle.fault_queue.specs.Requests.{RequestsData, request_of, without_request}
use Rattle.fault_queue.proofs.RequestFacts.{request_same}
use Rattle.volume_table.specs.Listed.{row_in_list}
use Rattle.volume_table.specs.declared.changes.Change.TheVariants as change
use Rattle.core_state.specs.declared.rule.HostRule.{HostRule}
use Rattle.core_state.specs.declared.rule.HostRule.TheVariants.{IsHeld, Faults}
use Rattle.core_state.specs.declared.session.Event.TheVariants.{Host}
use Rattle.core_state.specs.declared.session.Message.{Message}
use Rattle.core_state.specs.Agrees.{message_of}
use Rattle.core_state.specs.CoreValue.{CoreData}
use Rattle.core_state.specs.HostEvents.{HostTold, Holds, Asks, HostEvent}
use Rattle.core_state.specs.HostRules.{request_for, host_rule}
use Rattle.core_state.specs.IsCore.{IsCore}
use Rattle.core_state.specs.Steps.{with_event, ends_request, going_on}
use Rattle.host_events.specs.Leaves.{NotesChange}
use Rattle.host_events.proofs.EventLeaves.{going, asked_of, marked_of}
use Rattle.host_events.proofs.Outcomes.{IsMarked, EachOutcome, outcome}
use Rattle.host_events.proofs.RuleFacts.{rule_held}
use Rattle.host_events.proofs.Waits.{ended, unasked, asked_last, queued}

one_more : (A : Type 0) (xs : List A) (x : A) → xs ++ x ∷ [] ≢ xs
one_more A xs x same = let e = ap (λ (l : List A). length l) same in omega (arith, e, length-append xs (x ∷ []))

module _ (tells : Type 0) (core : CoreData) (kept : core.stopped ≡ None → IsCore core) (h : ℕ) (core' : CoreData) where
  abbrev Notes : Type 0
  Notes = NotesChange tells core (Host h) core'

  -- one of the lists has one more
  grown : (A : Type 0) (part : CoreData → List A) → ((c d : CoreData) → part (record c { site = d.site; events = d.events }) ≡ part c) → (x : A)
      → part core' ≡ part core ++ x ∷ [] → core'.events ≡ core.events ++ Host h ∷ [] → Notes
  grown A part blind x more events = inr ((λ same. one_more A (part core) x (sym more ∙ sym (blind core' core) ∙ ap part same)), events)

  entered : (e : EntryData) → core'.history ≡ core.history ++ e ∷ [] → core'.events ≡ core.events ++ Host h ∷ [] → Notes
  entered e more events = grown EntryData (λ c. c.history) (λ c d. refl) e more events

  module _ (call : CallData) where
    -- the host's request is gone
    held_ended : (frame : ℕ) → host_rule core h call ≡ IsHeld frame → ends_request core h call ≡ true → core' ≡ record (with_event (Host h) (going_on core h call)) { site = core'.site } → Notes
    held_ended frame rule ends is = inr (
      (λ same.
          let gone : without_request h core.requests ≡ core.requests =
          sym (ap (λ (c : CoreData). c.requests) is ∙ ap (λ (c : CoreData). c.requests) (ended core h call ends)) ∙ ap (λ (c : CoreData). c.requests) same in
          let once = (kept (rule_held core h call kept frame rule).goes.going).requests_ in
          let none : request_of core.requests h ≡ None = ap (λ (requests : RequestsData). request_of requests h) (sym gone) ∙ request_same core.requests h None once in
          let some : is_some (request_of core.requests h) ≡ true = (and_parts (is_some (request_of core.requests h)) (not (is_some (request_for core h call))) ends).0 in
          false≢true (sym (ap is_some none) ∙ some)),
      ap (λ (c : CoreData). c.events) is ∙ ap (λ (c : CoreData). c.events ++ Host h ∷ []) (ended core h call ends),
    )

    held : (frame : ℕ) → host_rule core h call ≡ IsHeld frame → Holds tells core h call core' → Notes
    held frame rule does =
        cond_both (ends_request core h call) (with_event (Host h) (going_on core h call)) core (λ (c : CoreData). core' ≡ record c { site = core'.site } → Notes)
        (held_ended frame rule) (λ _ is. inl (does.0, is)) does.1

    -- it is put last
    asked_noted : (volume cylinder : ℕ) → host_rule core h call ≡ Faults volume cylinder → is_some (request_for core h call) ≡ false
        → core' ≡ record (asked_of core h call volume cylinder (going_on core h call)) { site = core'.site } → Notes
    asked_noted volume cylinder rule other is =
        let last = asked_last core h call (unasked core h call kept volume cylinder rule other) volume cylinder in
        grown (ℕ × Request) (λ c. c.requests) (λ c d. refl) (h, queued core h call volume cylinder)
        (ap (λ (c : CoreData). c.requests) is ∙ ap (λ (c : CoreData). c.requests) last)
        (ap (λ (c : CoreData). c.events) is ∙ ap (λ (c : CoreData). c.events ++ Host h ∷ []) last)

    asked : (volume cylinder : ℕ) → host_rule core h call ≡ Faults volume cylinder → Asks tells core h call volume cylinder core' → Notes
    asked volume cylinder rule does =
        cond_both (is_some (request_for core h call)) core (asked_of core h call volume cylinder (going_on core h call)) (λ (c : CoreData). core' ≡ record c { site = core'.site } → Notes)
        (λ _ is. inl (does.0, is)) (asked_noted volume cylinder rule) does.1

    -- the change of the row has its message
    marked : (volume cylinder : ℕ) → IsMarked tells core h call volume cylinder core' → Notes
    marked volume cylinder marks =
        grown Message (λ c. c.console) (λ c d. refl) (message_of core'.site.writes volume (change.Changed cylinder) (row_in_list core.rows))
        (ap (λ (c : CoreData). c.console) marks.1
        ∙ going core h call (λ (c : CoreData). (marked_of core h call volume cylinder core'.site c).console ≡ core.console ++ message_of core'.site.writes volume (change.Changed cylinder) (row_in_list core.rows) ∷ []) refl refl)
        (ap (λ (c : CoreData). c.events) marks.1
        ∙ going core h call (λ (c : CoreData). (marked_of core h call volume cylinder core'.site c).events ≡ core.events ++ Host h ∷ []) refl refl)

    abbrev OnRule : HostRule → HostTold → Type 0
    OnRule rule told = host_rule core h call ≡ rule → Notes

    each : EachOutcome tells core h call core' OnRule
    each = record {
      stops = λ fault same is. inl same;
      fills = λ same is. inl same;
      lacks = λ rule late same is. inl same;
      is_busy = λ owner same is. inl same;
      moves = λ cylinder same is. inl same;
      holds = λ frame does is. held frame is does;
      responds = λ done is. entered _ (ap (λ (c : CoreData). c.history) done.1) (ap (λ (c : CoreData). c.events) done.1);
      fails = λ fault done is. entered _ (ap (λ (c : CoreData). c.history) done.1) (ap (λ (c : CoreData). c.events) done.1);
      is_full = λ done is. entered _ (ap (λ (c : CoreData). c.history) done.1) (ap (λ (c : CoreData). c.events) done.1);
      asks = λ volume cylinder does is. asked volume cylinder is does;
      marks = λ volume cylinder marks is. marked volume cylinder marks;
      unmarked = λ volume cylinder fault un is. entered _ (ap (λ (c : CoreData). c.history) un.1) (ap (λ (c : CoreData). c.events) un.1);
      unread = λ c volume frame un is. entered _ (ap (λ (k : CoreData). k.history) un.1) (ap (λ (k : CoreData). k.events) un.1);
      runs = λ c volume frame code argument chained status bytes ran is. entered _ (ap (λ (k : CoreData). k.history) ran.3) (ap (λ (k : CoreData). k.events) ran.3);
      unwritten = λ c volume frame code argument chained fault un is. entered _ (ap (λ (k : CoreData). k.history) un.2) (ap (λ (k : CoreData). k.events) un.2);
    }

  pub notes : (call : CallData) (told : HostTold) → HostEvent tells core h call told core' → Notes
  notes call told event = outcome tells core h core' OnRule call (each call) (host_rule core h call) told event refl
