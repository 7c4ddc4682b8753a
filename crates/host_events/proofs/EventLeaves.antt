-- What an event of a host adds, and what it leaves as it was.
use Rattle.std.proofs.Common.{◌≡◌, ◌≢◌, ℕ, zero, suc, ◌+◌, ◌-◌, ◌/◌, ◌≤◌, Bool, if◌then◌else◌, List, [], ◌∷◌, ◌++◌, Option, Some, None, is_some, refl, sym, ◌∙◌, ap, subst, arith, get_or-set_other}
use Rattle.std.specs.Prelude.{slice_set}
use Rattle.std.proofs.lemmas.Bool.{cond_both}
use Rattle.mss_base.specs.Content.{Content, SiteLog, content, ChangesBlock}
use Rattle.mss_base.specs.declared.place.UnitNo.TheVariants.{Staging, Cartridge}
use Rattle.mss_base.specs.declared.place.BlockPlace.{BlockPlace}
use Rattle.mss_base.proofs.Moments.{started, weaker}
use Rattle.channel_commands.specs.declared.command.Command.{Command}
use Rattle.channel_commands.specs.Data.{CallData, done, no_space, stopped}
use Rattle.ckd_plain.specs.declared.host.HostState.{HostState}
use Rattle.ckd_plain.specs.Plain.{fresh_host, with_open_chain}
use Rattle.ckd_plain.specs.History.{EntryData}
use Rattle.ckd_plain.specs.Effects.{prior_number}
use Rattle.ckd_plain.specs.declared.unit_check.UnitCheck.TheVariants as check
use Rattle.track_engine.specs.Tracks.{tracks_at}
use Rattle.core_state.specs.Rows.{Rewrites}
use Rattle.volume_table.specs.Row.{RowValue}
use Rattle.volume_table.specs.declared.changes.Change.TheVariants as change
use Rattle.table_pair.specs.Pair.{ChangesRow, OldOrNew}
use Rattle.ckd_track.specs.Data.{RecordData}
use Rattle.track_engine.specs.Writing.{WritesTrack, IsStep}
use Rattle.fault_queue.specs.declared.queue.Request.{Request}
use Rattle.fault_queue.specs.declared.queue.RequestState.{RequestState}
use Rattle.fault_queue.specs.declared.queue.RequestState.TheVariants as request
use Rattle.fault_queue.specs.Requests.{RequestsData, request_of, without_request, with_state, asked_as, IsOnce}
use Rattle.fault_queue.proofs.RequestFacts.{request_other, once_put, with_state_is}
use Rattle.core_state.specs.declared.session.Event.TheVariants.{Host}
use Rattle.core_state.specs.declared.rule.HostRule.{HostRule}
use Rattle.core_state.specs.declared.rule.HostRule.TheVariants.{Marks, Runs}
use Rattle.shown_volumes.specs.Shown.{RowsOf}
use Rattle.core_state.specs.Agrees.{handed_rows}
use Rattle.core_state.specs.Beginning.{KeepsBeginning}
use Rattle.core_state.specs.Chains.{OneOf}
use Rattle.core_state.specs.CoreValue.{CoreData, DevicesSeen}
use Rattle.core_state.specs.Devices.{StillHold, WriteRow, Run, WritesFor, answer_on}
use Rattle.core_state.specs.HostEvents.{HostTold, response, exception, equipment, Holds, Asks, IsSame, run_of, page_under, HostEvent}
use Rattle.core_state.specs.HostRules.{request_for, host_rule}
use Rattle.core_state.specs.IsCore.{IsCore}
use Rattle.core_state.specs.Pins.{host_at, put_host, page_of}
use Rattle.core_state.specs.Steps.{with_event, with_row, after_reply, after_stop, after_use, entry_of, with_change, touching, ends_request, going_on, with_request}
use Rattle.core_state.proofs.ChangeLemmas.{handed-push}
use Rattle.core_state.proofs.RuleWalks.{none_some, some_of}
use Rattle.host_events.specs.Leaves.{KeepsHistory, EntersAsTold, LeavesOthers, LeavesMachine, LeavesCartridges}
use Rattle.host_events.proofs.Outcomes.{IsMarked, EachOutcome, outcome}
use Rattle.host_events.proofs.RuleFacts.{rule_goes, rule_stopped, rule_marks, OnMark}

-- ---- a part of the core that waits and marks leave

-- c with the devices, requests, events, rows and their slots, messages and tasks of d
abbrev pub other_than : CoreData → CoreData → CoreData
other_than c d = record c { site = d.site; requests = d.requests; events = d.events; rows = d.rows; used = d.used; console = d.console; tasks = d.tasks }

module _ (core : CoreData) (h : ℕ) (call : CallData) where
  -- what holds with the host's request, and without it, holds of the core that goes on
  pub going : (P : CoreData → Type 0) → P core → P (record core { requests = without_request h core.requests }) → P (going_on core h call)
  going P here ended = cond_both (ends_request core h call) (record core { requests = without_request h core.requests }) core P (λ _. ended) (λ _. here)

  abbrev pub asked_of : ℕ → ℕ → CoreData → CoreData
  asked_of volume cylinder c = with_event (Host h) (with_request h volume cylinder request.Queued c)

  abbrev pub marked_of : ℕ → ℕ → DevicesSeen → CoreData → CoreData
  marked_of volume cylinder site c =
      with_event (Host h) (touching (volume, page_of cylinder) (with_request h volume cylinder request.Ready (with_change volume (change.Changed cylinder) (record c { site = site }))))

  module _ (tells : Type 0) (core' : CoreData) {A : Type 0} (part : CoreData → A) (blind : (c d : CoreData) → part (other_than c d) ≡ part c) where
    same_part : IsSame tells core core' → part core' ≡ part core
    same_part same = ap part same.1 ∙ blind core (record core { site = core'.site })

    held_part : Holds tells core h call core' → part core' ≡ part core
    held_part held =
        ap part held.1
        ∙ cond_both (ends_request core h call) (with_event (Host h) (going_on core h call)) core (λ (c : CoreData). part (record c { site = core'.site }) ≡ part core)
        (λ _. going (λ (c : CoreData). part (record (with_event (Host h) c) { site = core'.site }) ≡ part core)
        (blind core (record (with_event (Host h) core) { site = core'.site }))
        (blind core (record (with_event (Host h) (record core { requests = without_request h core.requests })) { site = core'.site })))
        (λ _. blind core (record core { site = core'.site }))

    asked_part : (volume cylinder : ℕ) → Asks tells core h call volume cylinder core' → part core' ≡ part core
    asked_part volume cylinder asks =
        ap part asks.1
        ∙ cond_both (is_some (request_for core h call)) core (asked_of volume cylinder (going_on core h call)) (λ (c : CoreData). part (record c { site = core'.site }) ≡ part core)
        (λ _. blind core (record core { site = core'.site }))
        (λ _. going (λ (c : CoreData). part (record (asked_of volume cylinder c) { site = core'.site }) ≡ part core)
        (blind core (record (asked_of volume cylinder core) { site = core'.site }))
        (blind core (record (asked_of volume cylinder (record core { requests = without_request h core.requests })) { site = core'.site })))

    marked_part : (volume cylinder : ℕ) → IsMarked tells core h call volume cylinder core' → part core' ≡ part core
    marked_part volume cylinder marks =
        ap part marks.1
        ∙ going (λ (c : CoreData). part (marked_of volume cylinder core'.site c) ≡ part core)
        (blind core (marked_of volume cylinder core'.site core))
        (blind core (marked_of volume cylinder core'.site (record core { requests = without_request h core.requests })))

-- ---- the history

if_stopped : (o : Option ℕ) (fault : ℕ) (A B : Type 0) → o ≡ Some fault → A → OneOf (is_some o) A B
if_stopped None fault A B is a = absurd (none_some fault is)
if_stopped (Some x) fault A B is a = a

if_going : (o : Option ℕ) (A B : Type 0) → o ≡ None → B → OneOf (is_some o) A B
if_going None A B is b = b
if_going (Some x) A B is b = absurd (none_some x (sym is))

module _ (tells : Type 0) (core : CoreData) (kept : core.stopped ≡ None → IsCore core) (h : ℕ) (core' : CoreData) where
  module _ (call : CallData) where
    keeps : ((A : Type 0) (part : CoreData → A) → ((c d : CoreData) → part (other_than c d) ≡ part c) → part core' ≡ part core) → KeepsHistory core core'
    keeps stays = record { history = stays (List EntryData) (λ c. c.history) (λ c d. refl); marks = stays (List ℕ) (λ c. c.marks) (λ c d. refl) }

    same_keeps : IsSame tells core core' → KeepsHistory core core'
    same_keeps same = keeps (λ A part blind. same_part core h call tells core' part blind same)

    -- the row that is marked is there
    mark_there : (volume cylinder : ℕ) → host_rule core h call ≡ Marks volume cylinder → OnMark core h call volume cylinder
    mark_there volume cylinder is = rule_marks core h call kept volume cylinder is

    abbrev Enters : HostRule → HostTold → Type 0
    Enters rule told = host_rule core h call ≡ rule → EntersAsTold core h call told core'

    enters_each : EachOutcome tells core h call core' Enters
    enters_each = record {
      stops = λ fault same is. if_stopped core.stopped fault (KeepsHistory core core') _ (rule_stopped core h call kept fault is) (same_keeps same);
      fills = λ same is. same_keeps same;
      lacks = λ rule late same is. same_keeps same;
      is_busy = λ owner same is. same_keeps same;
      moves = λ cylinder same is. same_keeps same;
      holds = λ frame held is. keeps (λ A part blind. held_part core h call tells core' part blind held);
      responds = λ done is. (refl, None, record { history = ap (λ (c : CoreData). c.history) done.1; marks = ap (λ (c : CoreData). c.marks) done.1 });
      fails = λ fault done is. (refl, Some fault, record { history = ap (λ (c : CoreData). c.history) done.1; marks = ap (λ (c : CoreData). c.marks) done.1 });
      is_full = λ done is. (refl, None, record { history = ap (λ (c : CoreData). c.history) done.1; marks = ap (λ (c : CoreData). c.marks) done.1 });
      asks = λ volume cylinder asks is. keeps (λ A part blind. asked_part core h call tells core' part blind volume cylinder asks);
      marks = λ volume cylinder marks is. keeps (λ A part blind. marked_part core h call tells core' part blind volume cylinder marks);
      unmarked = λ volume cylinder fault un is.
          let on = mark_there volume cylinder is in
          let at : fault ≡ core'.site.faults = (un.0 on.r on.there).cause.count in
          if_going core.stopped (KeepsHistory core core') _ on.goes.going
          (record { history = ap (λ (c : CoreData). c.history) un.1 ∙ (λ i. core.history ++ entry_of core.history h call stopped (Some (sym at i)) ∷ []); marks = ap (λ (c : CoreData). c.marks) un.1 });
      unread = λ c volume frame un is. (refl, Some core'.site.faults, record { history = ap (λ (c : CoreData). c.history) un.1; marks = ap (λ (c : CoreData). c.marks) un.1 });
      runs = λ c volume frame code argument chained status bytes ran is. (refl, None, record { history = ap (λ (c : CoreData). c.history) ran.3; marks = ap (λ (c : CoreData). c.marks) ran.3 });
      unwritten = λ c volume frame code argument chained fault un is.
          let at : fault ≡ core'.site.faults = un.1.cause.count in
          if_going core.stopped (KeepsHistory core core') _ (rule_goes core h call (Runs c volume frame) is tt).going
          (record { history = ap (λ (c : CoreData). c.history) un.2 ∙ (λ i. core.history ++ entry_of core.history h call stopped (Some (sym at i)) ∷ []); marks = ap (λ (c : CoreData). c.marks) un.2 });
    }

  pub enters : (call : CallData) (told : HostTold) → HostEvent tells core h call told core' → EntersAsTold core h call told core'
  enters call told event = outcome tells core h core' (λ k. Enters k) call (enters_each call) (host_rule core h call) told event refl

-- ---- what no event of a host changes

module _ (tells : Type 0) (core : CoreData) (h : ℕ) (core' : CoreData) where
  module _ {A : Type 0} (part : CoreData → A) (blind : (c d : CoreData) → part (other_than c d) ≡ part c)
      -- a reply leaves it too: part is of neither the history nor the hosts nor the recency
      (still : (c : CoreData) (history : List EntryData) (marks : List ℕ) (hosts : List HostState) (recency : List ℕ) (stopped : Option ℕ)
      → part (record c { history = history; marks = marks; hosts = hosts; recency = recency; stopped = stopped }) ≡ part c) where
    -- c with what an event of a host may change as in d
    all_of : (d : CoreData) → part (record (other_than core d) { history = d.history; marks = d.marks; hosts = d.hosts; recency = d.recency; stopped = d.stopped }) ≡ part core
    all_of d = still (other_than core d) d.history d.marks d.hosts d.recency d.stopped ∙ blind core d

    stays_each : (call : CallData) → EachOutcome tells core h call core' (λ rule told. part core' ≡ part core)
    stays_each call = record {
      stops = λ fault same. same_part core h call tells core' part blind same;
      fills = λ same. same_part core h call tells core' part blind same;
      lacks = λ rule late same. same_part core h call tells core' part blind same;
      is_busy = λ owner same. same_part core h call tells core' part blind same;
      moves = λ cylinder same. same_part core h call tells core' part blind same;
      holds = λ frame held. held_part core h call tells core' part blind held;
      responds = λ done. ap part done.1 ∙ all_of (after_reply core'.site h call None (response core h call) core);
      fails = λ fault done. ap part done.1 ∙ all_of (after_reply core'.site h call (Some fault) (equipment core h) core);
      is_full = λ done. ap part done.1 ∙ all_of (after_reply core'.site h call None (exception check.NoSpace no_space core h) core);
      asks = λ volume cylinder asks. asked_part core h call tells core' part blind volume cylinder asks;
      marks = λ volume cylinder marks. marked_part core h call tells core' part blind volume cylinder marks;
      unmarked = λ volume cylinder fault un. ap part un.1 ∙ all_of (after_stop core'.site h call (with_row volume (change.Changed cylinder) core));
      unread = λ c volume frame un. ap part un.1 ∙ all_of (after_reply core'.site h call (Some core'.site.faults) (equipment core h) core);
      runs = λ c volume frame code argument chained status bytes ran.
          ap part ran.3 ∙ all_of (after_reply core'.site h call None (done status bytes, ran.1) (after_use c (page_under core h volume) frame core));
      unwritten = λ c volume frame code argument chained fault un. ap part un.2 ∙ all_of (after_stop core'.site h call core);
    }

    stays : (call : CallData) (told : HostTold) → HostEvent tells core h call told core' → part core' ≡ part core
    stays call told event = outcome tells core h core' (λ k rule t. part core' ≡ part core) call (stays_each call) (host_rule core h call) told event

  pub leaves_machine : (call : CallData) (told : HostTold) → HostEvent tells core h call told core' → LeavesMachine core core'
  leaves_machine call told event = record {
    store = stays (λ c. c.store) (λ c d. refl) (λ c history marks hosts recency stopped. refl) call told event;
    rail = stays (λ c. c.rail) (λ c d. refl) (λ c history marks hosts recency stopped. refl) call told event;
    recorders = stays (λ c. c.recorders) (λ c d. refl) (λ c history marks hosts recency stopped. refl) call told event;
    owners = stays (λ c. c.owners) (λ c d. refl) (λ c history marks hosts recency stopped. refl) call told event;
    moving = stays (λ c. c.moving) (λ c d. refl) (λ c history marks hosts recency stopped. refl) call told event;
  }

  beginning_by : ((rows : RowsOf) → handed_rows rows core'.console ≡ handed_rows rows core.console) → (call : CallData) (told : HostTold) → HostEvent tells core h call told core' → KeepsBeginning core core'
  beginning_by handed call told event = record {
    config = stays (λ c. c.config) (λ c d. refl) (λ c history marks hosts recency stopped. refl) call told event;
    first_write = stays (λ c. c.first_write) (λ c d. refl) (λ c history marks hosts recency stopped. refl) call told event;
    first_faults = stays (λ c. c.first_faults) (λ c d. refl) (λ c history marks hosts recency stopped. refl) call told event;
    handed = handed;
  }

-- ---- the rows that were handed in

module _ (tells : Type 0) (core : CoreData) (h : ℕ) (core' : CoreData) where
  module _ (rows : RowsOf) where
    abbrev has : CoreData → RowsOf
    has c = handed_rows rows c.console

    abbrev Alike : CoreData → Type 0
    Alike c = has c ≡ has core

    handed_each : (call : CallData) → EachOutcome tells core h call core' (λ rule told. Alike core')
    handed_each call = record {
      stops = λ fault same. ap has same.1;
      fills = λ same. ap has same.1;
      lacks = λ rule late same. ap has same.1;
      is_busy = λ owner same. ap has same.1;
      moves = λ cylinder same. ap has same.1;
      holds = λ frame held.
          ap has held.1
          ∙ cond_both (ends_request core h call) (with_event (Host h) (going_on core h call)) core (λ (c : CoreData). Alike (record c { site = core'.site }))
          (λ _. going core h call (λ (c : CoreData). Alike (record (with_event (Host h) c) { site = core'.site })) refl refl) (λ _. refl);
      responds = λ done. ap has done.1;
      fails = λ fault done. ap has done.1;
      is_full = λ done. ap has done.1;
      asks = λ w cylinder asks.
          ap has asks.1
          ∙ cond_both (is_some (request_for core h call)) core (asked_of core h call w cylinder (going_on core h call)) (λ (c : CoreData). Alike (record c { site = core'.site }))
          (λ _. refl) (λ _. going core h call (λ (c : CoreData). Alike (record (asked_of core h call w cylinder c) { site = core'.site })) refl refl);
      marks = λ w cylinder marks.
          ap has marks.1
          ∙ going core h call (λ (c : CoreData). Alike (marked_of core h call w cylinder core'.site c)) (handed-push rows core.console _ refl) (handed-push rows core.console _ refl);
      unmarked = λ w cylinder fault un. ap has un.1;
      unread = λ c w frame un. ap has un.1;
      runs = λ c w frame code argument chained status bytes ran. ap has ran.3;
      unwritten = λ c w frame code argument chained fault un. ap has un.2;
    }

  pub keeps_beginning : (call : CallData) (told : HostTold) → HostEvent tells core h call told core' → KeepsBeginning core core'
  keeps_beginning call told event =
      beginning_by tells core h core' (λ rows. outcome tells core h core' (λ k rule t. Alike rows core') call (handed_each rows call) (host_rule core h call) told event) call told event

-- ---- other hosts

put_leaves : (hosts : List HostState) (h other : ℕ) (x : HostState) → 1 ≤ h → other ≢ h → host_at (put_host hosts h x) other ≡ host_at hosts other
put_leaves hosts zero other x low ne = absurd (omega (arith, low))
put_leaves hosts (suc n) zero x low ne = refl
put_leaves hosts (suc n) (suc k) x low ne =
    let e : suc n - 1 ≡ n = omega arith in
    (λ i. host_at (slice_set hosts (e i) x) (suc k)) ∙ get_or-set_other hosts n k x fresh_host (λ same. ne (ap suc same))

-- the request of another host, once one of a host is put in a state or last
asked_leaves : (requests : RequestsData) (h other : ℕ) (r : Request) → IsOnce requests → other ≢ h
    → request_of (if is_some (request_of requests h) then with_state h r.state requests else (requests ++ (h, r) ∷ [])) other ≡ request_of requests other
asked_leaves requests h other r once ne =
    cond_both (is_some (request_of requests h)) (with_state h r.state requests) (requests ++ (h, r) ∷ []) (λ (rs : RequestsData). request_of rs other ≡ request_of requests other)
    (λ there.
    let q = some_of (request_of requests h) there in
    ap (λ (rs : RequestsData). request_of rs other) (with_state_is requests h q.0 r.state q.1) ∙ request_other requests h other (Some (record q.0 { state = r.state })) once ne)
    (λ none. subst (λ (b : Bool). request_of (asked_as h r b requests) other ≡ request_of requests other) none (request_other requests h other (Some r) once ne))

module _ (tells : Type 0) (core : CoreData) (h : ℕ) (core' : CoreData) (low : 1 ≤ h) (once : IsOnce core.requests) (other : ℕ) (ne : other ≢ h) where
  abbrev OtherStays : CoreData → Type 0
  OtherStays c = (host_at c.hosts other ≡ host_at core.hosts other) × (request_of c.requests other ≡ request_of core.requests other)

  other_same : core' ≡ record core { site = core'.site } → OtherStays core'
  other_same is = (ap (λ (c : CoreData). host_at c.hosts other) is, ap (λ (c : CoreData). request_of c.requests other) is)

  -- without the host's request
  ended : request_of (without_request h core.requests) other ≡ request_of core.requests other
  ended = request_other core.requests h other None once ne

  other_replied : (x : HostState) → core'.hosts ≡ put_host core.hosts h x → core'.requests ≡ without_request h core.requests → OtherStays core'
  other_replied x hosts requests =
      (ap (λ (hs : List HostState). host_at hs other) hosts ∙ put_leaves core.hosts h other x low ne, ap (λ (rs : RequestsData). request_of rs other) requests ∙ ended)

  other_stopped : core'.hosts ≡ core.hosts → core'.requests ≡ core.requests → OtherStays core'
  other_stopped hosts requests = (ap (λ (hs : List HostState). host_at hs other) hosts, ap (λ (rs : RequestsData). request_of rs other) requests)

  module _ (call : CallData) where
    -- a request that is asked for, or marked
    asked_on : (volume cylinder : ℕ) (state : RequestState) → request_of (with_request h volume cylinder state (going_on core h call)).requests other ≡ request_of core.requests other
    asked_on volume cylinder state =
        going core h call (λ (c : CoreData). request_of (with_request h volume cylinder state c).requests other ≡ request_of core.requests other)
        (asked_leaves core.requests h other (record { volume = volume; cylinder = cylinder; state = state }) once ne)
        (asked_leaves (without_request h core.requests) h other (record { volume = volume; cylinder = cylinder; state = state }) (once_put core.requests h None once) ne ∙ ended)

    hosts_of : ((A : Type 0) (part : CoreData → A) → ((c d : CoreData) → part (other_than c d) ≡ part c) → part core' ≡ part core) → host_at core'.hosts other ≡ host_at core.hosts other
    hosts_of stays = stays HostState (λ c. host_at c.hosts other) (λ c d. refl)

    others_each : EachOutcome tells core h call core' (λ rule told. OtherStays core')
    others_each = record {
      stops = λ fault same. other_same same.1;
      fills = λ same. other_same same.1;
      lacks = λ rule late same. other_same same.1;
      is_busy = λ owner same. other_same same.1;
      moves = λ cylinder same. other_same same.1;
      holds = λ frame held. (
        hosts_of (λ A part blind. held_part core h call tells core' part blind held),
        ap (λ (c : CoreData). request_of c.requests other) held.1
            ∙ cond_both (ends_request core h call) (with_event (Host h) (going_on core h call)) core (λ (c : CoreData). request_of c.requests other ≡ request_of core.requests other)
            (λ _. going core h call (λ (c : CoreData). request_of c.requests other ≡ request_of core.requests other) refl ended) (λ _. refl),
      );
      responds = λ done. other_replied (response core h call).1 (ap (λ (c : CoreData). c.hosts) done.1) (ap (λ (c : CoreData). c.requests) done.1);
      fails = λ fault done. other_replied (equipment core h).1 (ap (λ (c : CoreData). c.hosts) done.1) (ap (λ (c : CoreData). c.requests) done.1);
      is_full = λ done. other_replied (exception check.NoSpace no_space core h).1 (ap (λ (c : CoreData). c.hosts) done.1) (ap (λ (c : CoreData). c.requests) done.1);
      asks = λ volume cylinder asks. (
        hosts_of (λ A part blind. asked_part core h call tells core' part blind volume cylinder asks),
        ap (λ (c : CoreData). request_of c.requests other) asks.1
            ∙ cond_both (is_some (request_for core h call)) core (asked_of core h call volume cylinder (going_on core h call)) (λ (c : CoreData). request_of c.requests other ≡ request_of core.requests other)
            (λ _. refl) (λ _. asked_on volume cylinder request.Queued),
      );
      marks = λ volume cylinder marks. (
        hosts_of (λ A part blind. marked_part core h call tells core' part blind volume cylinder marks),
        ap (λ (c : CoreData). request_of c.requests other) marks.1 ∙ asked_on volume cylinder request.Ready,
      );
      unmarked = λ volume cylinder fault un. other_stopped (ap (λ (c : CoreData). c.hosts) un.1) (ap (λ (c : CoreData). c.requests) un.1);
      unread = λ c volume frame un. other_replied (equipment core h).1 (ap (λ (k : CoreData). k.hosts) un.1) (ap (λ (k : CoreData). k.requests) un.1);
      runs = λ c volume frame code argument chained status bytes ran. other_replied ran.1 (ap (λ (k : CoreData). k.hosts) ran.3) (ap (λ (k : CoreData). k.requests) ran.3);
      unwritten = λ c volume frame code argument chained fault un. other_stopped (ap (λ (k : CoreData). k.hosts) un.2) (ap (λ (k : CoreData). k.requests) un.2);
    }

    other_stays : (told : HostTold) → HostEvent tells core h call told core' → OtherStays core'
    other_stays told event = outcome tells core h core' (λ k rule t. OtherStays core') call others_each (host_rule core h call) told event

pub leaves_others : (tells : Type 0) (core : CoreData) (h : ℕ) (call : CallData) (told : HostTold) (core' : CoreData) → 1 ≤ h → IsOnce core.requests → HostEvent tells core h call told core' → LeavesOthers core h core'
leaves_others tells core h call told core' low once event = record {
  hosts_ = λ other ne. (other_stays tells core h core' low once other ne call told event).0;
  requests_ = λ other ne. (other_stays tells core h core' low once other ne call told event).1;
}

-- ---- the devices

module _ (old : SiteLog) where
  abbrev AsBefore : Content → Type 0
  AsBefore now = (cartridge block : ℕ) → now (Cartridge cartridge) block ≡ content old (Cartridge cartridge) block

  unwritten : (new : SiteLog) → new ≡ old → LeavesCartridges old new
  unwritten new is = subst (LeavesCartridges old) (sym is) (started AsBefore old (λ cartridge block. refl))

  -- a row stands in the table
  row_written : (volume : ℕ) (row : RowValue) (new : SiteLog) → Rewrites volume row old new → LeavesCartridges old new
  row_written volume row new writes =
      weaker (ChangesRow volume (OldOrNew volume row (content old)) (content old)) AsBefore (λ now has cartridge block. has.others (Cartridge cartridge) block refl) old new writes

  -- a frame on a staging disk
  frame_written : (frame block : ℕ) (c : Command) (host : HostState) (new : SiteLog) (track : Option (List RecordData)) → WritesTrack c host (Staging frame) block old new track → LeavesCartridges old new
  frame_written frame block c host new None writes = unwritten new writes
  frame_written frame block c host new (Some track) writes =
      weaker (ChangesBlock (Staging frame) (block + host.head) (IsStep c (prior_number host.prior) (tracks_at (content old) (Staging frame) block host.head) track) (content old)) AsBefore
      (λ now has cartridge b. has.others (Cartridge cartridge) b refl) old new writes

module _ (tells : Type 0) (core : CoreData) (kept : core.stopped ≡ None → IsCore core) (h : ℕ) (core' : CoreData) (tell : tells) where
  module _ (call : CallData) where
    abbrev LeavesThem : HostRule → HostTold → Type 0
    LeavesThem rule told = host_rule core h call ≡ rule → LeavesCartridges core.site.told core'.site.told

    still_there : StillHold tells core.site core'.site → LeavesCartridges core.site.told core'.site.told
    still_there still = unwritten core.site.told core'.site.told (still.told tell)

    row_there : (volume : ℕ) (row : RowValue) → WriteRow tells volume row core.site core'.site → LeavesCartridges core.site.told core'.site.told
    row_there volume row write = row_written core.site.told volume row core'.site.told (write.moments tell)

    frame_there : (r : Run) (frame block : ℕ) → r.at ≡ record { unit = Staging frame; block = block } → WritesFor r core.site.told core'.site.told → LeavesCartridges core.site.told core'.site.told
    frame_there r frame block at writes =
        frame_written core.site.told frame block r.command (with_open_chain r.host) core'.site.told (answer_on r (content core.site.told)).written
        (subst (λ (p : BlockPlace). WritesTrack r.command (with_open_chain r.host) p.unit p.block core.site.told core'.site.told (answer_on r (content core.site.told)).written) at writes)

    cartridges_each : EachOutcome tells core h call core' LeavesThem
    cartridges_each = record {
      stops = λ fault same is. still_there same.0;
      fills = λ same is. still_there same.0;
      lacks = λ rule late same is. still_there same.0;
      is_busy = λ owner same is. still_there same.0;
      moves = λ cylinder same is. still_there same.0;
      holds = λ frame held is. still_there held.0;
      responds = λ done is. still_there done.0;
      fails = λ fault done is. still_there done.0;
      is_full = λ done is. still_there done.0;
      asks = λ volume cylinder asks is. still_there asks.0;
      marks = λ volume cylinder marks is. let on = rule_marks core h call kept volume cylinder is in row_there volume _ (marks.0 on.r on.there).write;
      unmarked = λ volume cylinder fault un is. let on = rule_marks core h call kept volume cylinder is in row_there volume _ (un.0 on.r on.there).write;
      unread = λ c volume frame un is. unwritten core.site.told core'.site.told (un.0.told tell);
      runs = λ c volume frame code argument chained status bytes ran is. frame_there (run_of core h frame c argument chained) (frame / 50) _ refl (ran.2.moments tell);
      unwritten = λ c volume frame code argument chained fault un is. frame_there (run_of core h frame c argument chained) (frame / 50) _ refl (un.1.moments tell);
    }

  pub leaves_cartridges : (call : CallData) (told : HostTold) → HostEvent tells core h call told core' → LeavesCartridges core.site.told core'.site.told
  leaves_cartridges call told event = outcome tells core h core' (λ k. LeavesThem k) call (cartridges_each call) (host_rule core h call) told event refl
