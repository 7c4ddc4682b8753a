-- What an event of a host leaves of its core, as a serial run needs it.
use Rattle.std.proofs.Common.{◌≡◌, ◌≤◌, ℕ, Bool, true, cond, List, [], length, Option, Some, None, refl, sym, ◌∙◌, ap, subst}
use Rattle.std.specs.Prelude.{is_some}
use Rattle.std.proofs.lemmas.Bool.{cond_both, false≢true}
use Rattle.mss_base.specs.Counts.{IsFaultSince}
use Rattle.channel_commands.specs.Data.{CallData, mount, demount, command as ask, break, ReplyData, done, equipment_check, no_space}
use Rattle.ckd_plain.specs.declared.host.HostState.{HostState}
use Rattle.ckd_plain.specs.declared.unit_check.UnitCheck.TheVariants as check
use Rattle.ckd_plain.specs.Plain.{response_to}
use Rattle.volume_table.specs.declared.changes.Change.TheVariants as change
use Rattle.fault_queue.specs.declared.queue.RequestState.TheVariants as request
use Rattle.fault_queue.specs.Requests.{request_of, without_request}
use Rattle.fault_queue.proofs.RequestFacts.{request_same}
use Rattle.core_state.specs.declared.session.Event.TheVariants.{Host}
use Rattle.core_state.specs.declared.rule.HostRule.{HostRule}
use Rattle.core_state.specs.declared.rule.HostRule.TheVariants.{Marks, Responds, HasFailed, HasNoSpace, Runs}
use Rattle.core_state.specs.CoreValue.{CoreData}
use Rattle.core_state.specs.HostEvents.{HostTold, replied, halts, at_limit, no_memory, IsSame, Holds, Asks, mark_in, response, equipment, exception, HostEvent}
use Rattle.core_state.specs.HostRules.{request_for, host_rule}
use Rattle.core_state.specs.IsCore.{IsCore}
use Rattle.core_state.specs.Pins.{host_at, put_host, page_of}
use Rattle.core_state.specs.Steps.{with_event, with_change, touching, ends_request, going_on, with_request}
use Rattle.core_state.proofs.ChainKept.{run_keeps}
use Rattle.core_state.proofs.HostFacts.{host_same}
use Rattle.core_state.proofs.RuleWalks.{none_some}
use Rattle.host_events.proofs.EventLeaves.{going}
use Rattle.host_events.proofs.Mounts.{by_mark}
use Rattle.host_events.proofs.Outcomes.{IsMarked, EachOutcome, outcome}
use Rattle.serial_driver.proofs.ChainedOn.{ChainsOn}
use Rattle.host_events.proofs.RuleFacts.{IsLate, rule_goes, rule_stopped, rule_marks, OnMark}

-- ---- an open chain behind a reply

-- each case of a mount and of a demount leaves the chain
same_chain : (host : HostState) (b : Bool) (r s : ReplyData × HostState) → r.1.chain_open ≡ host.chain_open → s.1.chain_open ≡ host.chain_open → (cond b r s).1.chain_open ≡ host.chain_open
same_chain host b r s here there = cond_both b r s (λ (p : ReplyData × HostState). p.1.chain_open ≡ host.chain_open) (λ _. here) (λ _. there)

responds_chain : (host : HostState) (mark : Option Bool) (call : CallData) → (response_to host mark call).1.chain_open ≡ true → ChainsOn host call (response_to host mark call).0
unfolding response_to
responds_chain host mark (mount volume bind) open_ =
    sym (same_chain host host.chain_open _ _ refl (same_chain host (is_some host.mounted) _ _ refl (by_mark (λ (p : ReplyData × HostState). p.1.chain_open ≡ host.chain_open) host volume bind mark (λ _ _. refl) (λ _. refl)))) ∙ open_
responds_chain host mark demount open_ =
    sym (same_chain host host.chain_open _ _ refl (same_chain host (is_some host.mounted) _ _ refl refl)) ∙ open_
responds_chain host mark (break cause) open_ = absurd (false≢true open_)
responds_chain host mark (ask code argument chained) open_ =
    let keeps = run_keeps (λ head. []) host code argument chained in
    (keeps.asked open_, keeps.smooth open_)

-- ---- what an event leaves

-- a core is stopped where that is told, by a write that failed
abbrev pub StopsAs : HostTold → CoreData → CoreData → Type 0
StopsAs (halts fault) core left = (left.stopped ≡ Some fault) × (core.stopped ≡ None → IsFaultSince core.site.faults left.site.faults fault)
StopsAs _ core left = left.stopped ≡ core.stopped

-- behind a reply the host has no request, and its chain is open only where it may be; else the hosts stay
abbrev pub LeavesHost : CoreData → ℕ → CallData → HostTold → CoreData → Type 0
LeavesHost core h call (replied index reply) left =
    (request_of left.requests h ≡ None)
    × ((host_at left.hosts h).chain_open ≡ true → ChainsOn (host_at core.hosts h) call reply)
LeavesHost core h call (halts fault) left = Unit {0}
LeavesHost core h call _ left = left.hosts ≡ core.hosts

pub record HostFacts (core : CoreData) (h : ℕ) (call : CallData) (told : HostTold) (left : CoreData) : Type 0 where
  pub stops : StopsAs told core left
  pub host_ : LeavesHost core h call told left

-- the parts that a wait and a mark leave
Quiet : Type 0
Quiet = Option ℕ × List HostState

abbrev quiet : CoreData → Option ℕ × List HostState
quiet c = (c.stopped, c.hosts)

module _ (tells : Type 0) (core : CoreData) (kept : core.stopped ≡ None → IsCore core) (h : ℕ) (low : 1 ≤ h) (high : h ≤ 8) (core' : CoreData) where
  same_quiet : IsSame tells core core' → quiet core' ≡ quiet core
  same_quiet same = ap quiet same.1

  module _ (call : CallData) where
    held_quiet : Holds tells core h call core' → quiet core' ≡ quiet core
    held_quiet held =
        ap quiet held.1
        ∙ cond_both (ends_request core h call) (with_event (Host h) (going_on core h call)) core (λ (c : CoreData). quiet (record c { site = core'.site }) ≡ quiet core)
        (λ _. going core h call (λ (c : CoreData). quiet (record (with_event (Host h) c) { site = core'.site }) ≡ quiet core) refl refl) (λ _. refl)

    asked_quiet : (volume cylinder : ℕ) → Asks tells core h call volume cylinder core' → quiet core' ≡ quiet core
    asked_quiet volume cylinder asks =
        ap quiet asks.1
        ∙ cond_both (is_some (request_for core h call)) core (with_event (Host h) (with_request h volume cylinder request.Queued (going_on core h call))) (λ (c : CoreData). quiet (record c { site = core'.site }) ≡ quiet core)
        (λ _. refl)
        (λ _. going core h call (λ (c : CoreData). quiet (record (with_event (Host h) (with_request h volume cylinder request.Queued c)) { site = core'.site }) ≡ quiet core) refl refl)

    marked_quiet : (volume cylinder : ℕ) → IsMarked tells core h call volume cylinder core' → quiet core' ≡ quiet core
    marked_quiet volume cylinder marks =
        ap quiet marks.1
        ∙ going core h call
        (λ (c : CoreData). quiet (with_event (Host h) (touching (volume, page_of cylinder) (with_request h volume cylinder request.Ready (with_change volume (change.Changed cylinder) (record c { site = core'.site }))))) ≡ quiet core) refl refl

    mark_there : (volume cylinder : ℕ) → host_rule core h call ≡ Marks volume cylinder → OnMark core h call volume cylinder
    mark_there volume cylinder is = rule_marks core h call kept volume cylinder is

    -- a reply: the host's state is the given one
    module _ (going_ : core.stopped ≡ None) (answer : ReplyData × HostState) (hosts_ : core'.hosts ≡ put_host core.hosts h answer.1) (requests_ : core'.requests ≡ without_request h core.requests) where
      host_is : host_at core'.hosts h ≡ answer.1
      host_is = ap (λ (l : List HostState). host_at l h) hosts_ ∙ host_same core.hosts h answer.1 (low, subst (λ (n : ℕ). h ≤ n) (sym (kept going_).hosts_) high)

      none_asked : request_of core'.requests h ≡ None
      none_asked = ap (λ rs. request_of rs h) requests_ ∙ request_same core.requests h None (kept going_).requests_

      leaves_by : (reply : ReplyData) → (answer.1.chain_open ≡ true → ChainsOn (host_at core.hosts h) call reply) → (index : ℕ) → LeavesHost core h call (replied index reply) core'
      leaves_by reply chain index = (none_asked, λ open_. chain (sym (ap (λ (x : HostState). x.chain_open) host_is) ∙ open_))

    abbrev Facts : HostRule → HostTold → Type 0
    Facts rule told = host_rule core h call ≡ rule → HostFacts core h call told core'

    quietly : (told : HostTold) → (quiet core' ≡ quiet core) → (core'.stopped ≡ core.stopped → StopsAs told core core') → (core'.hosts ≡ core.hosts → LeavesHost core h call told core') → HostFacts core h call told core'
    quietly told same stops leaves = record {
      stops = stops (ap (λ p. p.0) same);
      host_ = leaves (ap (λ p. p.1) same);
    }

    by_reply : (rule : HostRule) → host_rule core h call ≡ rule → IsLate rule → (answer : ReplyData × HostState) (reply : ReplyData) (index : ℕ)
        → core'.stopped ≡ core.stopped → core'.hosts ≡ put_host core.hosts h answer.1 → core'.requests ≡ without_request h core.requests
        → (answer.1.chain_open ≡ true → ChainsOn (host_at core.hosts h) call reply) → HostFacts core h call (replied index reply) core'
    by_reply rule is late answer reply index stopped_ hosts_ requests_ chain = record {
      stops = stopped_;
      host_ = leaves_by (rule_goes core h call rule is late).going answer hosts_ requests_ reply chain index;
    }

    facts_each : EachOutcome tells core h call core' Facts
    facts_each = record {
      stops = λ fault same is. quietly (halts fault) (same_quiet same) (λ s. (s ∙ rule_stopped core h call kept fault is, λ none. absurd (none_some fault (sym none ∙ rule_stopped core h call kept fault is)))) (λ _. tt);
      fills = λ same is. quietly at_limit (same_quiet same) (λ s. s) (λ s. s);
      lacks = λ rule late same is. quietly no_memory (same_quiet same) (λ s. s) (λ s. s);
      is_busy = λ owner same is. quietly _ (same_quiet same) (λ s. s) (λ s. s);
      moves = λ cylinder same is. quietly _ (same_quiet same) (λ s. s) (λ s. s);
      holds = λ frame held is. quietly _ (held_quiet held) (λ s. s) (λ s. s);
      responds = λ it is. by_reply Responds is tt (response core h call) (response core h call).0 (length core.history) (ap (λ c. c.stopped) it.1) (ap (λ c. c.hosts) it.1) (ap (λ c. c.requests) it.1)
          (responds_chain (host_at core.hosts h) (mark_in core.rows call) call);
      fails = λ fault it is. by_reply (HasFailed fault) is tt (equipment core h) equipment_check (length core.history) (ap (λ c. c.stopped) it.1) (ap (λ c. c.hosts) it.1) (ap (λ c. c.requests) it.1) (λ open_. absurd (false≢true open_));
      is_full = λ it is. by_reply HasNoSpace is tt (exception check.NoSpace no_space core h) no_space (length core.history) (ap (λ c. c.stopped) it.1) (ap (λ c. c.hosts) it.1) (ap (λ c. c.requests) it.1) (λ open_. absurd (false≢true open_));
      asks = λ volume cylinder it is. quietly _ (asked_quiet volume cylinder it) (λ s. s) (λ s. s);
      marks = λ volume cylinder it is. quietly _ (marked_quiet volume cylinder it) (λ s. s) (λ s. s);
      unmarked = λ volume cylinder fault un is.
          let on = mark_there volume cylinder is in
          let cause = (un.0 on.r on.there).cause in
          record { stops = (ap (λ c. c.stopped) un.1 ∙ ap Some (sym cause.count), λ _. cause); host_ = tt };
      unread = λ c volume frame un is. by_reply (Runs c volume frame) is tt (equipment core h) equipment_check (length core.history) (ap (λ c. c.stopped) un.1) (ap (λ c. c.hosts) un.1) (ap (λ c. c.requests) un.1) (λ open_. absurd (false≢true open_));
      runs = λ c volume frame code argument chained status bytes ran is.
          by_reply (Runs c volume frame) is tt (done status bytes, ran.1) (done status bytes) (length core.history) (ap (λ c. c.stopped) ran.3) (ap (λ c. c.hosts) ran.3) (ap (λ c. c.requests) ran.3)
          (λ open_. subst (λ (k : CallData). ChainsOn (host_at core.hosts h) k (done status bytes)) (sym ran.0) (ran.2.chain.asked open_, ran.2.chain.smooth open_));
      unwritten = λ c volume frame code argument chained fault un is.
          record { stops = (ap (λ c. c.stopped) un.2 ∙ ap Some (sym un.1.cause.count), λ _. un.1.cause); host_ = tt };
    }

  pub host_facts : (call : CallData) (told : HostTold) → HostEvent tells core h call told core' → HostFacts core h call told core'
  host_facts call told event = outcome tells core h core' (λ k. Facts k) call (facts_each call) (host_rule core h call) told event refl
