-- What a wait changes, and want of memory.
use Rattle.std.proofs.Common.{◌≡◌, inl, inr, ℕ, true, false, ◌&&◌, [], ◌∷◌, ◌++◌, Option, Some, None, is_some, refl, sym, ◌∙◌, ap}
use Rattle.std.specs.Prelude.{not}
use Rattle.std.proofs.lemmas.Bool.{cond-true, cond-false, cond_both, false≢true}
use Rattle.channel_commands.specs.Data.{CallData}
use Rattle.fault_queue.specs.declared.queue.Request.{Request}
use Rattle.fault_queue.specs.declared.queue.RequestState.TheVariants as request
use Rattle.fault_queue.specs.Requests.{RequestsData, request_of, with_state, without_request, asked_as, put_request}
use Rattle.core_state.specs.declared.session.Event.TheVariants.{Host}
use Rattle.core_state.specs.declared.rule.HostRule.{HostRule}
use Rattle.core_state.specs.declared.rule.HostRule.TheVariants.{Faults}
use Rattle.core_state.specs.declared.rule.Waiting.{Waiting}
use Rattle.core_state.specs.CoreValue.{CoreData}
use Rattle.core_state.specs.HostEvents.{HostTold, waits, no_memory, Holds, Asks, IsSame, HostEvent}
use Rattle.core_state.specs.HostRules.{request_for, host_rule}
use Rattle.core_state.specs.IsCore.{IsCore}
use Rattle.core_state.specs.Steps.{with_event, ends_request, going_on, with_request}
use Rattle.host_events.specs.Leaves.{ChangesRequestAtMost}
use Rattle.host_events.proofs.Outcomes.{EachOutcome, outcome}
use Rattle.host_events.proofs.RuleFacts.{rule_faults}

-- ---- the host's request

module _ (core : CoreData) (h : ℕ) (call : CallData) where
  -- one that the call isn't for is ended
  pub ended : ends_request core h call ≡ true → going_on core h call ≡ record core { requests = without_request h core.requests }
  ended ends = cond-true _ _ _ ends

  -- a host that has to ask has none
  pub unasked : (core.stopped ≡ None → IsCore core) → (volume cylinder : ℕ) → host_rule core h call ≡ Faults volume cylinder → is_some (request_for core h call) ≡ false → request_of core.requests h ≡ None
  unasked kept volume cylinder is other = by (request_of core.requests h) refl
    where
      by : (o : Option Request) → request_of core.requests h ≡ o → request_of core.requests h ≡ None
      by None at = at
      by (Some q) at = absurd (false≢true (sym other ∙ ap is_some ((rule_faults core h call kept volume cylinder is).asks.mine q at)))

  abbrev pub queued : ℕ → ℕ → Request
  queued volume cylinder = record { volume = volume; cylinder = cylinder; state = request.Queued }

  module _ (none : request_of core.requests h ≡ None) where
    going_same : going_on core h call ≡ core
    going_same = cond-false _ _ _ (ap (λ (o : Option Request). is_some o && not (is_some (request_for core h call))) none)

    -- so its request is put last
    pub asked_last : (volume cylinder : ℕ) → with_request h volume cylinder request.Queued (going_on core h call) ≡ record core { requests = core.requests ++ (h, queued volume cylinder) ∷ [] }
    asked_last volume cylinder =
        ap (with_request h volume cylinder request.Queued) going_same
        ∙ ap (λ (requests : RequestsData). record core { requests = requests })
        (cond-false (is_some (request_of core.requests h)) (with_state h request.Queued core.requests) (core.requests ++ (h, queued volume cylinder) ∷ []) (ap is_some none))

    put_last : (r : Request) → put_request core.requests h (Some r) ≡ core.requests ++ (h, r) ∷ []
    put_last r = ap (λ (o : Option Request). asked_as h r (is_some o) core.requests) none

-- ---- a wait

-- what holds where a wait is told
abbrev OnWait : Type 0 → HostTold → Type 0
OnWait A (waits w) = A
OnWait A _ = Unit {0}

module _ (tells : Type 0) (core : CoreData) (kept : core.stopped ≡ None → IsCore core) (h : ℕ) (core' : CoreData) where
  abbrev Changes : Type 0
  Changes = ChangesRequestAtMost tells core h core'

  module _ (call : CallData) where
    held : Holds tells core h call core' → Changes
    held does =
        cond_both (ends_request core h call) (with_event (Host h) (going_on core h call)) core (λ (c : CoreData). core' ≡ record c { site = core'.site } → Changes)
        (λ ends is. inr (None, does.0, is ∙ ap (λ (c : CoreData). record (with_event (Host h) c) { site = core'.site }) (ended core h call ends)))
        (λ _ is. inl (does.0, is)) does.1

    asked : (volume cylinder : ℕ) → host_rule core h call ≡ Faults volume cylinder → Asks tells core h call volume cylinder core' → Changes
    asked volume cylinder rule does =
        cond_both (is_some (request_for core h call)) core (with_event (Host h) (with_request h volume cylinder request.Queued (going_on core h call))) (λ (c : CoreData). core' ≡ record c { site = core'.site } → Changes)
        (λ _ is. inl (does.0, is))
        (λ other is.
        let none = unasked core h call kept volume cylinder rule other in
        inr (
          Some (queued core h call volume cylinder),
          does.0,
          is ∙ ap (λ (c : CoreData). record (with_event (Host h) c) { site = core'.site })
              (asked_last core h call none volume cylinder ∙ ap (λ (requests : RequestsData). record core { requests = requests }) (sym (put_last core h call none (queued core h call volume cylinder)))),
        ))
        does.1

    abbrev OnRule : HostRule → HostTold → Type 0
    OnRule rule told = host_rule core h call ≡ rule → OnWait Changes told

    each : EachOutcome tells core h call core' OnRule
    each = record {
      stops = λ fault same is. tt;
      fills = λ same is. tt;
      lacks = λ rule late same is. tt;
      is_busy = λ owner same is. inl same;
      moves = λ cylinder same is. inl same;
      holds = λ frame does is. held does;
      responds = λ done is. tt;
      fails = λ fault done is. tt;
      is_full = λ done is. tt;
      asks = λ volume cylinder does is. asked volume cylinder is does;
      marks = λ volume cylinder marks is. tt;
      unmarked = λ volume cylinder fault un is. tt;
      unread = λ c volume frame un is. tt;
      runs = λ c volume frame code argument chained status bytes ran is. tt;
      unwritten = λ c volume frame code argument chained fault un is. tt;
    }

  pub waits_alone : (call : CallData) (w : Waiting) → HostEvent tells core h call (waits w) core' → Changes
  waits_alone call w event = outcome tells core h core' OnRule call (each call) (host_rule core h call) (waits w) event refl

-- ---- want of memory

abbrev OnMemory : Type 0 → HostTold → Type 0
OnMemory A no_memory = A
OnMemory A _ = Unit {0}

module _ (tells : Type 0) (core : CoreData) (h : ℕ) (core' : CoreData) where
  lacking : (call : CallData) → EachOutcome tells core h call core' (λ rule told. OnMemory (IsSame tells core core') told)
  lacking call = record {
    stops = λ fault same. tt;
    fills = λ same. tt;
    lacks = λ rule late same. same;
    is_busy = λ owner same. tt;
    moves = λ cylinder same. tt;
    holds = λ frame does. tt;
    responds = λ done. tt;
    fails = λ fault done. tt;
    is_full = λ done. tt;
    asks = λ volume cylinder does. tt;
    marks = λ volume cylinder marks. tt;
    unmarked = λ volume cylinder fault un. tt;
    unread = λ c volume frame un. tt;
    runs = λ c volume frame code argument chained status bytes ran. tt;
    unwritten = λ c volume frame code argument chained fault un. tt;
  }

  pub memory_alone : (call : CallData) → HostEvent tells core h call no_memory core' → IsSame tells core core'
  memory_alone call event = outcome tells core h core' (λ k rule t. OnMemory (IsSame tells core core') t) call (lacking call) (host_rule core h call) no_memory event
