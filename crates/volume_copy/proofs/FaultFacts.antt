-- Where the faults that are kept behind an event come from.
use Rattle.std.proofs.Common.{◌≡◌, ◌⊎◌, inl, inr, ℕ, ◌≤◌, cond, List, [], ◌∷◌, ◌++◌, Option, Some, None, refl, sym, ◌∙◌, ap, subst, arith}
use Rattle.std.specs.Prelude.{is_some}
use Rattle.std.specs.Option.{option_and_then}
use Rattle.std.proofs.lemmas.Bool.{cond_both}
use Rattle.mss_base.specs.Counts.{Rises, IsFaultSince, IsFaultWithin}
use Rattle.channel_commands.specs.Data.{CallData, ReplyData, equipment_check, no_space, stopped}
use Rattle.ckd_plain.specs.History.{EntryData}
use Rattle.fault_queue.specs.declared.queue.Request.{Request}
use Rattle.fault_queue.specs.declared.queue.RequestState.{RequestState}
use Rattle.fault_queue.specs.declared.queue.RequestState.TheVariants as request
use Rattle.fault_queue.specs.Requests.{RequestsData, IsOnce, asked_as, put_request, request_of, with_state, without_request}
use Rattle.fault_queue.proofs.RequestFacts.{once_without, with_state_is}
use Rattle.volume_table.specs.declared.changes.Change.TheVariants as change
use Rattle.core_state.specs.Counted.{AreFaults, IsLast, fault_asked, fault_at}
use Rattle.core_state.specs.CoreValue.{CoreData}
use Rattle.core_state.specs.HostEvents.{HostTold, HostEvent, IsSame}
use Rattle.core_state.specs.HostRules.{fault_of, host_rule, request_for}
use Rattle.core_state.specs.IsCore.{IsCore}
use Rattle.core_state.specs.Pins.{page_of}
use Rattle.core_state.specs.Steps.{with_event, with_change, touching, going_on, with_request, entry_of, ends_request}
use Rattle.core_state.specs.declared.rule.HostRule.{HostRule}
use Rattle.core_state.specs.declared.rule.HostRule.TheVariants as rule
use Rattle.core_state.specs.declared.session.Event.TheVariants.{Host}
use Rattle.core_state.proofs.CountedFacts.{fault_was, left_put}
use Rattle.core_state.proofs.RuleWalks.{none_some, some_is}
use Rattle.host_events.proofs.EventLeaves.{going}
use Rattle.host_events.proofs.Outcomes.{EachOutcome, outcome}
use Rattle.host_events.proofs.RuleFacts.{IsLate, rule_failed, rule_goes, rule_marks}
use Rattle.work_events.specs.WorkLaws.{CopyFails, FailsByCopy, LeavesHosts}
use Rattle.volume_copy.specs.declared.copier.CopyState.{CopyState}
use Rattle.volume_copy.specs.declared.copier.CopyState.TheVariants as copy
use Rattle.volume_copy.specs.Copies.{FailedIn, IsOwnFault}

-- ---- what is kept

-- an entry keeps this fault, or a request
abbrev pub IsKept : CoreData → ℕ → Type 0
IsKept core fault = ((place : ℕ) × (fault_at core.history place ≡ Some fault)) ⊎ ((h : ℕ) × (fault_asked core.requests h ≡ Some fault))

-- it was kept before, or is of a call that failed since
abbrev pub IsFrom : CoreData → CoreData → ℕ → Type 0
IsFrom core left fault = IsKept core fault ⊎ IsFaultSince core.site.faults left.site.faults fault

pub record FaultsFrom (core left : CoreData) : Type 0 where
  pub in_entry : (place fault : ℕ) → fault_at left.history place ≡ Some fault → IsFrom core left fault
  pub in_request : (h fault : ℕ) → fault_asked left.requests h ≡ Some fault → IsFrom core left fault

-- a fault of its own stays one
fresh : (first now later fault : ℕ) → IsFaultWithin first now fault → IsFaultSince now later fault → IsLast fault
fresh first now later fault old new = let p = old.past in let c = new.count in let r = new.rises in omega (arith, p, c, r)

pub own_later : (core left : CoreData) → FaultsFrom core left → (first fault : ℕ) → IsFaultWithin first core.site.faults fault → IsOwnFault core.history core.requests fault → IsOwnFault left.history left.requests fault
own_later core left from first fault within own = record {
  in_entry = λ place at. by (from.in_entry place fault at);
  in_request = λ h at. by (from.in_request h fault at);
}
  where
    by : IsFrom core left fault → IsLast fault
    by (inl (inl e)) = own.in_entry e.0 e.1
    by (inl (inr r)) = own.in_request r.0 r.1
    by (inr since) = fresh first core.site.faults left.site.faults fault within since

-- nor is one of a call that failed just now kept anywhere
pub own_new : (first now later : ℕ) (history : List EntryData) (requests : RequestsData) (fault : ℕ) → AreFaults first now history requests → IsFaultSince now later fault → IsOwnFault history requests fault
own_new first now later history requests fault are since = record {
  in_entry = λ place at. fresh first now later fault (are.in_entry place fault at) since;
  in_request = λ h at. fresh first now later fault (are.in_request h fault at) since;
}

-- over an event
pub failed_event : (core left : CoreData) → FaultsFrom core left → left.first_faults ≡ core.first_faults → core.site.faults ≤ left.site.faults → (state : CopyState) → FailedIn core core.site.faults state → FailedIn left left.site.faults state
failed_event core left from first later copy.Armed is = tt
failed_event core left from first later copy.NoVolume is = tt
failed_event core left from first later copy.Taking is = tt
failed_event core left from first later copy.Whole is = tt
failed_event core left from first later (copy.Failed fault) is = record {
  within = record { rises = subst (λ (n : ℕ). Rises n fault) (sym first) is.within.rises; past = let p = is.within.past in omega (arith, p, later) };
  own = own_later core left from core.first_faults fault is.within is.own;
}

-- ---- an event of a recorder

fault_at_request : (o : Option Request) (fault : ℕ) → option_and_then (λ (r : Request). fault_of r.state) o ≡ Some fault → (q : Request) × (o ≡ Some q) × (q.state ≡ request.Failed fault)
fault_at_request None fault is = absurd (none_some fault is)
fault_at_request (Some q) fault is = (q, refl, by q.state is)
  where
    by : (state : RequestState) → fault_of state ≡ Some fault → state ≡ request.Failed fault
    by (request.Failed x) at = ap request.Failed (some_is x fault at)
    by request.Queued at = absurd (none_some fault at)
    by request.Moving at = absurd (none_some fault at)
    by request.Ready at = absurd (none_some fault at)

pub work_faults : (core : CoreData) (recorder : ℕ) (left : CoreData) → LeavesHosts core left → FailsByCopy core recorder left → FaultsFrom core left
work_faults core recorder left leaves fails = record {
  in_entry = λ place fault at. inl (inl (place, ap (λ (es : List EntryData). fault_at es place) (sym leaves.history) ∙ at));
  in_request = λ h fault at.
      let failed = fault_at_request (request_of left.requests h) fault at in
      by h fault failed.0 failed.2 (fails h fault failed.0 failed.1 failed.2);
}
  where
    by : (h fault : ℕ) (q : Request) → q.state ≡ request.Failed fault → (request_of core.requests h ≡ Some q) ⊎ CopyFails core recorder fault left → IsFrom core left fault
    by h fault q state (inl was) = inl (inr (h, ap (option_and_then (λ (r : Request). fault_of r.state)) was ∙ ap fault_of state))
    by h fault q state (inr now) = inr now.1

-- ---- an event of a host

-- a request that is made, or goes on, is put
asked_put : (core : CoreData) (h volume cylinder : ℕ) (state : RequestState) (o : Option Request) → request_of core.requests h ≡ o
    → (r : Request) × ((with_request h volume cylinder state core).requests ≡ put_request core.requests h (Some r)) × (r.state ≡ state)
asked_put core h volume cylinder state None is =
    let made : Request = record { volume = volume; cylinder = cylinder; state = state } in (
      made,
      ap (λ (o : Option Request). cond (is_some o) (with_state h state core.requests) (core.requests ++ (h, made) ∷ [])) is ∙ sym (ap (λ (o : Option Request). asked_as h made (is_some o) core.requests) is),
      refl,
    )
asked_put core h volume cylinder state (Some q) is = (
  record q { state = state },
  ap (λ (o : Option Request). cond (is_some o) (with_state h state core.requests) (core.requests ++ (h, record { volume = volume; cylinder = cylinder; state = state }) ∷ [])) is ∙ with_state_is core.requests h q state is,
  refl,
)

-- no entry comes, and no request keeps another fault
Quiet : CoreData → CoreData → Type 0
Quiet core c = (c.history ≡ core.history) × ((k fault : ℕ) → fault_asked c.requests k ≡ Some fault → fault_asked core.requests k ≡ Some fault)

module _ (tells : Type 0) (core : CoreData) (kept : core.stopped ≡ None → IsCore core) (h : ℕ) (core' : CoreData) where
  quietly : Quiet core core' → FaultsFrom core core'
  unfolding Quiet
  quietly quiet = record {
    in_entry = λ place fault at. inl (inl (place, ap (λ (es : List EntryData). fault_at es place) (sym quiet.0) ∙ at));
    in_request = λ k fault at. inl (inr (k, quiet.1 k fault at));
  }

  same : IsSame tells core core' → FaultsFrom core core'
  unfolding Quiet
  same is = quietly (subst (Quiet core) (sym is.1) (refl, λ k fault at. at))

  -- one entry more
  entered : (e : EntryData) → core'.history ≡ core.history ++ e ∷ [] → ((k fault : ℕ) → fault_asked core'.requests k ≡ Some fault → fault_asked core.requests k ≡ Some fault)
      → ((fault : ℕ) → e.fault ≡ Some fault → IsFrom core core' fault) → FaultsFrom core core'
  entered e adds asked from = record {
    in_entry = λ place fault at. elim (fault_was core.history e place fault (ap (λ (es : List EntryData). fault_at es place) (sym adds) ∙ at)) [
      | inl new ↦ from fault new.1
      | inr was ↦ inl (inl (place, was))
    ];
    in_request = λ k fault at. inl (inr (k, asked k fault at));
  }

  module _ (call : CallData) where
    abbrev From : HostRule → HostTold → Type 0
    From r told = host_rule core h call ≡ r → FaultsFrom core core'

    module _ (r : HostRule) (late : IsLate r) (is : host_rule core h call ≡ r) where
      once : IsOnce core.requests
      once = (kept (rule_goes core h call r is late).going).requests_

      without : (k fault : ℕ) → fault_asked (without_request h core.requests) k ≡ Some fault → fault_asked core.requests k ≡ Some fault
      without = left_put core.requests h None once refl

      -- a reply
      replied_ : (reply : ReplyData) (o : Option ℕ) → core'.history ≡ core.history ++ entry_of core.history h call reply o ∷ [] → core'.requests ≡ without_request h core.requests → ((fault : ℕ) → o ≡ Some fault → IsFrom core core' fault)
          → FaultsFrom core core'
      replied_ reply o adds requests_ from =
          entered (entry_of core.history h call reply o) adds (λ k fault at. without k fault (ap (λ (rs : RequestsData). fault_asked rs k) (sym requests_) ∙ at)) from

      -- the host's request is in this state then
      asking : (volume cylinder : ℕ) (state : RequestState) → fault_of state ≡ None → (c : CoreData) → IsOnce c.requests → ((k fault : ℕ) → fault_asked c.requests k ≡ Some fault → fault_asked core.requests k ≡ Some fault)
          → (k fault : ℕ) → fault_asked (with_request h volume cylinder state c).requests k ≡ Some fault → fault_asked core.requests k ≡ Some fault
      asking volume cylinder state none c one before k fault at =
          let put = asked_put c h volume cylinder state (request_of c.requests h) refl in
          before k fault (left_put c.requests h (Some put.0) one (ap fault_of put.2 ∙ none) k fault (ap (λ (rs : RequestsData). fault_asked rs k) (sym put.1) ∙ at))

      goes_on : (P : CoreData → Type 0) → P core → P (record core { requests = without_request h core.requests }) → P (going_on core h call)
      goes_on = going core h call

    failed_now : (o : ℕ) → Rises core.site.faults core'.site.faults → o ≡ core'.site.faults → (fault : ℕ) → ◌≡◌ {A = Option ℕ} (Some o) (Some fault) → IsFrom core core' fault
    failed_now o rises at fault is = inr (record { count = sym (some_is o fault is) ∙ at; rises = rises })

    -- no fault comes with a reply
    no_fault : (fault : ℕ) → ◌≡◌ {A = Option ℕ} None (Some fault) → IsFrom core core' fault
    no_fault fault is = absurd (none_some fault is)

    each : EachOutcome tells core h call core' From
    unfolding Quiet
    each = record {
      stops = λ fault it is. same it;
      fills = λ it is. same it;
      lacks = λ r late it is. same it;
      is_busy = λ owner it is. same it;
      moves = λ cylinder it is. same it;
      holds = λ frame it is.
          quietly (subst (Quiet core) (sym it.1)
          (cond_both (ends_request core h call) (with_event (Host h) (going_on core h call)) core (Quiet core)
          (λ _. goes_on (rule.IsHeld frame) tt is (λ (c : CoreData). Quiet core (with_event (Host h) c)) (refl, λ k fault at. at) (refl, without (rule.IsHeld frame) tt is))
          (λ _. (refl, λ k fault at. at))));
      responds = λ it is. replied_ rule.Responds tt is _ None (ap (λ c. c.history) it.1) (ap (λ c. c.requests) it.1) no_fault;
      fails = λ fault it is. replied_ (rule.HasFailed fault) tt is equipment_check (Some fault) (ap (λ c. c.history) it.1) (ap (λ c. c.requests) it.1)
          (λ f at. inl (inr (h, (rule_failed core h call kept fault is).fails ∙ at)));
      is_full = λ it is. replied_ rule.HasNoSpace tt is no_space None (ap (λ c. c.history) it.1) (ap (λ c. c.requests) it.1) no_fault;
      asks = λ volume cylinder it is.
          let r : HostRule = rule.Faults volume cylinder in
          quietly (subst (Quiet core) (sym it.1)
          (cond_both (is_some (request_for core h call)) core (with_event (Host h) (with_request h volume cylinder request.Queued (going_on core h call))) (Quiet core) (λ _. (refl, λ k fault at. at))
          (λ _. goes_on r tt is (λ (c : CoreData). Quiet core (with_event (Host h) (with_request h volume cylinder request.Queued c)))
          (refl, asking r tt is volume cylinder request.Queued refl core (once r tt is) (λ k fault at. at))
          (refl, asking r tt is volume cylinder request.Queued refl (record core { requests = without_request h core.requests }) (once_without h core.requests (once r tt is)) (without r tt is)))));
      marks = λ volume cylinder it is.
          let r : HostRule = rule.Marks volume cylinder in
          quietly (subst (Quiet core) (sym it.1)
          (goes_on r tt is (λ (c : CoreData). Quiet core (with_event (Host h) (touching (volume, page_of cylinder) (with_request h volume cylinder request.Ready (with_change volume (change.Changed cylinder) (record c { site = core'.site }))))))
          (refl, asking r tt is volume cylinder request.Ready refl core (once r tt is) (λ k fault at. at))
          (refl, asking r tt is volume cylinder request.Ready refl (record core { requests = without_request h core.requests }) (once_without h core.requests (once r tt is)) (without r tt is))));
      unmarked = λ volume cylinder fault un is.
          let on = rule_marks core h call kept volume cylinder is in
          let cause = (un.0 on.r on.there).cause in
          entered (entry_of core.history h call stopped (Some core'.site.faults)) (ap (λ c. c.history) un.1) (λ k f at. ap (λ (c : CoreData). fault_asked c.requests k) (sym un.1) ∙ at) (failed_now core'.site.faults cause.rises refl);
      unread = λ c volume frame un is. replied_ (rule.Runs c volume frame) tt is equipment_check (Some core'.site.faults) (ap (λ x. x.history) un.1) (ap (λ x. x.requests) un.1) (failed_now core'.site.faults un.0.failed refl);
      runs = λ c volume frame code argument chained status bytes ran is. replied_ (rule.Runs c volume frame) tt is _ None
          (ap (λ x. x.history) ran.3) (ap (λ x. x.requests) ran.3) no_fault;
      unwritten = λ c volume frame code argument chained fault un is.
          entered (entry_of core.history h _ stopped (Some core'.site.faults)) (ap (λ x. x.history) un.2) (λ k f at. ap (λ (x : CoreData). fault_asked x.requests k) (sym un.2) ∙ at) (failed_now core'.site.faults un.1.cause.rises refl);
    }

  pub host_faults : (call : CallData) (told : HostTold) → HostEvent tells core h call told core' → FaultsFrom core core'
  host_faults call told event = outcome tells core h core' From call (each call) (host_rule core h call) told event refl
