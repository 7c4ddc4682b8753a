-- In a round some host is told something else than to wait, or asks for a cylinder.
use Rattle.std.proofs.Common.{◌≡◌, ◌≢◌, ◌⊎◌, inl, inr, ℕ, zero, suc, Bool, true, false, ◌||◌, List, [], ◌∷◌, Option, Some, None, is_some, option_and_then, refl, sym, ◌∙◌, ap, subst, subst₂, arith}
use Rattle.std.specs.Prelude.{if◌then◌else◌, Contains}
use Rattle.std.proofs.lemmas.Bool.{cases_Bool, and_parts, and_from, both_ways, false≢true}
use Rattle.std.proofs.lemmas.Bool.Decides.{eqb_tells}
use Rattle.mss_base.specs.Firsts.{where_so}
use Rattle.channel_commands.specs.Data.{CallData, is_command}
use Rattle.ckd_plain.specs.History.{EntryData}
use Rattle.ckd_plain.specs.declared.host.HostState.{HostState}
use Rattle.fault_queue.specs.declared.queue.Request.{Request}
use Rattle.fault_queue.specs.declared.queue.RequestState.TheVariants as request
use Rattle.fault_queue.specs.Requests.{request_of, without_request, IsOnce}
use Rattle.fault_queue.proofs.RequestFacts.{once_put}
use Rattle.victim_choice.specs.declared.choose.Candidate.{Candidate}
use Rattle.core_state.specs.declared.session.Event.TheVariants.{Host}
use Rattle.core_state.specs.declared.rule.Waiting.{Waiting}
use Rattle.core_state.specs.declared.rule.HostRule.{HostRule}
use Rattle.core_state.specs.declared.rule.HostRule.TheVariants.{IsStopped, IsFull, IsBusy, IsMoving, IsHeld, Responds, HasFailed, HasNoSpace, Faults, Marks, Runs}
use Rattle.core_state.specs.Chains.{Step, called, worked, is_end, OneOf, IsCallOf, Goes, HostGoes, HostTurn, Ended, AllNone, IsSettled, without_copy}
use Rattle.core_state.specs.CoreValue.{CoreData, DevicesSeen}
use Rattle.core_state.specs.HostEvents.{HostTold, replied, marked, waits, halts, at_limit, no_memory, Asks, HostDoes, HostEvent}
use Rattle.core_state.specs.HostRules.{data_command, is_for, request_for, host_rule}
use Rattle.core_state.specs.IsCore.{IsCore}
use Rattle.core_state.specs.Pins.{host_at, volume_under, is_on, asks_for, owns}
use Rattle.core_state.specs.Steps.{with_event, ends_request, with_request}
use Rattle.core_state.proofs.RuleWalks.{some_is, none_some}
use Rattle.core_progress.specs.Progress.{NextCalls, keeps_waiting, is_kept_waiting}
use Rattle.core_progress.specs.Rounds.{is_wait, HasAnswer, HasAsked, CallsAfter, IsBetweenRounds, IsRound}
use Rattle.core_progress.proofs.Fits.{core_fits}
use Rattle.core_progress.proofs.KeptWaiting.{kept_same}
use Rattle.core_progress.proofs.OtherDevices.{same_host_rule, same_kept_waiting}
use Rattle.core_progress.proofs.OneRequest.{OnlyOne, made_put, one_made}
use Rattle.core_progress.proofs.Progress.{none_taken, someone_goes_on}
use Rattle.core_progress.proofs.RuleSays.{Says, IsBusyAt, rule_says, AreOnCylinders, none_ends, none_asked}
use Rattle.core_progress.proofs.Told.{run_never_waits, goes_on}

-- ---- while hosts wait, and no recorder has a task

-- what a core keeps of the core before: no request ends, and none is elsewhere than its host
pub record Grown (old new : CoreData) : Type 0 where
  pub history_ : new.history ≡ old.history
  pub hosts_ : new.hosts ≡ old.hosts
  pub tasks_ : new.tasks ≡ old.tasks
  pub asks_ : (j : ℕ) (r : Request) → request_of old.requests j ≡ Some r → request_of new.requests j ≡ Some r

pub record IsCalm (core : CoreData) : Type 0 where
  pub no_tasks : AllNone core.tasks
  pub once : IsOnce core.requests
  pub cylinders : AreOnCylinders core

pub grown_on : (a b c : CoreData) → Grown a b → Grown b c → Grown a c
grown_on a b c first second = record {
  history_ = second.history_ ∙ first.history_;
  hosts_ = second.hosts_ ∙ first.hosts_;
  tasks_ = second.tasks_ ∙ first.tasks_;
  asks_ = λ j r has. second.asks_ j r (first.asks_ j r has);
}

grown_none : (core : CoreData) → Grown core core
grown_none core = record { history_ = refl; hosts_ = refl; tasks_ = refl; asks_ = λ j r has. has }

-- what a host met that was told to wait: it has a request, or another host owns its volume
abbrev pub Met : CoreData → ℕ → CallData → Type 0
Met core h call = ((r : Request) × (request_of core.requests h ≡ Some r)) ⊎ ((is_command call ≡ true) × IsBusyAt core h)

pub record Waited (old new : CoreData) (h : ℕ) (call : CallData) : Type 0 where
  pub grown : Grown old new
  pub calm : IsCalm new
  pub met : Met new h call

module _ (tells : Type 0) (old new : CoreData) (h : ℕ) (call : CallData) (calm : IsCalm old) where
  still : new ≡ record old { site = new.site } → Met old h call → Waited old new h call
  still is met = subst (λ (c : CoreData). Waited old c h call) (sym is) (record {
    grown = record { history_ = refl; hosts_ = refl; tasks_ = refl; asks_ = λ j r has. has };
    calm = record { no_tasks = calm.no_tasks; once = calm.once; cylinders = calm.cylinders };
    met = by_met met;
  }) where
    by_met : Met old h call → Met (record old { site = new.site }) h call
    by_met (inl asks) = inl asks
    by_met (inr busy) = inr (busy.0, record { volume = busy.1.volume; owner = busy.1.owner; on = busy.1.on; owns_ = busy.1.owns_; other = busy.1.other; low = busy.1.low })

  abbrev asked_now : ℕ → CoreData
  asked_now volume = record (with_event (Host h) (with_request h volume (host_at old.hosts h).cylinder request.Queued old)) { site = new.site }

  asked : (volume : ℕ) → request_of old.requests h ≡ None → new ≡ asked_now volume → Waited old new h call
  asked volume none is =
      let r : Request = record { volume = volume; cylinder = (host_at old.hosts h).cylinder; state = request.Queued } in
      let only = one_made old calm.once h volume (host_at old.hosts h).cylinder request.Queued none in
      subst (λ (c : CoreData). Waited old c h call) (sym is) (record {
        grown = record { history_ = refl; hosts_ = refl; tasks_ = refl; asks_ = λ j q has. only.others j (apart j q has) ∙ has };
        calm = record { no_tasks = calm.no_tasks; once = once_now; cylinders = λ j q has. by_host only j q has };
        met = inl (r, only.own);
      }) where
        apart : (j : ℕ) (q : Request) → request_of old.requests j ≡ Some q → j ≢ h
        apart j q has same = none_some q (sym none ∙ ap (request_of old.requests) (sym same) ∙ has)

        once_now : IsOnce (with_request h volume (host_at old.hosts h).cylinder request.Queued old).requests
        once_now = subst IsOnce (sym (made_put old calm.once h volume (host_at old.hosts h).cylinder request.Queued none)) (once_put old.requests h (Some (record { volume = volume; cylinder = (host_at old.hosts h).cylinder; state = request.Queued })) calm.once)

        by_host : OnlyOne old.requests (with_request h volume (host_at old.hosts h).cylinder request.Queued old).requests h (Some (record { volume = volume; cylinder = (host_at old.hosts h).cylinder; state = request.Queued }))
            → (j : ℕ) (q : Request) → request_of (with_request h volume (host_at old.hosts h).cylinder request.Queued old).requests j ≡ Some q → (host_at old.hosts j).cylinder ≡ q.cylinder
        by_host only j q has = elim (eqb_tells j h) [
          | inl mine ↦
              ap (λ (k : ℕ). (host_at old.hosts k).cylinder) mine.1
              ∙ ap (λ (p : Request). p.cylinder) (some_is _ q (sym only.own ∙ sym (ap (request_of (with_request h volume (host_at old.hosts h).cylinder request.Queued old).requests) mine.1) ∙ has))
          | inr other ↦ calm.cylinders j q (sym (only.others j other.1) ∙ has)
        ]

  -- a search, read or write asks for its cylinder, unless it did so
  asks : (volume cylinder : ℕ) → Says old h call (Faults volume cylinder) → Asks tells old h call volume cylinder new → Waited old new h call
  asks volume cylinder says does = elim (cases_Bool (is_some (request_for old h call))) [
    | inl there ↦ still (with_it (is_some (request_for old h call)) _ there does.1) (inl (requested (request_of old.requests h) there))
    | inr fresh ↦ asked volume (none_asked old h call calm.cylinders says.data_ fresh)
        (subst (λ (c : ℕ). new ≡ record (with_event (Host h) (with_request h volume c request.Queued old)) { site = new.site }) says.cylinder_
        (without_it (is_some (request_for old h call)) (ends_request old h call) fresh (none_ends old h call calm.cylinders says.data_) does.1))
  ] where
    requested : (o : Option Request) → is_some (option_and_then (λ r. where_so (is_for (host_at old.hosts h) call r) r) o) ≡ true → (r : Request) × (o ≡ Some r)
    requested None is = absurd (false≢true is)
    requested (Some r) is = (r, refl)

    with_it : (b : Bool) (other : CoreData) → b ≡ true → new ≡ record (if b then old else other) { site = new.site } → new ≡ record old { site = new.site }
    with_it true other so is = is
    with_it false other so is = absurd (false≢true so)

    without_it : (b ends : Bool) → b ≡ false → ends ≡ false
        → new ≡ record (if b then old else with_event (Host h) (with_request h volume cylinder request.Queued (if ends then record old { requests = without_request h old.requests } else old))) { site = new.site }
        → new ≡ record (with_event (Host h) (with_request h volume cylinder request.Queued old)) { site = new.site }
    without_it true ends no_one on is = absurd (false≢true (sym no_one))
    without_it false true no_one on is = absurd (false≢true (sym on))
    without_it false false no_one on is = is

  by_rule : (rule : HostRule) (w : Waiting) → HostDoes tells old h call rule (waits w) new → Says old h call rule → Waited old new h call
  by_rule (IsBusy owner) w does says = still does.1.1 (inr says)
  by_rule (IsMoving cylinder) w does says = still does.1.1 (inl says)
  by_rule (IsHeld frame) w does says = absurd (none_some frame (sym (none_taken says.0 old.tasks calm.no_tasks) ∙ says.2))
  by_rule (Faults volume cylinder) w does says = asks volume cylinder says does.1
  by_rule (IsStopped fault) w does says = absurd (let e = does.0 in cc)
  by_rule IsFull w does says = absurd (let e = does.0 in cc)
  by_rule Responds w does says = absurd (let e = does.1 in cc)
  by_rule (HasFailed fault) w does says = absurd (let e = does.1 in cc)
  by_rule HasNoSpace w does says = absurd (let e = does.1 in cc)
  by_rule (Marks volume cylinder) w does says = absurd does
  by_rule (Runs c volume frame) w does says = absurd (run_never_waits tells old h new c volume frame call w does)

  pub wait_event : (w : Waiting) → HostEvent tells old h call (waits w) new → Waited old new h call
  wait_event w event = by_rule (host_rule old h call) w event (rule_says old h call)

-- ---- a round, whose hosts are told to wait or answered

busy_stays : (old new : CoreData) → Grown old new → (h : ℕ) → IsBusyAt old h → IsBusyAt new h
busy_stays old new grown h busy = record {
  volume = busy.volume;
  owner = busy.owner;
  on = ap (λ (hosts : List HostState). volume_under (host_at hosts h)) grown.hosts_ ∙ busy.on;
  owns_ = ap (λ (hosts : List HostState). owns hosts new.requests busy.owner busy.volume) grown.hosts_ ∙ owner_stays busy.owner busy.volume busy.owns_;
  other = busy.other;
  low = busy.low;
} where
  owner_stays : (k volume : ℕ) → owns old.hosts old.requests k volume ≡ true → owns old.hosts new.requests k volume ≡ true
  owner_stays k volume own =
      let parts = and_parts (is_on volume (host_at old.hosts k).mounted) ((host_at old.hosts k).chain_open || asks_for volume (request_of old.requests k)) own in
      and_from (is_on volume (host_at old.hosts k).mounted) ((host_at old.hosts k).chain_open || asks_for volume (request_of new.requests k)) parts.0
      (either_way (host_at old.hosts k).chain_open parts.1) where
        by_request : (o : Option Request) → request_of old.requests k ≡ o → asks_for volume o ≡ true → asks_for volume (request_of new.requests k) ≡ true
        by_request None has is = absurd (false≢true is)
        by_request (Some r) has is = ap (asks_for volume) (grown.asks_ k r has) ∙ is

        either_way : (b : Bool) → (b || asks_for volume (request_of old.requests k)) ≡ true → (b || asks_for volume (request_of new.requests k)) ≡ true
        either_way true some = refl
        either_way false asks_ = by_request (request_of old.requests k) refl asks_

met_stays : (old new : CoreData) → Grown old new → (h : ℕ) (call : CallData) → Met old h call → Met new h call
met_stays old new grown h call (inl asks_) = inl (asks_.0, grown.asks_ h asks_.0 asks_.1)
met_stays old new grown h call (inr busy) = inr (busy.0, busy_stays old new grown h busy.1)

pub answer_later : (step : Step) (steps : List Step) → HasAnswer steps → HasAnswer (step ∷ steps)
answer_later step steps one = record {
  host = one.host;
  call = one.call;
  told = one.told;
  among = (suc one.among.0, (let l = one.among.1 in omega (arith, l)), one.among.2);
  answers = one.answers;
}

pub answer_here : (h : ℕ) (call : CallData) (told : HostTold) (steps : List Step) → is_wait told ≡ false → HasAnswer (called h call told ∷ steps)
answer_here h call told steps other = record { host = h; call = call; told = told; among = (0, omega arith, refl); answers = other }

-- the hosts of a round that were all told to wait
pub record Turned (calls : NextCalls) (hs : List ℕ) (old new : CoreData) : Type 0 where
  pub grown : Grown old new
  pub met : (h : ℕ) (call : CallData) → Contains hs h → calls h ≡ Some call → Met new h call

module _ (tells : Type 0) (may : List Candidate → ℕ → Type 0) (calls : CallsAfter) (history : List EntryData) (left : CoreData) where
  abbrev Turns : List ℕ → CoreData → List Step → Type 0
  Turns hs core steps = HostTurn (without_copy tells may) calls hs core steps left (Ended left)

  abbrev Ends : List ℕ → CoreData → List Step → Type 0
  Ends hs core steps = HasAnswer steps ⊎ Turned (calls history) hs core left

  -- the event of the first host
  abbrev Event : ℕ → CallData → List ℕ → CoreData → List Step → Type 0
  Event h call hs core steps = (told : HostTold) × (rest : List Step) × (next : CoreData) × (steps ≡ called h call told ∷ rest) × HostEvent tells core h call told next
      × OneOf (is_end (called h call told)) ((rest ≡ []) × (left ≡ next)) (Turns hs next rest)

  pub event_of : (h : ℕ) (call : CallData) (hs : List ℕ) (core : CoreData) (steps : List Step) → Goes (without_copy tells may) core (IsCallOf h call) steps left (λ next rest. Turns hs next rest) → Event h call hs core steps
  event_of h call hs core [] goes = absurd goes
  event_of h call hs core (worked r told ∷ rest) goes = absurd goes.1
  event_of h call hs core (called k c told ∷ rest) goes = (
    told,
    rest,
    goes.0,
    (λ i. called (goes.1.0 i) (goes.1.1 i) told ∷ rest),
    subst₂ (λ (x : ℕ) (y : CallData). HostEvent tells core x y told goes.0) goes.1.0 goes.1.1 goes.2,
    subst₂ (λ (x : ℕ) (y : CallData). OneOf (is_end (called x y told)) ((rest ≡ []) × (left ≡ goes.0)) (Turns hs goes.0 rest)) goes.1.0 goes.1.1 goes.3,
  )

  pub all_wait : (hs : List ℕ) (core : CoreData) (steps : List Step) → core.history ≡ history → IsCalm core → Turns hs core steps → Ends hs core steps
  all_wait [] core steps same calm turns = inr (subst (λ (c : CoreData). Turned (calls history) [] core c) (sym turns.1) (record { grown = grown_none core; met = λ h call at is. absurd (let l = at.1 in omega (arith, l)) }))
  all_wait (h ∷ hs) core steps same calm turns =
      by_call (calls history h) refl (all_wait hs)
      (subst (λ (x : List EntryData). HostGoes (without_copy tells may) (calls x h) h core steps left (λ next rest. Turns hs next rest)) same turns) where
        by_call : (o : Option CallData) → calls history h ≡ o
            → ((c : CoreData) (xs : List Step) → c.history ≡ history → IsCalm c → Turns hs c xs → Ends hs c xs)
            → HostGoes (without_copy tells may) o h core steps left (λ next rest. Turns hs next rest) → Ends (h ∷ hs) core steps
        by_call None none onward goes = elim (onward core steps same calm goes) [
          | inl one ↦ inl one
          | inr t ↦ inr (record { grown = t.grown; met = with_none t.met })
        ] where
          with_none : ((k : ℕ) (c : CallData) → Contains hs k → calls history k ≡ Some c → Met left k c) → (k : ℕ) (c : CallData) → Contains (h ∷ hs) k → calls history k ≡ Some c → Met left k c
          with_none met k c (zero, lt, at) is = absurd (none_some c (sym none ∙ ap (calls history) at ∙ is))
          with_none met k c (suc n, lt, at) is = met k c (n, omega (arith, lt), at) is
        by_call (Some call) its onward goes =
            let e = event_of h call hs core steps goes in
            subst (Ends (h ∷ hs) core) (sym e.3) (by_told e.0 e.1 e.2 e.4 e.5) where
              with_one : Met left h call → ((k : ℕ) (c : CallData) → Contains hs k → calls history k ≡ Some c → Met left k c) → (k : ℕ) (c : CallData) → Contains (h ∷ hs) k → calls history k ≡ Some c → Met left k c
              with_one mine met k c (zero, lt, at) is = subst₂ (λ (x : ℕ) (y : CallData). Met left x y) at (some_is call c (sym its ∙ ap (calls history) at ∙ is)) mine
              with_one mine met k c (suc n, lt, at) is = met k c (n, omega (arith, lt), at) is

              by_told : (told : HostTold) (rest : List Step) (next : CoreData) → HostEvent tells core h call told next → OneOf (is_end (called h call told)) ((rest ≡ []) × (left ≡ next)) (Turns hs next rest) → Ends (h ∷ hs) core (called h call told ∷ rest)
              by_told (waits w) rest next event on =
                  let one = wait_event tells core next h call calm w event in
                  elim (onward next rest (one.grown.history_ ∙ same) one.calm on) [
                    | inl answer ↦ inl (answer_later (called h call (waits w)) rest answer)
                    | inr t ↦ inr (record { grown = grown_on core next left one.grown t.grown; met = with_one (met_stays next left t.grown h call one.met) t.met })
                  ]
              by_told (replied index reply) rest next event on = inl (answer_here h call (replied index reply) rest refl)
              by_told marked rest next event on = inl (answer_here h call marked rest refl)
              by_told (halts fault) rest next event on = inl (answer_here h call (halts fault) rest refl)
              by_told at_limit rest next event on = inl (answer_here h call at_limit rest refl)
              by_told no_memory rest next event on = inl (answer_here h call no_memory rest refl)

-- ---- a host that isn't kept waiting

-- a host of the list with a call that isn't kept waiting
abbrev Among : CoreData → NextCalls → List ℕ → Type 0
Among core calls [] = ⊥
Among core calls (h ∷ hs) = ((call : CallData) × (calls h ≡ Some call) × (is_kept_waiting core h call ≡ false)) ⊎ Among core calls hs

among_all : (core : CoreData) (calls : NextCalls) (hs : List ℕ) (k : ℕ) (next : CallData) → Contains hs k → calls k ≡ Some next → is_kept_waiting core k next ≡ false → Among core calls hs
among_all core calls [] k next at is goes = absurd (let l = at.1 in omega (arith, l))
among_all core calls (h ∷ hs) k next (zero, lt, at) is goes = inl (next, ap calls at ∙ is, subst (λ (x : ℕ). is_kept_waiting core x next ≡ false) (sym at) goes)
among_all core calls (h ∷ hs) k next (suc n, lt, at) is goes = inr (among_all core calls hs k next (n, omega (arith, lt), at) is goes)

abbrev pub asks_for_it : HostRule → Bool
asks_for_it (Faults volume cylinder) = true
asks_for_it _ = false

-- a host that asks for its cylinder, and had no request
pub record IsAsker (core : CoreData) (calls : NextCalls) : Type 0 where
  pub host : ℕ
  pub call : CallData
  pub its : calls host ≡ Some call
  pub asks : asks_for_it (host_rule core host call) ≡ true
  pub new : request_of core.requests host ≡ None

module _ (tells : Type 0) (may : List Candidate → ℕ → Type 0) (calls : CallsAfter) (core left : CoreData) (kept : IsCore core) (settled : IsSettled core) where
  calm : IsCalm core
  calm = record { no_tasks = settled.no_tasks; once = kept.requests_; cylinders = λ j r has. (kept.on_mounted j r has).1 }

  -- the core, with its devices as they are now
  abbrev here : DevicesSeen → CoreData
  here site = record core { site = site }

  calm_here : (site : DevicesSeen) → IsCalm (here site)
  calm_here site = record { no_tasks = calm.no_tasks; once = calm.once; cylinders = calm.cylinders }

  abbrev Found : List Step → Type 0
  Found steps = HasAnswer steps ⊎ (HasAsked core left × IsAsker core (calls core.history))

  found_later : (step : Step) (steps : List Step) → Found steps → Found (step ∷ steps)
  found_later step steps (inl one) = inl (answer_later step steps one)
  found_later step steps (inr one) = inr one

  turn : (hs : List ℕ) (site : DevicesSeen) (steps : List Step) → Among core (calls core.history) hs → HostTurn (without_copy tells may) calls hs (here site) steps left (Ended left) → Found steps
  turn [] site steps among turns = absurd among
  turn (h ∷ hs) site steps among turns = by_call (calls core.history h) refl (turn hs) turns where
    by_call : (o : Option CallData) → calls core.history h ≡ o
        → ((s : DevicesSeen) (xs : List Step) → Among core (calls core.history) hs → HostTurn (without_copy tells may) calls hs (here s) xs left (Ended left) → Found xs)
        → HostGoes (without_copy tells may) o h (here site) steps left (λ next rest. HostTurn (without_copy tells may) calls hs next rest left (Ended left)) → Found steps
    by_call None none onward goes = elim among [
      | inl mine ↦ absurd (none_some mine.0 (sym none ∙ mine.1))
      | inr others ↦ onward site steps others goes
    ]
    by_call (Some call) its onward goes =
        let e = event_of tells may calls core.history left h call hs (here site) steps goes in
        subst Found (sym e.3) (by_told e.0 e.1 e.2 e.4 e.5) where
          -- it is told to wait: it was kept waiting, or it asks
          waits_on : (w : Waiting) (rest : List Step) (next : CoreData) → HostEvent tells (here site) h call (waits w) next → HostTurn (without_copy tells may) calls hs next rest left (Ended left) → Found (called h call (waits w) ∷ rest)
          waits_on w rest next event on = elim (cases_Bool (is_kept_waiting core h call)) [
            | inl waits_ ↦
                let same = (kept_same tells (here site) next h call kept.on_mounted (waits w) event (same_kept_waiting core site h call ∙ waits_)).1.1 in
                elim among [
                  | inl mine ↦ absurd (both_ways (is_kept_waiting core h call) (subst (λ (c : CallData). is_kept_waiting core h c ≡ false) (some_is mine.0 call (sym mine.1 ∙ its)) mine.2) waits_)
                  | inr others ↦ found_later (called h call (waits w)) rest (onward next.site rest others (subst (λ (c : CoreData). HostTurn (without_copy tells may) calls hs c rest left (Ended left)) same on))
                ]
            | inr free ↦
                let first = goes_on tells (here site) kept.requests_ h call (waits w) next event (same_kept_waiting core site h call ∙ free) in
                let asks_ = asks_by (host_rule (here site) h call) w event (rule_says (here site) h call) (same_kept_waiting core site h call ∙ free) in
                let none : request_of core.requests h ≡ None = none_asked (here site) h call calm.cylinders asks_.1 (ap is_some first.new) in
                let one = wait_event tells (here site) next h call (calm_here site) w event in
                elim (all_wait tells may calls core.history left hs next rest one.grown.history_ one.calm on) [
                  | inl answer ↦ inl (answer_later (called h call (waits w)) rest answer)
                  | inr t ↦ inr (
                    record { host = h; before = none; after = ap is_some (t.grown.asks_ h first.request first.made) },
                    record { host = h; call = call; its = its; asks = ap asks_for_it (sym (same_host_rule core site h call)) ∙ asks_.0; new = none },
                  )
                ]
          ] where
            asks_by : (rule : HostRule) (v : Waiting) → HostDoes tells (here site) h call rule (waits v) next → Says (here site) h call rule → keeps_waiting (is_some (request_for (here site) h call)) rule ≡ false
                → (asks_for_it rule ≡ true) × (is_some (data_command (host_at core.hosts h) call) ≡ true)
            asks_by (Faults volume cylinder) v does says goes_ = (refl, says.data_)
            asks_by (IsBusy owner) v does says goes_ = absurd (false≢true (sym goes_))
            asks_by (IsMoving cylinder) v does says goes_ = absurd (false≢true (sym goes_))
            asks_by (IsHeld frame) v does says goes_ = absurd (false≢true (sym goes_))
            asks_by (IsStopped fault) v does says goes_ = absurd (let x = does.0 in cc)
            asks_by IsFull v does says goes_ = absurd (let x = does.0 in cc)
            asks_by Responds v does says goes_ = absurd (let x = does.1 in cc)
            asks_by (HasFailed fault) v does says goes_ = absurd (let x = does.1 in cc)
            asks_by HasNoSpace v does says goes_ = absurd (let x = does.1 in cc)
            asks_by (Marks volume cylinder) v does says goes_ = absurd does
            asks_by (Runs c volume frame) v does says goes_ = absurd (run_never_waits tells (here site) h next c volume frame call v does)

          by_told : (told : HostTold) (rest : List Step) (next : CoreData) → HostEvent tells (here site) h call told next
              → OneOf (is_end (called h call told)) ((rest ≡ []) × (left ≡ next)) (HostTurn (without_copy tells may) calls hs next rest left (Ended left)) → Found (called h call told ∷ rest)
          by_told (waits w) rest next event on = waits_on w rest next event on
          by_told (replied index reply) rest next event on = inl (answer_here h call (replied index reply) rest refl)
          by_told marked rest next event on = inl (answer_here h call marked rest refl)
          by_told (halts fault) rest next event on = inl (answer_here h call (halts fault) rest refl)
          by_told at_limit rest next event on = inl (answer_here h call at_limit rest refl)
          by_told no_memory rest next event on = inl (answer_here h call no_memory rest refl)

-- a round has an answer, or some host asks
pub round_moves : (tells : Type 0) (may : List Candidate → ℕ → Type 0) (calls : CallsAfter) (hosts : List ℕ) (core : CoreData) (steps : List Step) (left : CoreData)
    → IsBetweenRounds calls hosts core → IsRound tells may calls hosts core steps left → HasAnswer steps ⊎ (HasAsked core left × IsAsker core (calls core.history))
round_moves tells may calls hosts core steps left between round =
    let one = someone_goes_on core between.settled (core_fits core between.kept) (calls core.history) between.owners_call between.someone_calls in
    turn tells may calls core left between.kept between.settled hosts core.site steps
    (among_all core (calls core.history) hosts one.0 one.1 (between.all_call one.0 (one.1, one.2)) one.2 one.3) round

pub round_goes_on : (tells : Type 0) (may : List Candidate → ℕ → Type 0) (calls : CallsAfter) (hosts : List ℕ) (core : CoreData) (steps : List Step) (left : CoreData)
    → IsBetweenRounds calls hosts core → IsRound tells may calls hosts core steps left → HasAnswer steps ⊎ HasAsked core left
round_goes_on tells may calls hosts core steps left between round = elim (round_moves tells may calls hosts core steps left between round) [
  | inl answer ↦ inl answer
  | inr asked_ ↦ inr asked_.0
]
