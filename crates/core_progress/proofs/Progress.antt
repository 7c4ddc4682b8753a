-- When the recorders have nothing left to do, some host's call goes on.
use Rattle.std.proofs.Common.{◌≡◌, ◌⊎◌, inl, inr, ℕ, zero, suc, ◌<◌, ◌≤◌, ◌==◌, nat_eq, nat_lt, nat_le, Bool, true, false, not, ◌&&◌, ◌||◌, List, [], ◌∷◌, length, Option, Some, None, is_some, option_map, option_and_then, unwrap_or, refl, sym, ◌∙◌, ap, subst, subst₂, arith}
use Rattle.std.specs.Prelude.{if◌then◌else◌}
use Rattle.std.specs.Option.{ForSome}
use Rattle.std.specs.List.{list_any}
use Rattle.std.proofs.lemmas.Bool.{cases_Bool, and_parts, and_from, or_right, not-true, eqb-true, eq-eqb, le-ltb, both_ways, false≢true}
use Rattle.std.proofs.lemmas.Cmp.{nat_eq_equiv}
use Rattle.std.proofs.lemmas.List.Folds.{Any-from_list_any}
use Rattle.std.proofs.lemmas.Map.Views.{lookup-from_Contains}
use Rattle.channel_commands.specs.declared.command.Command.{Command}
use Rattle.channel_commands.specs.Codes.{is_write}
use Rattle.channel_commands.specs.Data.{CallData, is_command}
use Rattle.ckd_plain.specs.declared.host.HostState.{HostState}
use Rattle.mss_base.specs.Firsts.{◌or◌, first_below, where_so}
use Rattle.mss_base.proofs.FirstFacts.{chain_none, where_none}
use Rattle.fault_queue.specs.declared.queue.Request.{Request}
use Rattle.fault_queue.specs.declared.queue.RequestState.{RequestState}
use Rattle.fault_queue.specs.declared.queue.RequestState.TheVariants as request
use Rattle.fault_queue.specs.Requests.{RequestsData, request_of}
use Rattle.volume_table.specs.Listed.{row_in_list}
use Rattle.shown_volumes.specs.Sound.{frame_in}
use Rattle.core_state.specs.declared.task.Task.{Task}
use Rattle.core_state.specs.declared.rule.HostRule.{HostRule}
use Rattle.core_state.specs.declared.rule.HostRule.TheVariants.{IsStopped, IsFull, IsBusy, IsMoving, IsHeld, Responds, HasFailed, HasNoSpace, Faults, Marks, Runs}
use Rattle.core_state.specs.CoreValue.{CoreData}
use Rattle.core_state.specs.Pins.{host_at, volume_under, page_of, on_page, owner_at, state_in, is_on, asks_for, owns, owner_of, is_ready, is_ready_on, is_bound, is_held, are_all_bound}
use Rattle.core_state.specs.HostRules.{data_command, is_for, request_for, is_moving_request, fault_of, volume_of, state_under, frame_under, stopped_rule, full_rule, busy_rule, moving_rule, taken_from, would_bind, held_rule, failed_rule, fault_rule, mark_rule, data_rule, host_rule}
use Rattle.core_state.specs.Chains.{IsAtRest, AllRequests, AllNone, IsSettled}
use Rattle.core_state.proofs.RuleWalks.{some_is, none_some, nothing, this, either, where_test, mapped, chained, found, tested}
use Rattle.core_progress.specs.CoreFits.{CoreFits}
use Rattle.core_progress.specs.Progress.{NextCalls, OwnersCall, keeps_waiting, SomeoneCalls, SomeoneGoesOn}
use Rattle.core_progress.proofs.AtRest.{none_or_some}

-- ---- the owner of a volume

either_is : (a b : Option ℕ) (x : ℕ) → (a or b) ≡ Some x → (a ≡ Some x) ⊎ (b ≡ Some x)
either_is None b x is = inr is
either_is (Some y) b x is = inl is

-- the number that is found is below, and passes
pub found_below : (test : ℕ → Bool) (n x : ℕ) → first_below n (λ k. where_so (test k) k) ≡ Some x → (x < n) × (test x ≡ true)
unfolding first_below
found_below test zero x is = absurd (none_some x is)
found_below test (suc n) x is = elim (either_is (first_below n (λ k. where_so (test k) k)) (where_so (test n) n) x is) [
  | inl earlier ↦ let f = found_below test n x earlier in (let b : x < n = f.0 in omega arith, f.1)
  | inr here ↦ let w = tested (test n) n x here in (let e : n ≡ x = w.1 in omega arith, ap test (sym w.1) ∙ w.0)
]

pub mounted_is : (volume : ℕ) (host : HostState) → is_on volume host.mounted ≡ true → volume_under host ≡ Some volume
mounted_is volume host on = by_mounted host.mounted on where
  by_mounted : (m : Option (ℕ × Bool)) → is_on volume m ≡ true → option_map (λ n. n.0) m ≡ Some volume
  by_mounted None is = absurd (false≢true is)
  by_mounted (Some n) is = ap (λ (k : ℕ). Some k) (eqb-true n.0 volume is)

-- the owner that a volume's host finds owns the volume
pub owner_owns : (core : CoreData) (host : HostState) (o : ℕ) → option_and_then (owner_of core) (volume_under host) ≡ Some o
    → (volume : ℕ) × (volume_under host ≡ Some volume) × (owns core.hosts core.requests o volume ≡ true)
owner_owns core host o is = by_volume (volume_under host) is where
  by_volume : (v : Option ℕ) → option_and_then (owner_of core) v ≡ Some o → (volume : ℕ) × (v ≡ Some volume) × (owns core.hosts core.requests o volume ≡ true)
  by_volume None e = absurd (none_some o e)
  by_volume (Some volume) e = (volume, refl, (found_below (λ h. owns core.hosts core.requests h volume) 9 o e).1)

module _ (core : CoreData) (fit : CoreFits core) where
  -- a host that owns its volume isn't told that it is busy
  owner_is_free : (h volume : ℕ) (call : CallData) → volume_under (host_at core.hosts h) ≡ Some volume → owns core.hosts core.requests h volume ≡ true → busy_rule core h call ≡ None
  owner_is_free h volume call on own =
      chain_none (λ owner. where_so (is_command call && not (owner == h)) (IsBusy owner)) (option_and_then (owner_of core) (volume_under (host_at core.hosts h))) λ owner is.
      where_none (is_command call && not (owner == h)) (IsBusy owner) λ other.
      let its = owner_owns core (host_at core.hosts h) owner is in
      let same : its.0 ≡ volume = some_is its.0 volume (sym its.1 ∙ on) in
      let its_own : owns core.hosts core.requests owner volume ≡ true = subst (λ (v : ℕ). owns core.hosts core.requests owner v ≡ true) same its.2 in
      both_ways (owner == h) (not-true (owner == h) (and_parts (is_command call) (not (owner == h)) other).1) (eq-eqb owner h (fit.requests_.alone volume owner h its_own own))

  -- where a host with a request stands
  stands : (h : ℕ) (r : Request) → request_of core.requests h ≡ Some r → volume_under (host_at core.hosts h) ≡ Some r.volume
  stands h r has = mounted_is r.volume (host_at core.hosts h) (fit.requests_.placed h r has).0

  -- a host with a request owns its volume
  asker_owns : (h : ℕ) (r : Request) → request_of core.requests h ≡ Some r → owns core.hosts core.requests h r.volume ≡ true
  asker_owns h r has =
      let host = host_at core.hosts h in
      and_from (is_on r.volume host.mounted) (host.chain_open || asks_for r.volume (request_of core.requests h))
      (fit.requests_.placed h r has).0
      (or_right host.chain_open (asks_for r.volume (request_of core.requests h)) (ap (asks_for r.volume) has ∙ eq-eqb r.volume r.volume refl))

  asker_is_free : (h : ℕ) (r : Request) (call : CallData) → request_of core.requests h ≡ Some r → busy_rule core h call ≡ None
  asker_is_free h r call has = owner_is_free h r.volume call (stands h r has) (asker_owns h r has)

-- ---- a settled core

rest_of : (core : CoreData) (requests : RequestsData) → AllRequests (λ r. IsAtRest core r r.state) requests → (h : ℕ) (r : Request) → request_of requests h ≡ Some r → IsAtRest core r r.state
rest_of core [] all h r is = absurd (none_some r is)
rest_of core (asked ∷ more) all h r is = elim (cases_Bool (nat_eq h asked.0)) [
  | inl here ↦ let e : asked.1 ≡ r = some_is asked.1 r (rw here at is) in subst (λ (q : Request). IsAtRest core q q.state) e all.0
  | inr later ↦ rest_of core more all.1 h r (rw later at is)
]

pub none_taken : (volume : ℕ) (tasks : List (Option Task)) → AllNone tasks → taken_from volume tasks ≡ None
none_taken volume [] all = refl
none_taken volume (task ∷ tasks) all = rw (all.0) (none_taken volume tasks all.1)

-- a rule that doesn't keep its call waiting
abbrev Goes : Bool → HostRule → Type 0
Goes asked x = keeps_waiting asked x ≡ false

module _ (core : CoreData) (settled : IsSettled core) where
  none_moves : (h : ℕ) (call : CallData) → moving_rule core h call ≡ None
  none_moves h call =
      chain_none (λ r. where_so (is_moving_request r.state && not (is_for (host_at core.hosts h) call r)) (IsMoving r.cylinder)) (request_of core.requests h) λ r is.
      where_none (is_moving_request r.state && not (is_for (host_at core.hosts h) call r)) (IsMoving r.cylinder) λ moves.
      by_state r r.state (rest_of core core.requests settled.requests_ h r is) (and_parts (is_moving_request r.state) (not (is_for (host_at core.hosts h) call r)) moves).0 where
        by_state : (r : Request) (state : RequestState) → IsAtRest core r state → is_moving_request state ≡ true → ⊥
        by_state r request.Moving rest is = rest
        by_state r request.Queued rest is = false≢true is
        by_state r request.Ready rest is = false≢true is
        by_state r (request.Failed fault) rest is = false≢true is

  none_held : (h : ℕ) (call : CallData) → held_rule core h call ≡ None
  none_held h call = ap (option_map IsHeld) (chain_none (λ volume. taken_from volume core.tasks) (would_bind core (host_at core.hosts h) call) λ volume is. none_taken volume core.tasks settled.no_tasks)

  module _ (asked : Bool) (h : ℕ) (call : CallData) where
    abbrev host : HostState
    host = host_at core.hosts h

    -- a call that isn't busy goes on by the rules for data
    goes_on : busy_rule core h call ≡ None → ForSome (failed_rule core h call or option_and_then (data_rule core host) (data_command host call)) (Goes asked) → Goes asked (host_rule core h call)
    unfolding host_rule
    goes_on free more =
        found (Goes asked) (stopped_rule core or full_rule core or busy_rule core h call or moving_rule core h call or held_rule core h call or failed_rule core h call or option_and_then (data_rule core host) (data_command host call)) Responds
        (either (Goes asked) (stopped_rule core) _ (mapped (Goes asked) IsStopped core.stopped λ fault. refl)
        (either (Goes asked) (full_rule core) _ (where_test (Goes asked) (nat_le 4096 (length core.history)) IsFull λ _. refl)
        (either (Goes asked) (busy_rule core h call) _ (nothing (Goes asked) (busy_rule core h call) free)
        (either (Goes asked) (moving_rule core h call) _ (nothing (Goes asked) (moving_rule core h call) (none_moves h call))
        (either (Goes asked) (held_rule core h call) _ (nothing (Goes asked) (held_rule core h call) (none_held h call)) more)))))
        refl

    -- unless its cylinder has to be asked for
    goes_by_data : busy_rule core h call ≡ None → ((c : Command) → ForSome (fault_rule core host c) (Goes asked)) → Goes asked (host_rule core h call)
    goes_by_data free faults =
        goes_on free
        (either (Goes asked) (failed_rule core h call) _ (mapped (Goes asked) HasFailed (option_and_then (λ r. fault_of r.state) (request_for core h call)) λ fault. refl)
        (chained (Goes asked) (data_rule core host) (data_command host call) λ c.
        either (Goes asked) (fault_rule core host c) _ (faults c)
        (either (Goes asked) (mark_rule core host c) _ (where_test (Goes asked) (is_write c && nat_lt (state_under core host) 4) (Marks (volume_of host) host.cylinder) λ _. refl)
        (mapped (Goes asked) (Runs c (volume_of host)) (frame_under core host) λ frame. refl))))

-- ---- the cases

-- a frame that is held is so by a Ready request of some host
holder : (core : CoreData) (fit : CoreFits core) (page : ℕ × ℕ) → list_any (λ (asked : ℕ × Request). is_ready_on page asked.1) core.requests ≡ true
    → (k : ℕ) × (r : Request) × (request_of core.requests k ≡ Some r) × (r.state ≡ request.Ready)
holder core fit page some =
    let any = Any-from_list_any (λ (asked : ℕ × Request). is_ready_on page asked.1) core.requests some in
    let asked : ℕ × Request = any.1 in
    (asked.0, asked.1, lookup-from_Contains nat_eq_equiv asked.0 asked.1 core.requests fit.requests_.single (any.0, any.2, any.3), ready_state asked.1.state (and_parts (is_ready asked.1.state) _ any.4).0) where
      ready_state : (state : RequestState) → is_ready state ≡ true → state ≡ request.Ready
      ready_state request.Ready is = refl
      ready_state request.Queued is = absurd (false≢true is)
      ready_state request.Moving is = absurd (false≢true is)
      ready_state (request.Failed fault) is = absurd (false≢true is)

module _ (core : CoreData) (settled : IsSettled core) (fit : CoreFits core) (calls : NextCalls) (owners_call : OwnersCall core calls) where
  abbrev asked_for : ℕ → CallData → Bool
  asked_for h call = is_some (request_for core h call)

  -- what is true of a request's cylinder is so where its host stands
  where_host_is : (P : ℕ → ℕ → Type 0) (h : ℕ) (r : Request) → request_of core.requests h ≡ Some r → P r.volume r.cylinder → P (volume_of (host_at core.hosts h)) (host_at core.hosts h).cylinder
  where_host_is P h r has p = subst₂ P (sym (ap (λ (v : Option ℕ). unwrap_or v 0) (stands core fit h r has))) (sym (fit.requests_.placed h r has).1) p

  -- a Ready request's host
  ready_goes_on : (h : ℕ) (r : Request) → request_of core.requests h ≡ Some r → r.state ≡ request.Ready → SomeoneGoesOn core calls
  ready_goes_on h r has ready =
      let its = owners_call h r.volume (asker_owns core fit h r has) in
      let host = host_at core.hosts h in
      let there : 2 ≤ state_under core host = where_host_is (λ v c. 2 ≤ state_in core.rows v c) h r has (fit.requests_.staged h r has ready) in (
        h,
        its.0,
        its.1,
        goes_by_data core settled (asked_for h its.0) h its.0 (asker_is_free core fit h r its.0 has) λ c.
            where_test (Goes (asked_for h its.0)) (nat_lt (state_under core host) 2) _ λ below. absurd (both_ways (nat_lt (state_under core host) 2) (le-ltb (state_under core host) 2 there) below),
      )

  -- a host that has no request asks for its cylinder
  asks : (h : ℕ) (call : CallData) → calls h ≡ Some call → busy_rule core h call ≡ None → request_of core.requests h ≡ None → SomeoneGoesOn core calls
  asks h call is free none =
      let host = host_at core.hosts h in
      let fresh : asked_for h call ≡ false = rw none refl in (
        h,
        call,
        is,
        goes_by_data core settled (asked_for h call) h call free λ c.
            where_test (Goes (asked_for h call)) (nat_lt (state_under core host) 2) _ λ _.
            rw fresh (either_way (not (is_some (frame_under core host)) && are_all_bound core) (volume_of host) host.cylinder),
      ) where
        either_way : (b : Bool) (volume cylinder : ℕ) → Goes false (if b then HasNoSpace else Faults volume cylinder)
        either_way true volume cylinder = refl
        either_way false volume cylinder = refl

  -- a Queued request's host, where each frame is bound, is told that there is no space
  no_space_left : (h : ℕ) (r : Request) (call : CallData) → calls h ≡ Some call → request_of core.requests h ≡ Some r → frame_in (row_in_list core.rows) r.volume (page_of r.cylinder) ≡ None → are_all_bound core ≡ true → SomeoneGoesOn core calls
  no_space_left h r call is has bare all =
      let host = host_at core.hosts h in
      let none : frame_under core host ≡ None = where_host_is (λ v c. frame_in (row_in_list core.rows) v (page_of c) ≡ None) h r has bare in (
        h,
        call,
        is,
        goes_by_data core settled (asked_for h call) h call (asker_is_free core fit h r call has) λ c.
            where_test (Goes (asked_for h call)) (nat_lt (state_under core host) 2) _ λ _. rw (none, all) refl,
      )

  -- where one isn't, it is held, and the Ready request's host goes on
  held_goes_on : ((frame : ℕ) → frame < core.config.frames → (is_bound core frame ≡ true) ⊎ (is_held core frame ≡ true)) → are_all_bound core ≡ false → SomeoneGoesOn core calls
  held_goes_on pinned some = elim (none_or_some (first_below core.config.frames (λ frame. where_so (not (is_bound core frame)) frame))) [
    | inl none ↦ absurd (both_ways (are_all_bound core) some (ap (λ o. not (is_some o)) none))
    | inr one ↦
        let its = found_below (λ frame. not (is_bound core frame)) core.config.frames one.0 one.1 in
        elim (pinned one.0 its.0) [
          | inl bound ↦ absurd (both_ways (is_bound core one.0) (not-true (is_bound core one.0) its.1) bound)
          | inr held ↦
              let page = page_held (owner_at core.owners one.0) held in
              let k = holder core fit page.0 page.1 in
              ready_goes_on k.0 k.1 k.2 k.3
        ]
  ] where
    page_held : (o : Option (ℕ × ℕ)) → on_page (λ page. list_any (λ asked. is_ready_on page asked.1) core.requests) o ≡ true
        → (page : ℕ × ℕ) × (list_any (λ asked. is_ready_on page asked.1) core.requests ≡ true)
    page_held None is = absurd (false≢true is)
    page_held (Some page) is = (page, is)

  -- a Failed request's host is told of the fault, or replied without its tracks
  failed_goes_on : (h : ℕ) (r : Request) (call : CallData) (fault : ℕ) → calls h ≡ Some call → request_of core.requests h ≡ Some r → r.state ≡ request.Failed fault → SomeoneGoesOn core calls
  failed_goes_on h r call fault is has state =
      (h, call, is, goes_on core settled (asked_for h call) h call (asker_is_free core fit h r call has) (by_command (data_command (host_at core.hosts h) call) refl)) where
        by_command : (o : Option Command) → data_command (host_at core.hosts h) call ≡ o
            → ForSome (failed_rule core h call or option_and_then (data_rule core (host_at core.hosts h)) (data_command (host_at core.hosts h) call)) (Goes (asked_for h call))
        by_command None none =
            either (Goes (asked_for h call)) (failed_rule core h call) _ (mapped (Goes (asked_for h call)) HasFailed (option_and_then (λ q. fault_of q.state) (request_for core h call)) λ x. refl)
            (nothing (Goes (asked_for h call)) (option_and_then (data_rule core (host_at core.hosts h)) (data_command (host_at core.hosts h) call)) (ap (option_and_then (data_rule core (host_at core.hosts h))) none))
        by_command (Some c) some =
            let host = host_at core.hosts h in
            let for : is_for host call r ≡ true = and_from (is_some (data_command host call)) (host.cylinder == r.cylinder) (ap is_some some) (eq-eqb host.cylinder r.cylinder (fit.requests_.placed h r has).1) in
            let failed : failed_rule core h call ≡ Some (HasFailed fault) = rw (has, for, state) refl in
            rw failed (this (Goes (asked_for h call)) (HasFailed fault) refl)

  asker_goes_on : (h : ℕ) (r : Request) (call : CallData) → calls h ≡ Some call → request_of core.requests h ≡ Some r
      → (state : RequestState) → r.state ≡ state → IsAtRest core r state → SomeoneGoesOn core calls
  asker_goes_on h r call is has request.Moving state rest = absurd rest
  asker_goes_on h r call is has request.Ready state rest = ready_goes_on h r has state
  asker_goes_on h r call is has (request.Failed fault) state rest = failed_goes_on h r call fault is has state
  asker_goes_on h r call is has request.Queued state rest = elim (cases_Bool (are_all_bound core)) [
    | inl all ↦ no_space_left h r call is has rest.0 all
    | inr some ↦ held_goes_on (λ frame lt. (rest.1 frame lt).1) some
  ]

  -- a host that isn't busy, or another
  free_goes_on : (h : ℕ) (call : CallData) → calls h ≡ Some call → busy_rule core h call ≡ None → SomeoneGoesOn core calls
  free_goes_on h call is free = elim (none_or_some (request_of core.requests h)) [
    | inl none ↦ asks h call is free none
    | inr one ↦ asker_goes_on h one.0 call is one.1 one.0.state refl (rest_of core core.requests settled.requests_ h one.0 one.1)
  ]

  -- a host that owns its volume, or another
  owner_goes_on : (o volume : ℕ) → owns core.hosts core.requests o volume ≡ true → SomeoneGoesOn core calls
  owner_goes_on o volume own =
      let host = host_at core.hosts o in
      let on = (and_parts (is_on volume host.mounted) (host.chain_open || asks_for volume (request_of core.requests o)) own).0 in
      let its = owners_call o volume own in
      free_goes_on o its.0 its.1 (owner_is_free core fit o volume its.0 (mounted_is volume host on) own)

  -- where a host has a call, some host's call isn't kept waiting
  pub someone_goes_on : SomeoneCalls calls → SomeoneGoesOn core calls
  someone_goes_on (h, (call, is)) = elim (none_or_some (option_and_then (owner_of core) (volume_under (host_at core.hosts h)))) [
    | inl none ↦ free_goes_on h call is (ap (option_and_then (λ owner. where_so (is_command call && not (owner == h)) (IsBusy owner))) none)
    | inr owner ↦ let its = owner_owns core (host_at core.hosts h) owner.0 owner.1 in owner_goes_on owner.0 its.0 its.2
  ]
