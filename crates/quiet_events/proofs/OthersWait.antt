-- What a recorder does for its own task leaves hosts waiting that wait in vain.
use Rattle.std.proofs.Common.{◌≡◌, ℕ, zero, suc, ◌==◌, nat_le, Bool, true, false, not, ◌&&◌, ◌||◌, List, [], ◌∷◌, length, Option, Some, None, refl, sym, ◌∙◌, ap}
use Rattle.std.specs.Prelude.{is_some, slice_set}
use Rattle.std.specs.Option.{ForSome, option_map, option_and_then, unwrap_or}
use Rattle.std.proofs.lemmas.Bool.{false≢true, and_parts}
use Rattle.channel_commands.specs.declared.command.Command.{Command}
use Rattle.channel_commands.specs.Data.{CallData, mount, demount, command as ask, break, is_command}
use Rattle.ckd_plain.specs.declared.host.HostState.{HostState}
use Rattle.mss_base.specs.Firsts.{◌or◌, where_so, first_below}
use Rattle.mss_base.proofs.FirstFacts.{chain_none, where_none}
use Rattle.fault_queue.specs.declared.queue.Request.{Request}
use Rattle.fault_queue.specs.declared.queue.RequestState.TheVariants.{Moving}
use Rattle.fault_queue.specs.Requests.{request_of, in_state, IsOnce}
use Rattle.core_state.specs.declared.task.Task.{Task}
use Rattle.core_state.specs.declared.rule.HostRule.{HostRule}
use Rattle.core_state.specs.declared.rule.HostRule.TheVariants.{IsStopped, IsFull, IsBusy, IsMoving, IsHeld, HasFailed, Responds}
use Rattle.core_state.specs.CoreValue.{CoreData, DevicesSeen}
use Rattle.core_state.specs.HostRules.{data_command, is_for, request_for, is_moving_request, fault_of, stopped_rule, full_rule, busy_rule, moving_rule, taken_by, taken_from, would_bind, held_rule, failed_rule, data_rule, host_rule}
use Rattle.core_state.specs.Pins.{host_at, task_at, volume_under, is_on, asks_for, owner_of}
use Rattle.core_state.specs.Steps.{ends_request}
use Rattle.core_state.proofs.RuleWalks.{first, mapped, chained, where_test}
use Rattle.quiet_events.specs.Quiet.{is_wait_in_vain, WaitsInVain}
use Rattle.quiet_events.proofs.OthersIdle.{fetched, copied, picked}
use Rattle.quiet_events.proofs.RequestsStill.{asked_still, some_where}

-- ---- the frames that tasks take

-- a task anew, which takes the same
taken_same : (volume : ℕ) (tasks : List (Option Task)) (n : ℕ) (o : Option Task) → option_and_then (taken_by volume) o ≡ option_and_then (taken_by volume) (task_at tasks n)
    → taken_from volume (slice_set tasks n o) ≡ taken_from volume tasks
taken_same volume [] n o same = refl
taken_same volume (t ∷ ts) zero o same = ap (λ (x : Option ℕ). x or taken_from volume ts) same
taken_same volume (t ∷ ts) (suc n) o same = ap (λ (x : Option ℕ). option_and_then (taken_by volume) t or x) (taken_same volume ts n o same)

-- the task of a recorder that had none
taken_still : (volume : ℕ) (tasks : List (Option Task)) (n : ℕ) (o : Option Task) → task_at tasks n ≡ None → is_some (taken_from volume tasks) ≡ true → is_some (taken_from volume (slice_set tasks n o)) ≡ true
taken_still volume [] n o free some = some
taken_still volume (t ∷ ts) zero o free some =
    second (option_and_then (taken_by volume) o) (taken_from volume ts) (sym (ap (λ (x : Option Task). is_some (option_and_then (taken_by volume) x or taken_from volume ts)) free) ∙ some)
  where
    second : (a b : Option ℕ) → is_some b ≡ true → is_some (a or b) ≡ true
    second None b is = is
    second (Some x) b is = refl
taken_still volume (t ∷ ts) (suc n) o free some = by (option_and_then (taken_by volume) t) (taken_from volume ts) (taken_from volume (slice_set ts n o)) (taken_still volume ts n o free) some
  where
    by : (a b c : Option ℕ) → (is_some b ≡ true → is_some c ≡ true) → is_some (a or b) ≡ true → is_some (a or c) ≡ true
    by None b c more is = more is
    by (Some x) b c more is = refl

-- ---- after a fetched cartridge, and a copied track

module _ (core : CoreData) (site : DevicesSeen) (n : ℕ) (h : ℕ) (call : CallData) where
  pub fetch_waits : (cartridge : ℕ) → WaitsInVain core h call → WaitsInVain (fetched core site n cartridge) h call
  unfolding host_rule
  fetch_waits cartridge is = is

  pub copy_waits : (old new : Task) → task_at core.tasks n ≡ Some old → new.victim ≡ old.victim → new.frame ≡ old.frame → WaitsInVain core h call → WaitsInVain (copied core site n new) h call
  unfolding host_rule
  copy_waits old new at victim_ frame_ is =
      (λ i. is_wait_in_vain (is_some (request_for core h call)) (ends_request core h call)
      (unwrap_or (stopped_rule core or full_rule core or busy_rule core h call or moving_rule core h call
      or option_map IsHeld (option_and_then (λ volume. taken volume i) (would_bind core (host_at core.hosts h) call))
      or failed_rule core h call or option_and_then (data_rule core (host_at core.hosts h)) (data_command (host_at core.hosts h) call)) Responds)) ∙ is
    where
      taken : (volume : ℕ) → taken_from volume (slice_set core.tasks n (Some new)) ≡ taken_from volume core.tasks
      taken volume = taken_same volume core.tasks n (Some new)
          ((λ i. option_and_then (λ page. where_so (page.0 == volume) (frame_ i)) (victim_ i)) ∙ ap (option_and_then (taken_by volume)) (sym at))

-- ---- after a request was taken

module _ (core : CoreData) (site : DevicesSeen) (n h frame : ℕ) (victim : Option (ℕ × ℕ)) (once : IsOnce core.requests) (free : task_at core.tasks n ≡ None) (g : ℕ) (call : CallData) where
  abbrev left : CoreData
  left = picked core site n h frame victim

  abbrev host : HostState
  host = host_at core.hosts g

  -- the host's request, where the call is for it
  abbrev its : Request → Option Request
  its r = where_so (is_for host call r) r

  asked_same : is_some (request_for left g call) ≡ is_some (request_for core g call)
  asked_same = asked_still core.requests once h Moving (λ a b. is_some (option_and_then its b) ≡ is_some (option_and_then its a)) (λ o. refl)
      (λ q. some_where (is_for host call q) (in_state Moving q) q) g

  ends_same : ends_request left g call ≡ ends_request core g call
  ends_same = asked_still core.requests once h Moving
      (λ a b. (is_some b && not (is_some (option_and_then its b))) ≡ (is_some a && not (is_some (option_and_then its a)))) (λ o. refl)
      (λ q. ap not (some_where (is_for host call q) (in_state Moving q) q)) g

  abbrev in_vain : HostRule → Bool
  in_vain = is_wait_in_vain (is_some (request_for core g call)) (ends_request core g call)

  abbrev Vain : HostRule → Type 0
  Vain x = in_vain x ≡ true

  abbrev VainBy : Option HostRule → Type 0
  VainBy o = Vain (unwrap_or o Responds)

  -- a rule that isn't in vain isn't the first of those that are
  passed : (a b : Option HostRule) → ForSome a (λ x. in_vain x ≡ false) → VainBy (a or b) → (a ≡ None) × VainBy b
  passed None b never is = (refl, is)
  passed (Some x) b never is = absurd (false≢true (sym (never x refl) ∙ is))

  behind : (a b : Option HostRule) → a ≡ None → VainBy (a or b) → VainBy b
  behind a b none is = sym (ap (λ (o : Option HostRule). in_vain (unwrap_or (o or b) Responds)) none) ∙ is

  pass : (a b : Option HostRule) → a ≡ None → VainBy b → VainBy (a or b)
  pass a b none is = ap (λ (o : Option HostRule). in_vain (unwrap_or (o or b) Responds)) none ∙ is

  -- ---- the rules one by one

  busy_same : busy_rule left g call ≡ busy_rule core g call
  busy_same = λ i. option_and_then (λ owner. where_so (is_command call && not (owner == g)) (IsBusy owner))
      (option_and_then (λ volume. first_below 9 (λ k. where_so (is_on volume (host_at core.hosts k).mounted && ((host_at core.hosts k).chain_open || owned volume k i)) k)) (volume_under host))
    where
      owned : (volume k : ℕ) → asks_for volume (request_of left.requests k) ≡ asks_for volume (request_of core.requests k)
      owned volume k = asked_still core.requests once h Moving (λ a b. asks_for volume b ≡ asks_for volume a) (λ o. refl) (λ q. refl) k

  abbrev moving_for : Request → Option HostRule
  moving_for r = where_so (is_moving_request r.state && not (is_for host call r)) (IsMoving r.cylinder)

  -- who waits for a request that is served waits for it still
  moving_still : is_some (moving_rule core g call) ≡ true → is_some (moving_rule left g call) ≡ true
  moving_still = asked_still core.requests once h Moving (λ a b. is_some (option_and_then moving_for a) ≡ true → is_some (option_and_then moving_for b) ≡ true) (λ o is. is)
      (λ q. by (is_moving_request q.state) (is_for host call q) q.cylinder) g
    where
      by : (moves for : Bool) (cylinder : ℕ) → is_some (where_so (moves && not for) (IsMoving cylinder)) ≡ true → is_some (where_so (true && not for) (IsMoving cylinder)) ≡ true
      by true for cylinder is = is
      by false for cylinder is = absurd (false≢true is)

  none_moving : (o p : Option HostRule) → (is_some o ≡ true → is_some p ≡ true) → p ≡ None → o ≡ None
  none_moving None p on none = refl
  none_moving (Some x) p on none = absurd (false≢true (sym (ap (λ (z : Option HostRule). is_some z) none) ∙ on refl))

  -- no request failed
  failed_none : failed_rule core g call ≡ None → failed_rule left g call ≡ None
  failed_none = asked_still core.requests once h Moving
      (λ a b. option_map HasFailed (option_and_then (λ r. fault_of r.state) (option_and_then its a)) ≡ None → option_map HasFailed (option_and_then (λ r. fault_of r.state) (option_and_then its b)) ≡ None)
      (λ o none. none) (λ q none. by (is_for host call q) (in_state Moving q) refl) g
    where
      by : (for : Bool) (r : Request) → fault_of r.state ≡ None → option_map HasFailed (option_and_then (λ r. fault_of r.state) (where_so for r)) ≡ None
      by true r none = ap (option_map HasFailed) none
      by false r none = refl

  never_failed : (c : CoreData) → ForSome (failed_rule c g call) (λ x. in_vain x ≡ false)
  never_failed c = mapped (λ x. in_vain x ≡ false) HasFailed (option_and_then (λ r. fault_of r.state) (request_for c g call)) (λ fault. refl)

  -- ---- the last rules

  abbrev data_for : Option HostRule
  data_for = option_and_then (data_rule core host) (data_command host call)

  -- of a call that is for no cylinder
  module _ (no_data : data_command host call ≡ None) where
    data_none : data_for ≡ None
    data_none = ap (option_and_then (data_rule core host)) no_data

    never_asked : request_for core g call ≡ None
    never_asked = chain_none its (request_of core.requests g) (λ r at. where_none (is_for host call r) r
        (λ is. false≢true (sym (ap (λ (o : Option Command). is_some o) no_data) ∙ (and_parts (is_some (data_command host call)) (host.cylinder == r.cylinder) is).0)))

    failed_never : failed_rule core g call ≡ None
    failed_never = ap (λ (o : Option Request). option_map HasFailed (option_and_then (λ r. fault_of r.state) o)) never_asked

    last_without : VainBy (held_rule core g call or failed_rule core g call or data_for) → VainBy (held_rule left g call or failed_rule left g call or data_for)
    last_without is = by (would_bind core host call) is
      where
        nothing : VainBy (failed_rule core g call or data_for) → ⊥
        nothing vain = false≢true (sym (λ i. in_vain (unwrap_or (failed_never i or data_none i) Responds)) ∙ vain)

        held : (o p : Option ℕ) → (is_some o ≡ true → is_some p ≡ true) → VainBy (option_map IsHeld o or failed_rule core g call or data_for) → VainBy (option_map IsHeld p or failed_rule left g call or data_for)
        held None p on vain = absurd (nothing vain)
        held (Some f) None on vain = absurd (false≢true (on refl))
        held (Some f) (Some k) on vain = vain

        taken : (o : Option ℕ) → is_some (option_and_then (λ volume. taken_from volume core.tasks) o) ≡ true → is_some (option_and_then (λ volume. taken_from volume left.tasks) o) ≡ true
        taken None is = is
        taken (Some volume) is = taken_still volume core.tasks n (Some (record { host = h; frame = frame; victim = victim; touched = false; transfer = None })) free is

        by : (o : Option ℕ) → VainBy (option_map IsHeld (option_and_then (λ volume. taken_from volume core.tasks) o) or failed_rule core g call or data_for)
            → VainBy (option_map IsHeld (option_and_then (λ volume. taken_from volume left.tasks) o) or failed_rule left g call or data_for)
        by o vain = held (option_and_then (λ volume. taken_from volume core.tasks) o) (option_and_then (λ volume. taken_from volume left.tasks) o) (taken o) vain

  -- of one that binds no volume
  last_unbound : would_bind core host call ≡ None → VainBy (held_rule core g call or failed_rule core g call or data_for) → VainBy (held_rule left g call or failed_rule left g call or data_for)
  last_unbound unbound is =
      let none_in : (c : CoreData) → option_map IsHeld (option_and_then (λ volume. taken_from volume c.tasks) (would_bind core host call)) ≡ None = λ c. ap (λ (o : Option ℕ). option_map IsHeld (option_and_then (λ volume. taken_from volume c.tasks) o)) unbound in
      let rest = passed (failed_rule core g call) data_for (never_failed core) (behind (held_rule core g call) (failed_rule core g call or data_for) (none_in core) is) in
      pass (held_rule left g call) (failed_rule left g call or data_for) (none_in left) (pass (failed_rule left g call) data_for (failed_none rest.0) rest.1)

  last : (k : CallData) → call ≡ k → VainBy (held_rule core g call or failed_rule core g call or data_for) → VainBy (held_rule left g call or failed_rule left g call or data_for)
  last (mount volume bind) is vain = last_without (ap (data_command host) is) vain
  last demount is vain = last_without (ap (data_command host) is) vain
  last (break cause) is vain = last_without (ap (data_command host) is) vain
  last (ask code argument chained) is vain = last_unbound (ap (would_bind core host) is) vain

  -- ---- all of them

  rule_vain : Vain (host_rule core g call) → Vain (host_rule left g call)
  unfolding host_rule
  rule_vain is =
      let lasts : Option HostRule = held_rule core g call or failed_rule core g call or data_for in
      let stops = passed (stopped_rule core) (full_rule core or busy_rule core g call or moving_rule core g call or lasts) (mapped (λ x. in_vain x ≡ false) IsStopped core.stopped (λ fault. refl)) is in
      let fills = passed (full_rule core) (busy_rule core g call or moving_rule core g call or lasts) (where_test (λ x. in_vain x ≡ false) (nat_le 4096 (length core.history)) IsFull (λ _. refl)) stops.1 in
      let held : Option HostRule = held_rule left g call or failed_rule left g call or data_for in
      pass (stopped_rule core) (full_rule core or busy_rule left g call or moving_rule left g call or held) stops.0
      (pass (full_rule core) (busy_rule left g call or moving_rule left g call or held) fills.0
      (first Vain (busy_rule left g call) (moving_rule left g call or held) Responds
      (chained Vain (λ owner. where_so (is_command call && not (owner == g)) (IsBusy owner)) (option_and_then (owner_of left) (volume_under host)) (λ owner. where_test Vain (is_command call && not (owner == g)) (IsBusy owner) (λ _. refl)))
      (λ not_busy. first Vain (moving_rule left g call) held Responds
      (chained Vain moving_for (request_of left.requests g) (λ r. where_test Vain (is_moving_request r.state && not (is_for host call r)) (IsMoving r.cylinder) (λ _. refl)))
      (λ not_moving. last call refl (behind (moving_rule core g call) lasts (none_moving (moving_rule core g call) (moving_rule left g call) moving_still not_moving)
      (behind (busy_rule core g call) (moving_rule core g call or lasts) (sym busy_same ∙ not_busy) fills.1))))))

  pub pick_waits : WaitsInVain core g call → WaitsInVain left g call
  pick_waits is = (λ i. is_wait_in_vain (asked_same i) (ends_same i) (host_rule left g call)) ∙ rule_vain is
