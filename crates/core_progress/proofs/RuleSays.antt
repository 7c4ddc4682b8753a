-- What the rule that a host's call meets says of the core.
use Rattle.std.proofs.Common.{◌≡◌, ◌≢◌, ℕ, ◌<◌, ◌≤◌, ◌==◌, nat_lt, nat_le, Bool, true, false, not, ◌&&◌, length, Option, Some, None, is_some, option_map, option_and_then, unwrap_or, refl, sym, ◌∙◌, ap}
use Rattle.std.specs.Prelude.{if◌then◌else◌}
use Rattle.std.specs.Option.{ForSome}
use Rattle.std.proofs.lemmas.Bool.{and_parts, not-true, leb-false, ltb-true, ltb-false, eqb-false, eq-eqb, false≢true}
use Rattle.channel_commands.specs.declared.command.Command.{Command}
use Rattle.channel_commands.specs.Codes.{is_write}
use Rattle.channel_commands.specs.Data.{CallData, mount, demount, command as ask, break, is_command}
use Rattle.ckd_plain.specs.declared.host.HostState.{HostState}
use Rattle.mss_base.specs.Firsts.{◌or◌, where_so}
use Rattle.mss_base.proofs.FirstFacts.{none_where, none_is}
use Rattle.volume_table.specs.Listed.{row_in_list}
use Rattle.fault_queue.specs.declared.queue.Request.{Request}
use Rattle.fault_queue.specs.Requests.{request_of}
use Rattle.core_state.specs.declared.rule.HostRule.{HostRule}
use Rattle.core_state.specs.declared.rule.HostRule.TheVariants.{IsStopped, IsFull, IsBusy, IsMoving, IsHeld, Responds, HasFailed, HasNoSpace, Faults, Marks, Runs}
use Rattle.core_state.specs.CoreValue.{CoreData}
use Rattle.core_state.specs.IsCore.{IsPlaced}
use Rattle.core_state.specs.Pins.{host_at, volume_under, owns, owner_of, are_all_bound, is_on, state_in}
use Rattle.core_state.specs.HostRules.{data_command, is_for, request_for, is_moving_request, fault_of, volume_of, state_under, frame_under, stopped_rule, full_rule, busy_rule, moving_rule, taken_from, would_bind, held_rule, failed_rule, fault_rule, mark_rule, data_rule, host_rule}
use Rattle.core_state.specs.Steps.{ends_request}
use Rattle.core_state.proofs.RuleWalks.{none_some, either, where_test, mapped, found, tested, either_then, mapped_at, chained_at}
use Rattle.core_progress.proofs.Progress.{found_below, owner_owns}

-- ---- what is said

-- another host owns the volume of this one
pub record IsBusyAt (core : CoreData) (h : ℕ) : Type 0 where
  pub volume : ℕ
  pub owner : ℕ
  pub on : volume_under (host_at core.hosts h) ≡ Some volume
  pub owns_ : owns core.hosts core.requests owner volume ≡ true
  pub other : owner ≢ h
  pub low : owner < 9

-- a search, read or write, of the cylinder where the host stands
pub record IsAsked (core : CoreData) (h : ℕ) (call : CallData) (volume cylinder : ℕ) : Type 0 where
  pub data_ : is_some (data_command (host_at core.hosts h) call) ≡ true
  pub volume_ : volume ≡ volume_of (host_at core.hosts h)
  pub cylinder_ : cylinder ≡ (host_at core.hosts h).cylinder

-- its cylinder is staged, and not changed yet
pub record IsMarkable (core : CoreData) (h : ℕ) (call : CallData) (volume cylinder : ℕ) : Type 0 where
  pub asked : IsAsked core h call volume cylinder
  pub staged : 2 ≤ state_in core.rows volume cylinder
  pub unchanged : state_in core.rows volume cylinder < 4

abbrev pub Says : CoreData → ℕ → CallData → HostRule → Type 0
Says core h call (IsBusy owner) = (is_command call ≡ true) × IsBusyAt core h
Says core h call (IsMoving cylinder) = (r : Request) × (request_of core.requests h ≡ Some r)
Says core h call (IsHeld frame) = (volume : ℕ) × (would_bind core (host_at core.hosts h) call ≡ Some volume) × (taken_from volume core.tasks ≡ Some frame)
Says core h call (Faults volume cylinder) = IsAsked core h call volume cylinder
Says core h call (Marks volume cylinder) = IsMarkable core h call volume cylinder
Says core h call _ = Unit {0}

-- a rule behind the first two
abbrev pub is_late : HostRule → Bool
is_late (IsStopped fault) = false
is_late IsFull = false
is_late _ = true

late_room : (s : Option ℕ) (full : Bool) (rest : Option HostRule) → is_late (unwrap_or (option_map IsStopped s or where_so full IsFull or rest) Responds) ≡ true → full ≡ false
late_room (Some fault) full rest late = absurd (false≢true late)
late_room None true rest late = absurd (false≢true late)
late_room None false rest late = refl

module _ (core : CoreData) (h : ℕ) (call : CallData) where
  abbrev host : HostState
  host = host_at core.hosts h

  -- there is room for an entry
  pub has_room : is_late (host_rule core h call) ≡ true → length core.history < 4096
  unfolding host_rule
  has_room late = leb-false 4096 (length core.history) (late_room core.stopped (nat_le 4096 (length core.history))
      (busy_rule core h call or moving_rule core h call or held_rule core h call or failed_rule core h call or option_and_then (data_rule core host) (data_command host call)) late)

  busy_at : (owner : ℕ) → option_and_then (owner_of core) (volume_under host) ≡ Some owner → (is_command call && not (owner == h)) ≡ true → (is_command call ≡ true) × IsBusyAt core h
  busy_at owner is other =
      let its = owner_owns core host owner is in
      let parts = and_parts (is_command call) (not (owner == h)) other in (
        parts.0,
        record { volume = its.0; owner = owner; on = its.1; owns_ = its.2; other = eqb-false owner h (not-true (owner == h) parts.1); low = below (volume_under host) is },
      ) where
        below : (v : Option ℕ) → option_and_then (owner_of core) v ≡ Some owner → owner < 9
        below None e = absurd (none_some owner e)
        below (Some volume) e = (found_below (λ k. owns core.hosts core.requests k volume) 9 owner e).0

  held_at : (frame : ℕ) (o : Option ℕ) → would_bind core host call ≡ o → option_and_then (λ volume. taken_from volume core.tasks) o ≡ Some frame
      → (volume : ℕ) × (would_bind core host call ≡ Some volume) × (taken_from volume core.tasks ≡ Some frame)
  held_at frame None binds is = absurd (none_some frame is)
  held_at frame (Some volume) binds is = (volume, binds, is)

  abbrev Said : HostRule → Type 0
  Said = Says core h call

  data_says : (c : Command) → data_command host call ≡ Some c → ForSome (data_rule core host c) Said
  data_says c is =
      let asked : IsAsked core h call (volume_of host) host.cylinder = record { data_ = ap is_some is; volume_ = refl; cylinder_ = refl } in
      either_then Said (fault_rule core host c) _ (where_test Said (nat_lt (state_under core host) 2) _ λ _. either_way asked (not (is_some (frame_under core host)) && are_all_bound core)) λ staged.
      either_then Said (mark_rule core host c) _ (where_test Said (is_write c && nat_lt (state_under core host) 4) (Marks (volume_of host) host.cylinder) λ may_mark. record {
        asked = asked;
        staged = ltb-false (state_under core host) 2 (none_where (nat_lt (state_under core host) 2) _ staged);
        unchanged = ltb-true (state_under core host) 4 (and_parts (is_write c) (nat_lt (state_under core host) 4) may_mark).1;
      }) λ _.
      mapped Said (Runs c (volume_of host)) (frame_under core host) λ frame. tt where
        either_way : IsAsked core h call (volume_of host) host.cylinder → (b : Bool) → Said (if b then HasNoSpace else Faults (volume_of host) host.cylinder)
        either_way asked true = tt
        either_way asked false = asked

  pub rule_says : Says core h call (host_rule core h call)
  unfolding host_rule
  rule_says =
      found Said (stopped_rule core or full_rule core or busy_rule core h call or moving_rule core h call or held_rule core h call or failed_rule core h call or option_and_then (data_rule core host) (data_command host call)) Responds
      (either Said (stopped_rule core) _ (mapped Said IsStopped core.stopped λ fault. tt)
      (either Said (full_rule core) _ (where_test Said (nat_le 4096 (length core.history)) IsFull λ _. tt)
      (either Said (busy_rule core h call) _ (chained_at Said (λ owner. where_so (is_command call && not (owner == h)) (IsBusy owner)) (option_and_then (owner_of core) (volume_under host)) λ owner is.
      where_test Said (is_command call && not (owner == h)) (IsBusy owner) (busy_at owner is))
      (either Said (moving_rule core h call) _ (chained_at Said (λ r. where_so (is_moving_request r.state && not (is_for host call r)) (IsMoving r.cylinder)) (request_of core.requests h) λ r is.
      where_test Said (is_moving_request r.state && not (is_for host call r)) (IsMoving r.cylinder) λ _. (r, is))
      (either Said (held_rule core h call) _ (mapped_at Said IsHeld (option_and_then (λ volume. taken_from volume core.tasks) (would_bind core host call)) λ frame is. held_at frame (would_bind core host call) refl is)
      (either Said (failed_rule core h call) _ (mapped Said HasFailed (option_and_then (λ r. fault_of r.state) (request_for core h call)) λ fault. tt)
      (chained_at Said (data_rule core host) (data_command host call) data_says)))))))
      tt

-- ---- a host's request, which is where the host stands

abbrev pub ArePlaced : CoreData → Type 0
ArePlaced core = (h : ℕ) (r : Request) → request_of core.requests h ≡ Some r → IsPlaced (host_at core.hosts h) r

abbrev pub AreOnCylinders : CoreData → Type 0
AreOnCylinders core = (h : ℕ) (r : Request) → request_of core.requests h ≡ Some r → (host_at core.hosts h).cylinder ≡ r.cylinder

module _ (core : CoreData) (h : ℕ) (call : CallData) where
  -- a search, read or write is for it
  for_it : AreOnCylinders core → is_some (data_command (host_at core.hosts h) call) ≡ true → (o : Option Request) → request_of core.requests h ≡ o
      → is_some (option_and_then (λ r. where_so (is_for (host_at core.hosts h) call r) r) o) ≡ is_some o
  for_it placed data_ None is = refl
  for_it placed data_ (Some r) is = ap is_some (λ i. where_so (data_ i && eq-eqb (host_at core.hosts h).cylinder r.cylinder (placed h r is) i) r)

  pub same_request : AreOnCylinders core → is_some (data_command (host_at core.hosts h) call) ≡ true → is_some (request_for core h call) ≡ is_some (request_of core.requests h)
  same_request placed data_ = for_it placed data_ (request_of core.requests h) refl

  -- so it doesn't end
  pub none_ends : AreOnCylinders core → is_some (data_command (host_at core.hosts h) call) ≡ true → ends_request core h call ≡ false
  none_ends placed data_ = ap (λ (b : Bool). is_some (request_of core.requests h) && not b) (same_request placed data_) ∙ contrary (is_some (request_of core.requests h)) where
    contrary : (b : Bool) → (b && not b) ≡ false
    contrary true = refl
    contrary false = refl

  pub none_asked : AreOnCylinders core → is_some (data_command (host_at core.hosts h) call) ≡ true → is_some (request_for core h call) ≡ false → request_of core.requests h ≡ None
  none_asked placed data_ fresh = none_is (request_of core.requests h) (sym (same_request placed data_) ∙ fresh)

  -- nor does that of a host that could bind a volume, since it has none
  unmounted : (state : HostState) (k : CallData) (volume : ℕ) → would_bind core state k ≡ Some volume → state.mounted ≡ None
  unmounted state (mount n true) volume is =
      let t = (tested _ n volume is).0 in
      let first = and_parts (not state.chain_open && not (is_some state.mounted)) (is_some (row_in_list core.rows n)) t in
      let second = and_parts (not state.chain_open) (not (is_some state.mounted)) first.0 in
      none_is state.mounted (not-true (is_some state.mounted) second.1)
  unmounted state (mount n false) volume is = absurd (none_some volume is)
  unmounted state demount volume is = absurd (none_some volume is)
  unmounted state (ask code argument chained) volume is = absurd (none_some volume is)
  unmounted state (break cause) volume is = absurd (none_some volume is)

  pub binder_ends_none : ArePlaced core → (volume : ℕ) → would_bind core (host_at core.hosts h) call ≡ Some volume → ends_request core h call ≡ false
  binder_ends_none placed volume is = by_request (request_of core.requests h) refl where
    by_request : (o : Option Request) → request_of core.requests h ≡ o → (is_some o && not (is_some (request_for core h call))) ≡ false
    by_request None none = refl
    by_request (Some r) has = absurd (false≢true (sym (ap (is_on r.volume) (unmounted (host_at core.hosts h) call volume is)) ∙ (placed h r has).0))
