-- What the rule that a host's call meets says of the core.
use Rattle.std.proofs.Common.{◌≡◌, ◌≢◌, ◌⊎◌, inl, inr, ℕ, ◌/◌, ◌<◌, ◌≤◌, Bool, true, false, IsTrue, List, length, Option, Some, None, Ok, refl, sym, ◌∙◌, ap, subst, arith, ◌&&◌}
use Rattle.std.specs.Prelude.{nat_le, nat_lt, is_some, IsSome, not, if◌then◌else◌, ◌==◌}
use Rattle.std.specs.Option.{option_map, option_and_then, unwrap_or}
use Rattle.std.proofs.lemmas.Bool.{leb-true, leb-false, ltb-true, ltb-false, false≢true, eq-eqb, eqb-true, eqb-false, both_ways, not-true, and_parts, cases_lt, cond_both}
use Rattle.mss_base.specs.Firsts.{where_so, ◌or◌}
use Rattle.mss_base.proofs.FirstFacts.{map_none, none_where, none_is, chain_none, chained_none}
use Rattle.mss_base.specs.declared.site.Site.{Ghosts}
use Rattle.channel_commands.specs.declared.command.Command.{Command}
use Rattle.channel_commands.specs.Codes.{is_write}
use Rattle.channel_commands.specs.Data.{CallData, mount, demount, command as ask, break, is_command}
use Rattle.ckd_plain.specs.declared.host.HostState.{HostState}
use Rattle.ckd_plain.specs.Checks.{admitted_command, Passes}
use Rattle.ckd_plain.proofs.CheckFacts.{admitted_is}
use Rattle.ckd_plain.specs.Effects.{is_data}
use Rattle.ckd_plain.specs.Plain.{with_open_chain}
use Rattle.volume_table.specs.Row.{RowValue, IsRow, frame_of, state_of}
use Rattle.volume_table.specs.Listed.{row_in_list}
use Rattle.shown_volumes.specs.Sound.{frame_in}
use Rattle.fault_queue.specs.declared.queue.Request.{Request}
use Rattle.fault_queue.specs.declared.queue.RequestState.{RequestState}
use Rattle.fault_queue.specs.declared.queue.RequestState.TheVariants.{Queued, Moving, Ready, Failed}
use Rattle.fault_queue.specs.Requests.{request_of}
use Rattle.core_state.specs.declared.rule.HostRule.{HostRule}
use Rattle.core_state.specs.declared.rule.HostRule.TheVariants.{IsStopped, IsFull, IsBusy, IsMoving, IsHeld, Responds, HasFailed, HasNoSpace, Faults, Marks, Runs}
use Rattle.core_state.specs.Agrees.{UnderHost}
use Rattle.core_state.specs.CoreValue.{CoreValue, CoreData, seen_core}
use Rattle.core_state.specs.Counted.{fault_asked}
use Rattle.core_state.specs.HostRules.{data_command, request_for, stopped_rule, full_rule, busy_rule, moving_rule, would_bind, taken_from, held_rule, failed_rule, fault_rule, mark_rule, run_rule, data_rule, host_rule, is_for, is_moving_request, fault_of, volume_of, state_under, frame_under}
use Rattle.core_state.specs.HostEvents.{HostTold, HostDoes, HostEvent}
use Rattle.core_state.specs.IsCore.{IsCore}
use Rattle.core_state.specs.Pins.{host_at, volume_under, owner_of, is_on, state_of_row, are_all_bound}
use Rattle.core_state.specs.Running.{IsStagedAt, IsNotBusy, IsNotAwaited}
use Rattle.core_state.proofs.RuleWalks.{some_is, none_some, where_test, tested, first, last, mapped_at, chained_at, chained_some, some_of}
pub use Rattle.host_events.specs.Causes.{Goes, HasNoSpaceFor}
use Rattle.core_state.proofs.MovingFacts.{moving_unstaged}
use Rattle.host_events.proofs.RuleParts.{IsData, data_is, data_stands, not_busy, quiet_else, for_it, all_bound, no_space_at, moving_has_space}

-- a rule behind the first two
abbrev pub IsLate : HostRule → Type 0
IsLate (IsStopped fault) = ⊥
IsLate IsFull = ⊥
IsLate _ = Unit {0}

module _ {S C : Type 0} (v : CoreValue S C) (h : ℕ) (call : CallData) where
  -- a search, read or write that passes the checks, and that no other host keeps off; a request of
  -- the host is for it
  pub record AsksFor : Type 0 where
    pub code : ℕ
    pub argument : List ℕ
    pub chained : Bool
    pub c : Command
    pub looks : data_command (host_at v.hosts h) call ≡ Some c
    pub is : call ≡ ask code argument chained
    pub admits : admitted_command (with_open_chain (host_at v.hosts h)) code argument ≡ Ok c
    pub passes : Passes (with_open_chain (host_at v.hosts h)) c argument
    pub data_ : is_data c ≡ true
    pub free : IsNotBusy v h
    pub mine : (q : Request) → request_of v.requests h ≡ Some q → request_for v h call ≡ Some q

  -- a command on a volume that another host owns
  pub record OnBusy (owner : ℕ) : Type 0 where
    pub goes : Goes v
    pub is : is_command call ≡ true
    pub volume : ℕ
    pub mounted : volume_under (host_at v.hosts h) ≡ Some volume
    pub owns_ : owner_of v volume ≡ Some owner
    pub other : owner ≢ h

  -- a recorder serves the host's request, and the call is for no cylinder
  pub record OnMoving (cylinder : ℕ) : Type 0 where
    pub goes : Goes v
    pub free : is_command call ≡ true → IsNotBusy v h
    pub none : data_command (host_at v.hosts h) call ≡ None
    pub q : Request
    pub asked : request_of v.requests h ≡ Some q
    pub moves : q.state ≡ Moving
    pub cylinder_ : q.cylinder ≡ cylinder

  -- a mount with bind, which would be accepted, while a task takes the frame from the volume
  pub record OnHeld (frame : ℕ) : Type 0 where
    pub goes : Goes v
    pub free : is_command call ≡ true → IsNotBusy v h
    pub quiet : IsNotAwaited v h
    pub volume : ℕ
    pub is : call ≡ mount volume true
    pub none : data_command (host_at v.hosts h) call ≡ None
    pub binds : would_bind v (host_at v.hosts h) call ≡ Some volume
    pub takes : taken_from volume v.tasks ≡ Some frame

  -- no search, read or write that passes the checks; no task takes a frame from the volume that it
  -- would bind
  pub record OnResponse : Type 0 where
    pub goes : Goes v
    pub quiet : IsNotAwaited v h
    pub none : data_command (host_at v.hosts h) call ≡ None
    pub free : is_command call ≡ true → IsNotBusy v h
    pub binds : (volume : ℕ) → would_bind v (host_at v.hosts h) call ≡ Some volume → taken_from volume v.tasks ≡ None

  -- its staging failed
  pub record OnFailed (fault : ℕ) : Type 0 where
    pub goes : Goes v
    pub asks : AsksFor
    pub quiet : IsNotAwaited v h
    pub fails : fault_asked v.requests h ≡ Some fault

  -- its page has no frame, and every frame is bound
  pub record OnNoSpace : Type 0 where
    pub goes : Goes v
    pub asks : AsksFor
    pub quiet : IsNotAwaited v h
    pub unfailed : fault_asked v.requests h ≡ None
    pub full : HasNoSpaceFor v.config.frames (row_in_list v.rows) (host_at v.hosts) h

  -- its cylinder isn't staged
  pub record OnFault (volume cylinder : ℕ) : Type 0 where
    pub goes : Goes v
    pub asks : AsksFor
    pub unfailed : fault_asked v.requests h ≡ None
    pub bind : Bool
    pub mounted : (host_at v.hosts h).mounted ≡ Some (volume, bind)
    pub cylinder_ : cylinder ≡ (host_at v.hosts h).cylinder
    pub r : RowValue
    pub there : row_in_list v.rows volume ≡ Some r
    pub unstaged : state_of r cylinder < 2
    pub space : HasNoSpaceFor v.config.frames (row_in_list v.rows) (host_at v.hosts) h → ⊥

  -- a write, whose cylinder is staged and not changed yet
  pub record OnMark (volume cylinder : ℕ) : Type 0 where
    pub goes : Goes v
    pub asks : AsksFor
    pub quiet : IsNotAwaited v h
    pub unfailed : fault_asked v.requests h ≡ None
    pub write_ : is_write asks.c ≡ true
    pub bind : Bool
    pub mounted : (host_at v.hosts h).mounted ≡ Some (volume, bind)
    pub cylinder_ : cylinder ≡ (host_at v.hosts h).cylinder
    pub r : RowValue
    pub there : row_in_list v.rows volume ≡ Some r
    pub staged : (state_of r cylinder ≡ 2) ⊎ (state_of r cylinder ≡ 3)

  -- its cylinder is staged, and changed where it is a write; a host's cylinder is one of a volume's
  pub record RunsOn (c : Command) (volume frame : ℕ) : Type 0 where
    pub goes : Goes v
    pub asks : AsksFor
    pub same : asks.c ≡ c
    pub quiet : IsNotAwaited v h
    pub unfailed : fault_asked v.requests h ≡ None
    pub bind : Bool
    pub r : RowValue
    pub staged : (host_at v.hosts h).cylinder < 404 → (host_at v.hosts h).head < 19
        → IsStagedAt v h volume frame bind r
    pub under : UnderHost (row_in_list v.rows) (host_at v.hosts h) (λ row cylinder. (2 ≤ state_of row cylinder) × (is_write c ≡ true → state_of row cylinder ≡ 4))
    pub in_frame : UnderHost (row_in_list v.rows) (host_at v.hosts h) (λ row cylinder. frame_of row (cylinder / 8) ≡ Some frame)
    pub changed : IsTrue (is_write c) → state_of r (host_at v.hosts h).cylinder ≡ 4
    pub below : frame < v.config.frames

  -- its cylinder stands in the frame
  pub record OnRun (c : Command) (volume frame : ℕ) : Type 0 where
    pub goes : Goes v
    pub asks : AsksFor
    pub same : asks.c ≡ c
    pub quiet : IsNotAwaited v h
    pub unfailed : fault_asked v.requests h ≡ None
    pub bind : Bool
    pub r : RowValue
    pub at : IsStagedAt v h volume frame bind r
    pub changed : IsTrue (is_write c) → state_of r (host_at v.hosts h).cylinder ≡ 4
    pub below : frame < v.config.frames

-- ---- the walk

-- what a rule says that is met
abbrev Meets : {S C : Type 0} → CoreValue S C → ℕ → CallData → HostRule → Type 0
Meets v h call (IsStopped fault) = v.stopped ≡ Some fault
Meets v h call IsFull = (v.stopped ≡ None) × (4096 ≤ length v.history)
Meets v h call (IsBusy owner) = OnBusy v h call owner
Meets v h call (IsMoving cylinder) = OnMoving v h call cylinder
Meets v h call (IsHeld frame) = OnHeld v h call frame
Meets v h call Responds = OnResponse v h call
Meets v h call (HasFailed fault) = OnFailed v h call fault
Meets v h call HasNoSpace = OnNoSpace v h call
Meets v h call (Faults volume cylinder) = OnFault v h call volume cylinder
Meets v h call (Marks volume cylinder) = OnMark v h call volume cylinder
Meets v h call (Runs c volume frame) = RunsOn v h call c volume frame

module _ {S C : Type 0} (v : CoreValue S C) (h : ℕ) (call : CallData) where
  goes_at : v.stopped ≡ None → full_rule v ≡ None → Goes v
  goes_at going room = record { going = going; few = leb-false 4096 (length v.history) (none_where _ IsFull room) }

  -- the rules behind the first two
  abbrev late_rules : Option HostRule
  late_rules = busy_rule v h call or moving_rule v h call or held_rule v h call or failed_rule v h call or option_and_then (data_rule v (host_at v.hosts h)) (data_command (host_at v.hosts h) call)

  -- what is said of those that the first two let through, and of the first two
  behind_limits : (P : HostRule → Type 0) → ((fault : ℕ) → v.stopped ≡ Some fault → P (IsStopped fault)) → (v.stopped ≡ None → 4096 ≤ length v.history → P IsFull)
      → (Goes v → P (unwrap_or late_rules Responds)) → P (host_rule v h call)
  unfolding host_rule
  behind_limits P stops full goes =
      first P (stopped_rule v) (full_rule v or late_rules) Responds (mapped_at P IsStopped v.stopped stops) λ none.
      let going = map_none IsStopped v.stopped none in
      first P (full_rule v) late_rules Responds (where_test P (nat_le 4096 (length v.history)) IsFull (λ past. full going (leb-true 4096 (length v.history) past))) λ room. goes (goes_at going room)

  pub rule_goes : (rule : HostRule) → host_rule v h call ≡ rule → IsLate rule → Goes v
  rule_goes rule is late = behind_limits (λ r. IsLate r → Goes v) (λ fault at no. absurd no) (λ going past no. absurd no) (λ goes any. goes) (subst IsLate (sym is) late)

-- where a host stands that calls for a cylinder
record Stands {S C : Type 0} (v : CoreValue S C) (h : ℕ) : Type 0 where
  bind : Bool
  r : RowValue
  mounted : (host_at v.hosts h).mounted ≡ Some (volume_of (host_at v.hosts h), bind)
  there : row_in_list v.rows (volume_of (host_at v.hosts h)) ≡ Some r

not_moving : (state : RequestState) (fault : ℕ) → fault_of state ≡ Some fault → state ≡ Moving → ⊥
not_moving state fault is moves = none_some fault (ap fault_of (sym moves) ∙ is)

pub moving_is : (state : RequestState) → is_moving_request state ≡ true → state ≡ Moving
moving_is Moving is = refl
moving_is Queued is = absurd (false≢true is)
moving_is Ready is = absurd (false≢true is)
moving_is (Failed fault) is = absurd (false≢true is)

binding : {S C : Type 0} (v : CoreValue S C) (state : HostState) (call : CallData) (volume : ℕ) → would_bind v state call ≡ Some volume → call ≡ mount volume true
binding v state (mount n true) volume is = ap (λ (k : ℕ). mount k true) (tested _ n volume is).1
binding v state (mount n false) volume is = absurd (none_some volume is)
binding v state demount volume is = absurd (none_some volume is)
binding v state (ask code argument chained) volume is = absurd (none_some volume is)
binding v state (break cause) volume is = absurd (none_some volume is)

two_or_three : (state : ℕ) → 2 ≤ state → state < 4 → (state ≡ 2) ⊎ (state ≡ 3)
two_or_three state from below = elim (cases_lt state 3) [
  | inl lt ↦ inl (omega (arith, lt, from))
  | inr ge ↦ inr (omega (arith, ge, below))
]

module _ {S C : Type 0} (v : CoreValue S C) (h : ℕ) (call : CallData) (goes : Goes v) (core : IsCore v) where
  abbrev host : HostState
  host = host_at v.hosts h

  -- what rules say of a call that no other host keeps off, and that no task of its host waits for
  module _ (free : busy_rule v h call ≡ None) (rests : moving_rule v h call ≡ None) where
    module _ (c : Command) (looks : data_command host call ≡ Some c) where
      is_data_ : IsData host call c
      is_data_ = data_is host call c looks

      mine : (q : Request) → request_of v.requests h ≡ Some q → request_for v h call ≡ Some q
      mine q asked =
          ap (option_and_then (λ r. where_so (is_for host call r) r)) asked
          ∙ ap (λ (b : Bool). where_so b q) (for_it v core h call c looks q asked)

      abbrev asks : AsksFor v h call
      asks = record {
        code = is_data_.code;
        argument = is_data_.argument;
        chained = is_data_.chained;
        c = c;
        looks = looks;
        is = is_data_.is;
        admits = is_data_.admits;
        passes = (admitted_is (with_open_chain host) is_data_.code is_data_.argument c is_data_.admits).passes;
        data_ = is_data_.data_;
        free = not_busy v core h call free (ap is_command is_data_.is);
        mine = mine;
      }

      stands : Stands v h
      stands = by_mounted host.mounted refl
        where
          by_row : (volume : ℕ) (bind : Bool) → volume_of host ≡ volume → host.mounted ≡ Some (volume, bind) → (o : Option RowValue) → row_in_list v.rows volume ≡ o → IsSome o → Stands v h
          by_row volume bind is at None row some = absurd (false≢true some)
          by_row volume bind is at (Some r) row some =
              record { bind = bind; r = r; mounted = at ∙ (λ i. Some (sym is i, bind)); there = ap (row_in_list v.rows) is ∙ row }

          by_mounted : (m : Option (ℕ × Bool)) → host.mounted ≡ m → Stands v h
          by_mounted None at = absurd (data_stands host call c looks at)
          by_mounted (Some m) at =
              by_row m.0 m.1 (ap (λ (o : Option (ℕ × Bool)). unwrap_or (option_map (λ n. n.0) o) 0) at) at (row_in_list v.rows m.0) refl
              (core.fit.mounted_ h m.0 (ap (is_on m.0) at ∙ eq-eqb m.0 m.0 refl))

      state_is : state_under v host ≡ state_of stands.r host.cylinder
      state_is = ap (λ (o : Option RowValue). state_of_row o host.cylinder) stands.there

      frame_is : frame_under v host ≡ frame_of stands.r (host.cylinder / 8)
      frame_is = ap (option_and_then (λ (r : RowValue). frame_of r (host.cylinder / 8))) stands.there

      -- a request stands there too
      placed : (q : Request) → request_of v.requests h ≡ Some q → (q.volume ≡ volume_of host) × (q.cylinder ≡ host.cylinder)
      placed q asked =
          let is = core.on_mounted h q asked in
          let on : is_on q.volume (Some (volume_of host, stands.bind)) ≡ true = ap (is_on q.volume) (sym stands.mounted) ∙ is.0 in
          (sym (eqb-true (volume_of host) q.volume on), sym is.1)

      -- no recorder works for a host whose cylinder is staged
      quiet_staged : 2 ≤ state_of stands.r host.cylinder → IsNotAwaited v h
      quiet_staged staged q asked moves =
          let at = placed q asked in
          let low = moving_unstaged S v core h q asked moves stands.r (ap (row_in_list v.rows) at.0 ∙ stands.there) in
          let same = ap (state_of stands.r) at.1 in
          absurd (omega (arith, low, same, staged))

      module _ (well : failed_rule v h call ≡ None) where
        unfailed : fault_asked v.requests h ≡ None
        unfailed =
            chain_none (λ r. fault_of r.state) (request_of v.requests h) λ q asked.
            ap (option_and_then (λ (r : Request). fault_of r.state)) (sym (mine q asked)) ∙ map_none HasFailed (option_and_then (λ r. fault_of r.state) (request_for v h call)) well

        -- where the cylinder isn't staged
        on_fault : state_under v host < 2 → (not (is_some (frame_under v host)) && are_all_bound v) ≡ false → OnFault v h call (volume_of host) host.cylinder
        on_fault low some = record {
          goes = goes;
          asks = asks;
          unfailed = unfailed;
          bind = stands.bind;
          mounted = stands.mounted;
          cylinder_ = refl;
          r = stands.r;
          there = stands.there;
          unstaged = (let e = state_is in omega (arith, e, low));
          space = λ full. both_ways _ some (no_space_at v core h full);
        }

        on_no_space : (not (is_some (frame_under v host)) && are_all_bound v) ≡ true → OnNoSpace v h call
        on_no_space full =
            let parts = and_parts (not (is_some (frame_under v host))) (are_all_bound v) full in
            let none : frame_of stands.r (host.cylinder / 8) ≡ None = sym frame_is ∙ none_is _ (not-true _ parts.0) in
            let all_ = all_bound v core parts.1 in
            record {
              goes = goes;
              asks = asks;
              quiet = λ q asked moves.
                  let at = placed q asked in
                  moving_has_space v core h q asked moves all_
                  ((λ i. frame_in (row_in_list v.rows) (at.0 i) (at.1 i / 8)) ∙ ap (option_and_then (λ (r : RowValue). frame_of r (host.cylinder / 8))) stands.there ∙ none);
              unfailed = unfailed;
              full = ((volume_of host, stands.bind, stands.r, stands.mounted, stands.there, none), all_);
            }

        -- where it is
        module _ (staged : 2 ≤ state_of stands.r host.cylinder) where
          row : IsRow stands.r
          row = core.are_rows (volume_of host) stands.r stands.there

          on_mark : is_write c ≡ true → state_under v host < 4 → OnMark v h call (volume_of host) host.cylinder
          on_mark writes low = record {
            goes = goes;
            asks = asks;
            quiet = quiet_staged staged;
            unfailed = unfailed;
            write_ = writes;
            bind = stands.bind;
            mounted = stands.mounted;
            cylinder_ = refl;
            r = stands.r;
            there = stands.there;
            staged = (let e = state_is in two_or_three (state_of stands.r host.cylinder) staged (omega (arith, e, low)));
          }

          on_run : (frame : ℕ) → frame_under v host ≡ Some frame → (is_write c ≡ true → 4 ≤ state_under v host) → RunsOn v h call c (volume_of host) frame
          on_run frame has changed =
              let most = row.numbers host.cylinder in
              let four : is_write c ≡ true → state_of stands.r host.cylinder ≡ 4 = λ writes. (let e = state_is in let past = changed writes in omega (arith, e, past, most)) in
              record {
                goes = goes;
                asks = asks;
                same = refl;
                quiet = quiet_staged staged;
                unfailed = unfailed;
                bind = stands.bind;
                r = stands.r;
                staged = λ low low_head. record { mounted = stands.mounted; row = stands.there; frame_ = sym frame_is ∙ has; staged = staged; at_most = most; low = low; low_head = low_head };
                under = (volume_of host, stands.bind, stands.r, stands.mounted, stands.there, (staged, four));
                in_frame = (volume_of host, stands.bind, stands.r, stands.mounted, stands.there, sym frame_is ∙ has);
                changed = four;
                below = core.framed (volume_of host) (host.cylinder / 8) frame has;
              }

          -- it has a frame
          framed : frame_under v host ≡ None → ⊥
          framed none = false≢true (ap is_some (sym none ∙ frame_is) ∙ row.staged host.cylinder staged)

        data_met : Meets v h call (unwrap_or (data_rule v host c) Responds)
        data_met =
            first (Meets v h call) (fault_rule v host c) (mark_rule v host c or run_rule v host c) Responds
            (where_test (Meets v h call) (nat_lt (state_under v host) 2) (if not (is_some (frame_under v host)) && are_all_bound v then HasNoSpace else Faults (volume_of host) host.cylinder) λ low.
            cond_both (not (is_some (frame_under v host)) && are_all_bound v) HasNoSpace (Faults (volume_of host) host.cylinder) (Meets v h call) on_no_space (on_fault (ltb-true _ 2 low)))
            λ none.
            let past = ltb-false (state_under v host) 2 (none_where _ _ none) in
            let staged : 2 ≤ state_of stands.r host.cylinder = subst (λ (n : ℕ). 2 ≤ n) state_is past in
            first (Meets v h call) (mark_rule v host c) (run_rule v host c) Responds
            (where_test (Meets v h call) (is_write c && nat_lt (state_under v host) 4) (Marks (volume_of host) host.cylinder) λ marks.
            let parts = and_parts (is_write c) (nat_lt (state_under v host) 4) marks in
            on_mark staged parts.0 (ltb-true _ 4 parts.1))
            λ unmarked.
            last (Meets v h call) (run_rule v host c) Responds
            (mapped_at (Meets v h call) (Runs c (volume_of host)) (frame_under v host) λ frame has.
            on_run staged frame has λ writes.
            ltb-false (state_under v host) 4 (ap (λ (b : Bool). b && nat_lt (state_under v host) 4) (sym writes) ∙ none_where _ _ unmarked))
            λ unframed. absurd (framed staged (map_none (Runs c (volume_of host)) (frame_under v host) unframed))

    -- behind a failed staging come only calls for a cylinder
    on_failed : (fault : ℕ) → option_and_then (λ (r : Request). fault_of r.state) (request_for v h call) ≡ Some fault → OnFailed v h call fault
    on_failed fault is =
        let its = chained_some (λ (r : Request). fault_of r.state) (request_for v h call) fault is in
        let asked = chained_some (λ (r : Request). where_so (is_for host call r) r) (request_of v.requests h) its.0 its.1 in
        let mine = tested (is_for host call asked.0) asked.0 its.0 asked.2 in
        let command = some_of (data_command host call) (and_parts (is_some (data_command host call)) _ mine.0).0 in
        let failed : fault_of asked.0.state ≡ Some fault = ap (λ (r : Request). fault_of r.state) mine.1 ∙ its.2 in
        record {
          goes = goes;
          asks = asks command.0 command.1;
          quiet = λ q at moves. not_moving asked.0.state fault failed (ap (λ (r : Request). r.state) (some_is asked.0 q (sym asked.1 ∙ at)) ∙ moves);
          fails = ap (option_and_then (λ (r : Request). fault_of r.state)) asked.1 ∙ failed;
        }

    -- the rules behind those for a call that waits
    behind_waits : ((volume : ℕ) → would_bind v host call ≡ Some volume → taken_from volume v.tasks ≡ None)
        → Meets v h call (unwrap_or (failed_rule v h call or option_and_then (data_rule v host) (data_command host call)) Responds)
    behind_waits binds =
        first (Meets v h call) (failed_rule v h call) (option_and_then (data_rule v host) (data_command host call)) Responds
        (mapped_at (Meets v h call) HasFailed (option_and_then (λ (r : Request). fault_of r.state) (request_for v h call)) on_failed)
        λ well. by well (data_command host call) refl
      where
        by : failed_rule v h call ≡ None → (o : Option Command) → data_command host call ≡ o → Meets v h call (unwrap_or (option_and_then (data_rule v host) o) Responds)
        by well (Some c) looks = data_met c looks well
        by well None none = record {
          goes = goes;
          quiet = quiet_else v core h call rests none;
          none = none;
          free = not_busy v core h call free;
          binds = binds;
        }

    on_held : (frame : ℕ) → option_and_then (λ volume. taken_from volume v.tasks) (would_bind v host call) ≡ Some frame → OnHeld v h call frame
    on_held frame is =
        let its = chained_some (λ volume. taken_from volume v.tasks) (would_bind v host call) frame is in
        let mounts = binding v host call its.0 its.1 in
        let none : data_command host call ≡ None = ap (data_command host) mounts in
        record { goes = goes; free = not_busy v core h call free; quiet = quiet_else v core h call rests none; volume = its.0; is = mounts; none = none; binds = its.1; takes = its.2 }

  on_busy : (owner : ℕ) → option_and_then (owner_of v) (volume_under host) ≡ Some owner → (is_command call && not (owner == h)) ≡ true → OnBusy v h call owner
  on_busy owner is busy =
      let its = chained_some (owner_of v) (volume_under host) owner is in
      let parts = and_parts (is_command call) (not (owner == h)) busy in
      record { goes = goes; is = parts.0; volume = its.0; mounted = its.1; owns_ = its.2; other = eqb-false owner h (not-true (owner == h) parts.1) }

  on_moving : busy_rule v h call ≡ None → (q : Request) → request_of v.requests h ≡ Some q → (is_moving_request q.state && not (is_for host call q)) ≡ true → OnMoving v h call q.cylinder
  on_moving free q asked waits =
      let parts = and_parts (is_moving_request q.state) (not (is_for host call q)) waits in
      record {
        goes = goes;
        free = not_busy v core h call free;
        none = by (data_command host call) refl (not-true (is_for host call q) parts.1);
        q = q;
        asked = asked;
        moves = moving_is q.state parts.0;
        cylinder_ = refl;
      }
    where
      by : (o : Option Command) → data_command host call ≡ o → is_for host call q ≡ false → data_command host call ≡ None
      by None at other = at
      by (Some c) at other = absurd (both_ways (is_for host call q) other (for_it v core h call c at q asked))

  late_met : Meets v h call (unwrap_or (late_rules v h call) Responds)
  late_met =
      first (Meets v h call) (busy_rule v h call) _ Responds
      (chained_at (Meets v h call) (λ owner. where_so (is_command call && not (owner == h)) (IsBusy owner)) (option_and_then (owner_of v) (volume_under host)) λ owner is.
      where_test (Meets v h call) (is_command call && not (owner == h)) (IsBusy owner) (on_busy owner is))
      λ free.
      first (Meets v h call) (moving_rule v h call) _ Responds
      (chained_at (Meets v h call) (λ q. where_so (is_moving_request q.state && not (is_for host call q)) (IsMoving q.cylinder)) (request_of v.requests h) λ q asked.
      where_test (Meets v h call) (is_moving_request q.state && not (is_for host call q)) (IsMoving q.cylinder) (on_moving free q asked))
      λ rests.
      first (Meets v h call) (held_rule v h call) _ Responds
      (mapped_at (Meets v h call) IsHeld (option_and_then (λ volume. taken_from volume v.tasks) (would_bind v host call)) (on_held free rests))
      λ none. behind_waits free rests (chained_none (λ volume. taken_from volume v.tasks) (would_bind v host call) (map_none IsHeld _ none))

-- ---- each rule

module _ {S C : Type 0} (v : CoreValue S C) (h : ℕ) (call : CallData) (kept : v.stopped ≡ None → IsCore v) where
  met : (rule : HostRule) → host_rule v h call ≡ rule → Meets v h call rule
  met rule is = subst (Meets v h call) is (behind_limits v h call (Meets v h call) (λ fault at. at) (λ going past. (going, past)) (λ goes. late_met v h call goes (kept goes.going)))

  pub rule_stopped : (fault : ℕ) → host_rule v h call ≡ IsStopped fault → v.stopped ≡ Some fault
  rule_stopped fault is = met (IsStopped fault) is

  pub rule_full : host_rule v h call ≡ IsFull → (v.stopped ≡ None) × (4096 ≤ length v.history)
  rule_full is = met IsFull is

  pub rule_busy : (owner : ℕ) → host_rule v h call ≡ IsBusy owner → OnBusy v h call owner
  rule_busy owner is = met (IsBusy owner) is

  pub rule_moving : (cylinder : ℕ) → host_rule v h call ≡ IsMoving cylinder → OnMoving v h call cylinder
  rule_moving cylinder is = met (IsMoving cylinder) is

  pub rule_held : (frame : ℕ) → host_rule v h call ≡ IsHeld frame → OnHeld v h call frame
  rule_held frame is = met (IsHeld frame) is

  pub rule_responds : host_rule v h call ≡ Responds → OnResponse v h call
  rule_responds is = met Responds is

  pub rule_failed : (fault : ℕ) → host_rule v h call ≡ HasFailed fault → OnFailed v h call fault
  rule_failed fault is = met (HasFailed fault) is

  pub rule_no_space : host_rule v h call ≡ HasNoSpace → OnNoSpace v h call
  rule_no_space is = met HasNoSpace is

  pub rule_faults : (volume cylinder : ℕ) → host_rule v h call ≡ Faults volume cylinder → OnFault v h call volume cylinder
  rule_faults volume cylinder is = met (Faults volume cylinder) is

  pub rule_marks : (volume cylinder : ℕ) → host_rule v h call ≡ Marks volume cylinder → OnMark v h call volume cylinder
  rule_marks volume cylinder is = met (Marks volume cylinder) is

  pub rule_runs : (c : Command) (volume frame : ℕ) → host_rule v h call ≡ Runs c volume frame → (host_at v.hosts h).cylinder < 404 → (host_at v.hosts h).head < 19 → OnRun v h call c volume frame
  rule_runs c volume frame is low low_head =
      let on = met (Runs c volume frame) is in
      record { goes = on.goes; asks = on.asks; same = on.same; quiet = on.quiet; unfailed = on.unfailed; bind = on.bind; r = on.r; at = on.staged low low_head; changed = on.changed; below = on.below }

  pub rule_runs_on : (c : Command) (volume frame : ℕ) → host_rule v h call ≡ Runs c volume frame → RunsOn v h call c volume frame
  rule_runs_on c volume frame is = met (Runs c volume frame) is

-- the rule doesn't look at the devices
pub rule_seen : {S C : Type 0} (g : Ghosts S) (v : CoreValue S C) (h : ℕ) (call : CallData) → host_rule (seen_core g v) h call ≡ host_rule v h call
unfolding host_rule
rule_seen g v h call = refl

-- nor does what a core keeps while it isn't stopped
pub core_seen : {S C : Type 0} (g : Ghosts S) (v : CoreValue S C) → IsCore v → IsCore (seen_core g v)
core_seen g v core = record {
  places = core.places;
  are_rows = core.are_rows;
  used_ = core.used_;
  hosts_ = core.hosts_;
  requests_ = core.requests_;
  owners_ = core.owners_;
  moving_ = core.moving_;
  few = core.few;
  marked = core.marked;
  alone = core.alone;
  on_mounted = core.on_mounted;
  framed = core.framed;
  owned = core.owned;
  waiting = core.waiting;
  fit = core.fit;
  beside = core.beside;
  tasks_ = core.tasks_;
}

-- what the rule that was found does is the event
pub event_by : {S C : Type 0} (g : Ghosts S) (v : CoreValue S C) (h : ℕ) (call : CallData) (answer : HostTold) (core' : CoreData) (rule : HostRule)
    → host_rule v h call ≡ rule → HostDoes g.tells (seen_core g v) h call rule answer core' → HostEvent g.tells (seen_core g v) h call answer core'
event_by g v h call answer core' rule is does =
    subst (λ (r : HostRule). HostDoes g.tells (seen_core g v) h call r answer core') (sym is ∙ sym (rule_seen g v h call)) does
