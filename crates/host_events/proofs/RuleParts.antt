-- What follows for a host's call where a rule is met, or isn't.
use Rattle.std.proofs.Common.{◌≡◌, ◌⊎◌, inl, inr, ℕ, zero, suc, ◌/◌, ◌<◌, Bool, true, false, ◌&&◌, ◌||◌, ◌==◌, List, [], ◌∷◌, Option, Some, None, Result, Ok, Err, refl, sym, ◌∙◌, ap, subst, arith}
use Rattle.std.specs.Prelude.{not, is_some, slice_index_or}
use Rattle.std.specs.Option.{option_map, option_and_then, unwrap_or}
use Rattle.std.proofs.lemmas.Bool.{and_parts, and_from, or_left, or_right, cases_lt, cases_Bool, eqb-true, eq-eqb, false≢true, not-true, not-false, or_cases, or_from}
use Rattle.std.proofs.lemmas.List.{get_or_past}
use Rattle.mss_base.specs.Firsts.{where_so, ◌or◌, first_below}
use Rattle.mss_base.proofs.FirstFacts.{all_none, none_below, none_where, none_is, chained_none}
use Rattle.channel_commands.specs.declared.command.Command.{Command}
use Rattle.channel_commands.specs.declared.command.Command.TheVariants as command
use Rattle.channel_commands.specs.Codes.{command_of}
use Rattle.channel_commands.specs.Data.{CallData, mount, demount, command as ask, break, is_command}
use Rattle.ckd_plain.specs.declared.host.HostState.{HostState}
use Rattle.ckd_plain.specs.declared.unit_check.UnitCheck.{UnitCheck}
use Rattle.ckd_plain.specs.Checks.{admitted_command}
use Rattle.ckd_plain.specs.Effects.{is_data}
use Rattle.ckd_plain.specs.Plain.{fresh_host, with_open_chain}
use Rattle.ckd_plain.proofs.CheckFacts.{admitted_is}
use Rattle.ckd_plain.proofs.CommandFacts.{opened_mounted}
use Rattle.volume_table.specs.Row.{RowValue, frame_of, state_of}
use Rattle.volume_table.specs.Listed.{row_in_list}
use Rattle.shown_volumes.specs.Sound.{frame_in}
use Rattle.fault_queue.specs.declared.queue.Request.{Request}
use Rattle.fault_queue.specs.declared.queue.RequestState.{RequestState}
use Rattle.fault_queue.specs.declared.queue.RequestState.TheVariants as request
use Rattle.fault_queue.specs.Requests.{request_of}
use Rattle.core_state.specs.declared.rule.HostRule.TheVariants.{IsBusy, IsMoving}
use Rattle.core_state.specs.CoreValue.{CoreValue}
use Rattle.core_state.specs.HostRules.{if_data, data_command, is_for, is_moving_request, busy_rule, moving_rule, volume_of, state_under, frame_under}
use Rattle.core_state.specs.IsCore.{IsCore}
use Rattle.core_state.specs.Pins.{page_of, state_in, state_of_row, are_all_bound, host_at, owner_at, binds, is_volume_bound, is_frame_bound, are_frames_bound, on_page, is_on, owns, owner_of}
use Rattle.core_state.specs.Running.{IsNotBusy, IsNotAwaited}
use Rattle.core_state.specs.Tasks.{HasFrame, IsUnbound}
use Rattle.core_state.proofs.CoreFacts.{one_page}
use Rattle.core_state.proofs.RuleWalks.{some_is, none_some, tested}
use Rattle.host_events.specs.Causes.{HasNoSpaceFor}

-- ---- a search, read or write

if_none : (r : Result Command UnitCheck) → ((c : Command) → r ≡ Ok c → is_data c ≡ false) → if_data r ≡ None
if_none (Ok c) none = ap (λ b. where_so b c) (none c refl)
if_none (Err check) none = refl

-- the command of its code is none of them
pub named_none : (host : HostState) (code : ℕ) (argument : List ℕ) → ((c : Command) → command_of code ≡ Some c → is_data c ≡ false)
    → None ≡ if_data (admitted_command host code argument)
named_none host code argument none = sym (if_none (admitted_command host code argument) (λ c is. none c (admitted_is host code argument c is).known_))

-- the call is a command that passes the checks, and looks at a track
pub record IsData (host : HostState) (call : CallData) (c : Command) : Type 0 where
  pub code : ℕ
  pub argument : List ℕ
  pub chained : Bool
  pub is : call ≡ ask code argument chained
  pub admits : admitted_command (with_open_chain host) code argument ≡ Ok c
  pub data_ : is_data c ≡ true

pub data_is : (host : HostState) (call : CallData) (c : Command) → data_command host call ≡ Some c → IsData host call c
data_is host (mount volume bind) c is = absurd (none_some c is)
data_is host demount c is = absurd (none_some c is)
data_is host (break cause) c is = absurd (none_some c is)
data_is host (ask code argument chained) c is = by (admitted_command (with_open_chain host) code argument) refl is
  where
    by : (r : Result Command UnitCheck) → admitted_command (with_open_chain host) code argument ≡ r → if_data r ≡ Some c → IsData host (ask code argument chained) c
    by (Err check) at e = absurd (none_some c e)
    by (Ok d) at e =
        let t = tested (is_data d) d c e in
        record { code = code; argument = argument; chained = chained; is = refl; admits = at ∙ ap Ok t.1; data_ = ap is_data (sym t.1) ∙ t.0 }

-- it needs a volume
data_mounted : (host : HostState) (code : ℕ) (argument : List ℕ) (c : Command) → admitted_command (with_open_chain host) code argument ≡ Ok c → is_data c ≡ true → is_some host.mounted ≡ true
unfolding admitted_command
data_mounted host code argument c is looks = by (is_some host.mounted) refl
  where
    by : (b : Bool) → is_some host.mounted ≡ b → is_some host.mounted ≡ true
    by true at = at
    by false at = elim (cases_Bool (code == 0x04)) [
      | inl four ↦
          let sense : ◌≡◌ {A = Option Command} (Some command.Sense) (Some c) = ap command_of (sym (eqb-true code 0x04 four)) ∙ (admitted_is (with_open_chain host) code argument c is).known_ in
          absurd (false≢true (ap is_data (some_is command.Sense c sense) ∙ looks))
      | inr other ↦
          let there : is_some (with_open_chain host).mounted ≡ false = ap is_some (opened_mounted host) ∙ at in
          let none : (is_some (with_open_chain host).mounted || (code == 0x04)) ≡ false = or_from _ _ there other in
          let e = rw none at is in
          absurd cc
    ]

pub data_stands : (host : HostState) (call : CallData) (c : Command) → data_command host call ≡ Some c → host.mounted ≡ None → ⊥
data_stands host call c looks none =
    let is = data_is host call c looks in
    false≢true (ap is_some (sym none) ∙ data_mounted host is.code is.argument c is.admits is.data_)

-- ---- the owner

-- the number that is found passes
pub passes_found : (test : ℕ → Bool) (n x : ℕ) → first_below n (λ k. where_so (test k) k) ≡ Some x → test x ≡ true
unfolding first_below
passes_found test zero x is = absurd (none_some x is)
passes_found test (suc n) x is = by (λ e. passes_found test n x e) (first_below n (λ k. where_so (test k) k)) refl is
  where
    by : (first_below n (λ k. where_so (test k) k) ≡ Some x → test x ≡ true) → (o : Option ℕ) → first_below n (λ k. where_so (test k) k) ≡ o → (o or where_so (test n) n) ≡ Some x → test x ≡ true
    by more None at e = let t = tested (test n) n x e in ap test (sym t.1) ∙ t.0
    by more (Some y) at e = more (at ∙ e)

module _ {S C : Type 0} (v : CoreValue S C) (core : IsCore v) (h : ℕ) (call : CallData) where
  -- a host that owns a volume is one of eight
  pub owner_low : (other volume : ℕ) → owns v.hosts v.requests other volume ≡ true → other < 9
  owner_low other volume theirs = elim (cases_lt other 9) [
    | inl lt ↦ lt
    | inr past ↦
        let long = core.hosts_ in
        let fresh : host_at v.hosts other ≡ fresh_host = get_or_past (fresh_host ∷ v.hosts) other fresh_host (omega (arith, long, past)) in
        let parts = and_parts (is_on volume (host_at v.hosts other).mounted) _ theirs in
        absurd (false≢true (ap (λ (x : HostState). is_on volume x.mounted) (sym fresh) ∙ parts.0))
  ]

  -- a command that isn't kept off by another host finds none that owns its volume
  pub not_busy : busy_rule v h call ≡ None → is_command call ≡ true → IsNotBusy v h
  not_busy none commands volume bind mounted other theirs =
      by (owner_of v volume) refl
      (sym (ap (λ (m : Option (ℕ × Bool)). option_and_then (λ owner. where_so (is_command call && not (owner == h)) (IsBusy owner)) (option_and_then (owner_of v) (option_map (λ n. n.0) m))) mounted) ∙ none)
    where
      by : (o : Option ℕ) → owner_of v volume ≡ o → option_and_then (λ owner. where_so (is_command call && not (owner == h)) (IsBusy owner)) o ≡ None → other ≡ h
      by None at e =
          let nobody = none_below 9 (λ k. where_so (owns v.hosts v.requests k volume) k) at other (owner_low other volume theirs) in
          absurd (false≢true (sym (none_where (owns v.hosts v.requests other volume) other nobody) ∙ theirs))
      by (Some owner) at e =
          let same = core.alone volume other owner theirs (passes_found (λ k. owns v.hosts v.requests k volume) 9 owner at) in
          let quiet : (is_command call && not (owner == h)) ≡ false = none_where _ (IsBusy owner) e in
          let is_h : not (owner == h) ≡ false = ap (λ (b : Bool). b && not (owner == h)) (sym commands) ∙ quiet in
          same ∙ eqb-true owner h (not-false (owner == h) is_h)

  -- ---- the host's request

  -- one that a recorder serves is of the call
  pub served_for : moving_rule v h call ≡ None → (q : Request) → request_of v.requests h ≡ Some q → q.state ≡ request.Moving → is_for (host_at v.hosts h) call q ≡ true
  served_for none q asked moves =
      let here = chained_none (λ (r : Request). where_so (is_moving_request r.state && not (is_for (host_at v.hosts h) call r)) (IsMoving r.cylinder)) (request_of v.requests h) none q asked in
      let quiet = none_where _ (IsMoving q.cylinder) here in
      not-false (is_for (host_at v.hosts h) call q) (ap (λ (s : RequestState). is_moving_request s && not (is_for (host_at v.hosts h) call q)) (sym moves) ∙ quiet)

  -- no recorder works for a host that calls for no cylinder
  pub quiet_else : moving_rule v h call ≡ None → data_command (host_at v.hosts h) call ≡ None → IsNotAwaited v h
  quiet_else none no_data q asked moves =
      false≢true (ap (λ (o : Option Command). is_some o && ((host_at v.hosts h).cylinder == q.cylinder)) (sym no_data) ∙ served_for none q asked moves)

  -- a request is of each call for a cylinder
  pub for_it : (c : Command) → data_command (host_at v.hosts h) call ≡ Some c → (q : Request) → request_of v.requests h ≡ Some q → is_for (host_at v.hosts h) call q ≡ true
  for_it c looks q asked =
      ap (λ (o : Option Command). is_some o && ((host_at v.hosts h).cylinder == q.cylinder)) looks
      ∙ eq-eqb (host_at v.hosts h).cylinder q.cylinder (core.on_mounted h q asked).1

-- ---- the frames

-- a volume that is bound, is so by a host
bound_so : (volume : ℕ) (m : Option (ℕ × Bool)) → binds volume m ≡ true → m ≡ Some (volume, true)
bound_so volume None is = absurd (false≢true is)
bound_so volume (Some m) is =
    let parts = and_parts (m.0 == volume) m.1 is in
    let e = eqb-true m.0 volume parts.0 in
    λ i. Some (e i, parts.1 i)

binder_in : (hosts : List HostState) (volume : ℕ) → is_volume_bound hosts volume ≡ true → (i : ℕ) × ((slice_index_or hosts i fresh_host).mounted ≡ Some (volume, true))
binder_in [] volume is = absurd (false≢true is)
binder_in (host ∷ hosts) volume is = by (λ e. binder_in hosts volume e) (or_cases (binds volume host.mounted) (is_volume_bound hosts volume) is)
  where
    by : (is_volume_bound hosts volume ≡ true → (i : ℕ) × ((slice_index_or hosts i fresh_host).mounted ≡ Some (volume, true))) → (binds volume host.mounted ≡ true) ⊎ (is_volume_bound hosts volume ≡ true)
        → (i : ℕ) × ((slice_index_or (host ∷ hosts) i fresh_host).mounted ≡ Some (volume, true))
    by more (inl here) = (zero, bound_so volume host.mounted here)
    by more (inr later) = let m = more later in (suc m.0, m.1)

-- a frame of which some host has the page's volume bound
abbrev pub IsBoundBy : {S C : Type 0} → CoreValue S C → ℕ → Type 0
IsBoundBy v frame = (volume : ℕ) × (page : ℕ) × (other : ℕ) × (frame_in (row_in_list v.rows) volume page ≡ Some frame) × ((host_at v.hosts other).mounted ≡ Some (volume, true))

module _ {S C : Type 0} (v : CoreValue S C) (core : IsCore v) where
  frame_bound : (frame : ℕ) → frame < v.config.frames → is_frame_bound v.hosts v.owners frame ≡ true → IsBoundBy v frame
  frame_bound frame low is = by (owner_at v.owners frame) refl is
    where
      by : (o : Option (ℕ × ℕ)) → owner_at v.owners frame ≡ o → on_page (λ page. is_volume_bound v.hosts page.0) o ≡ true → IsBoundBy v frame
      by None at e = absurd (false≢true e)
      by (Some page) at e =
          let b = binder_in v.hosts page.0 e in
          (page.0, page.1, suc b.0, (core.owned frame page.0 page.1 low).0 at, b.1)

  -- so is each, where all are
  pub all_bound : are_frames_bound v.hosts v.owners v.config.frames ≡ true → (frame : ℕ) → frame < v.config.frames → IsBoundBy v frame
  all_bound all_ frame low =
      let none = none_is _ (not-true _ all_) in
      let here = none_below v.config.frames (λ frame. where_so (not (is_frame_bound v.hosts v.owners frame)) frame) none frame low in
      frame_bound frame low (not-false (is_frame_bound v.hosts v.owners frame) (none_where _ frame here))

-- ---- where a host stands

pub mounted_under : (m : Option (ℕ × Bool)) (volume : ℕ) → option_map (λ n. n.0) m ≡ Some volume → (bind : Bool) × (m ≡ Some (volume, bind))
mounted_under None volume is = absurd (none_some volume is)
mounted_under (Some n) volume is = (n.1, ap (λ (k : ℕ). Some (k, n.1)) (some_is n.0 volume is))

module _ {S C : Type 0} (v : CoreValue S C) (host : HostState) (volume : ℕ) (bind : Bool) (r : RowValue) (mounted : host.mounted ≡ Some (volume, bind)) (there : row_in_list v.rows volume ≡ Some r) where
  at_volume : volume_of host ≡ volume
  at_volume = ap (λ (o : Option (ℕ × Bool)). unwrap_or (option_map (λ m. m.0) o) 0) mounted

  pub state_at : state_under v host ≡ state_of r host.cylinder
  state_at = ap (λ (n : ℕ). state_in v.rows n host.cylinder) at_volume ∙ ap (λ (o : Option RowValue). state_of_row o host.cylinder) there

  pub frame_at : frame_under v host ≡ frame_of r (host.cylinder / 8)
  frame_at = ap (λ (n : ℕ). frame_in (row_in_list v.rows) n (page_of host.cylinder)) at_volume ∙ ap (option_and_then (λ (k : RowValue). frame_of k (host.cylinder / 8))) there

-- a volume that a host has bound, is bound
bound_in : (hosts : List HostState) (volume i : ℕ) → (slice_index_or hosts i fresh_host).mounted ≡ Some (volume, true) → is_volume_bound hosts volume ≡ true
bound_in [] volume i is = absurd (none_some (volume, true) is)
bound_in (host ∷ hosts) volume zero is = or_left (binds volume host.mounted) (is_volume_bound hosts volume) (ap (binds volume) is ∙ and_from (volume == volume) true (eq-eqb volume volume refl) refl)
bound_in (host ∷ hosts) volume (suc i) is = or_right (binds volume host.mounted) (is_volume_bound hosts volume) (bound_in hosts volume i is)

bound_by : (hosts : List HostState) (volume other : ℕ) → (host_at hosts other).mounted ≡ Some (volume, true) → is_volume_bound hosts volume ≡ true
bound_by hosts volume zero is = absurd (none_some (volume, true) is)
bound_by hosts volume (suc i) is = bound_in hosts volume i is

module _ {S C : Type 0} (v : CoreValue S C) (core : IsCore v) (h : ℕ) where
  -- so the test of the rule says where there is no space
  pub no_space_at : HasNoSpaceFor v.config.frames (row_in_list v.rows) (host_at v.hosts) h → (not (is_some (frame_under v (host_at v.hosts h))) && are_all_bound v) ≡ true
  no_space_at full =
      let under = full.0 in
      let none = frame_at v (host_at v.hosts h) under.0 under.1 under.2 under.3 under.4 ∙ under.5 in
      let all_ = all_none v.config.frames (λ frame. where_so (not (is_frame_bound v.hosts v.owners frame)) frame) bound in
      and_from _ _ (ap (λ (o : Option ℕ). not (is_some o)) none) (ap (λ (o : Option ℕ). not (is_some o)) all_)
    where
      bound : (frame : ℕ) → frame < v.config.frames → where_so (not (is_frame_bound v.hosts v.owners frame)) frame ≡ None
      bound frame low =
          let its = full.1 frame low in
          let owner = (core.owned frame its.0 its.1 low).1 its.3 in
          let is : is_frame_bound v.hosts v.owners frame ≡ true = ap (on_page (λ page. is_volume_bound v.hosts page.0)) owner ∙ bound_by v.hosts its.0 its.2 its.4 in
          ap (λ (b : Bool). where_so (not b) frame) is

-- a page without a frame, for which a recorder works: not every frame is bound, since the task's isn't
module _ {S C : Type 0} (v : CoreValue S C) (core : IsCore v) (h : ℕ) (q : Request) (asked : request_of v.requests h ≡ Some q) (moves : q.state ≡ request.Moving) where
  pub moving_has_space : ((frame : ℕ) → frame < v.config.frames → IsBoundBy v frame) → frame_in (row_in_list v.rows) q.volume (q.cylinder / 8) ≡ None → ⊥
  moving_has_space all_ none =
      let one = core.tasks_.awaited h q asked moves in
      let its = core.tasks_.each one.0 one.1 one.2 in
      let same = some_is its.request q (sym its.asked ∙ ap (request_of v.requests) one.3 ∙ asked) in
      let has = subst (λ (z : Request). HasFrame (row_in_list v.rows) one.1.frame one.1.victim z.volume (z.cylinder / 8)) same its.frame_ in
      let owner = all_ one.1.frame its.low in
      by_victim one.1.frame one.1.victim has its.unbound owner.0 owner.1 owner.2 owner.3 owner.4
    where
      by_victim : (frame : ℕ) (victim : Option (ℕ × ℕ)) → HasFrame (row_in_list v.rows) frame victim q.volume (q.cylinder / 8)
          → ((w : ℕ × ℕ) → victim ≡ Some w → IsUnbound v.hosts w.0)
          → (volume page other : ℕ) → frame_in (row_in_list v.rows) volume page ≡ Some frame → (host_at v.hosts other).mounted ≡ Some (volume, true) → ⊥
      by_victim frame None (inl has) unbound volume page other owned bound = none_some frame (sym none ∙ has)
      by_victim frame None (inr loose) unbound volume page other owned bound = loose.1 volume page owned
      by_victim frame (Some w) has unbound volume page other owned bound =
          let one = one_page S v core volume w.0 page w.1 frame owned has.0 in
          unbound w refl other (bound ∙ (λ i. Some (one.0 i, true)))
