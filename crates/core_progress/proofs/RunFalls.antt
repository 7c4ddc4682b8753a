-- A host's event that isn't kept waiting leaves less of a run.
use Rattle.std.proofs.Common.{◌≡◌, inl, inr, ℕ, zero, suc, ◌+◌, ◌<◌, ◌≤◌, ◌==◌, Bool, true, false, [], ◌∷◌, ◌++◌, List, length, length-append, Option, Some, None, is_some, unwrap_or, refl, sym, ◌∙◌, ap, subst, subst₂, arith, get_or-set_same}
use Rattle.std.specs.Prelude.{if◌then◌else◌}
use Rattle.std.proofs.lemmas.Bool.{cases_Bool, cases_lt, and_right, both_ways, eqb-true, false≢true}
use Rattle.std.proofs.lemmas.Bool.Decides.{eqb_tells}
use Rattle.channel_commands.specs.declared.command.Command.{Command}
use Rattle.channel_commands.specs.Data.{CallData, command as ask, equipment_check}
use Rattle.volume_table.specs.Row.{RowValue}
use Rattle.volume_table.specs.Listed.{row_in_list, with_changed}
use Rattle.volume_table.specs.declared.changes.Change.TheVariants as change
use Rattle.fault_queue.specs.declared.queue.Request.{Request}
use Rattle.fault_queue.specs.declared.queue.RequestState.TheVariants as request
use Rattle.fault_queue.specs.Requests.{RequestsData, request_of, in_state, without_request}
use Rattle.core_state.specs.declared.session.Event.TheVariants.{Host}
use Rattle.core_state.specs.declared.rule.HostRule.{HostRule}
use Rattle.core_state.specs.declared.rule.HostRule.TheVariants.{IsStopped, IsFull, IsBusy, IsMoving, IsHeld, Responds, HasFailed, HasNoSpace, Faults, Marks, Runs}
use Rattle.core_state.specs.Chains.{called, is_end}
use Rattle.core_state.specs.CoreValue.{CoreData}
use Rattle.core_state.specs.HostEvents.{HostTold, replied, marked, halts, no_memory, Asks, MarksIt, RunsIt, HostDoes, HostEvent}
use Rattle.core_state.specs.HostRules.{request_for, volume_of, host_rule}
use Rattle.core_state.specs.IsCore.{IsCore}
use Rattle.core_state.specs.Pins.{host_at, page_of, state_of_row, state_in, is_ready}
use Rattle.core_state.specs.Steps.{with_event, ends_request, going_on, with_request, with_change, touching}
use Rattle.core_progress.specs.Progress.{keeps_waiting, is_kept_waiting}
use Rattle.core_progress.specs.WorkLeft.{is_ready_to_write, is_marked, has_request, one_unless, sum_below, hosts_without, run_left}
use Rattle.core_progress.proofs.OneRequest.{OnlyOne, one_made, one_remade}
use Rattle.core_progress.proofs.Progress.{mounted_is}
use Rattle.core_progress.proofs.RuleSays.{Says, IsMarkable, is_late, rule_says, has_room, AreOnCylinders, none_ends, none_asked}
use Rattle.core_progress.proofs.RunStays.{within_states, no_more, no_more_without, flipped, KeepsFours, Never, ready_kept, ready_from, row_now, all_fours, changed_fours, same_fours}

-- ---- sums over the hosts

pub at_most_all : (test : ℕ → Bool) → hosts_without test ≤ 8
at_most_all test = ones 8 where
  one : (b : Bool) → one_unless b ≤ 1
  one true = omega arith
  one false = omega arith

  ones : (n : ℕ) → sum_below n (λ i. one_unless (test (suc i))) ≤ n
  ones zero = omega arith
  ones (suc n) = let a = ones n in let b = one (test (suc n)) in omega (arith, a, b)

less : (n i : ℕ) (f g : ℕ → ℕ) → i < n → ((j : ℕ) → g j ≤ f j) → g i < f i → sum_below n g < sum_below n f
less zero i f g lt each falls = absurd (omega (arith, lt))
less (suc n) i f g lt each falls = elim (cases_lt i n) [
  | inl below ↦ let a = less n i f g below each falls in let b = each n in omega (arith, a, b)
  | inr from ↦
      let e : i ≡ n = omega (arith, lt, from) in
      let a = no_more n f g each in
      let b : g n < f n = subst (λ (k : ℕ). g k < f k) e falls in omega (arith, a, b)
]

-- one of the hosts more passes
one_less : (old new : ℕ → Bool) (i : ℕ) → i < 8 → ((h : ℕ) → old h ≡ true → new h ≡ true) → old (suc i) ≡ false → new (suc i) ≡ true → hosts_without new < hosts_without old
one_less old new i lt keeps before now =
    less 8 i (λ j. one_unless (old (suc j))) (λ j. one_unless (new (suc j))) lt (λ j. flipped (old (suc j)) (new (suc j)) (keeps (suc j)))
    (subst₂ (λ (a b : Bool). one_unless b < one_unless a) (sym before) (sym now) (omega arith))

-- an entry more outweighs what becomes of the hosts
reply_falls : (core core' : CoreData) → length core'.history ≡ length core.history + 1 → length core.history < 4096 → run_left core' < run_left core
reply_falls core core' more few =
    let a = at_most_all (is_marked core') in
    let b = at_most_all (has_request core') in
    omega (arith, a, b, more, few)

module _ (core core' : CoreData) (i : ℕ) (r : Request) (low : i < 8) (same : core'.history ≡ core.history) (only : OnlyOne core.requests core'.requests (suc i) (Some r)) where
  long : length core'.history ≡ length core.history
  long = ap length same

  -- a host asks that had no request
  pub ask_falls : request_of core.requests (suc i) ≡ None → core'.rows ≡ core.rows → run_left core' < run_left core
  ask_falls none rows =
      let a = no_more_without (is_marked core) (is_marked core') marks in
      let b = one_less (has_request core) (has_request core') i low asks (ap is_some none) (ap is_some only.own) in
      let c = long in
      omega (arith, a, b, c) where
        marks : (h : ℕ) → is_marked core h ≡ true → is_marked core' h ≡ true
        marks h m = elim (eqb_tells h (suc i)) [
          | inl mine ↦ absurd (false≢true (sym (ap (is_ready_to_write core.rows) (ap (request_of core.requests) mine.1 ∙ none)) ∙ m))
          | inr other ↦ ap (is_ready_to_write core'.rows) (only.others h other.1) ∙ ready_kept core.rows core'.rows Never (same_fours core.rows core'.rows rows) (request_of core.requests h) (λ q is ready never. never) m
        ]

        asks : (h : ℕ) → has_request core h ≡ true → has_request core' h ≡ true
        asks h has = elim (eqb_tells h (suc i)) [
          | inl mine ↦ ap (has_request core') mine.1 ∙ ap is_some only.own
          | inr other ↦ ap is_some (only.others h other.1) ∙ has
        ]

  -- a host is marked that wasn't
  pub mark_falls : is_marked core (suc i) ≡ false → is_marked core' (suc i) ≡ true → KeepsFours core.rows core'.rows Never → run_left core' < run_left core
  mark_falls before now rows =
      let a = one_less (is_marked core) (is_marked core') i low marks before now in
      let b = at_most_all (has_request core') in
      let c = long in
      omega (arith, a, b, c) where
        marks : (h : ℕ) → is_marked core h ≡ true → is_marked core' h ≡ true
        marks h m = elim (eqb_tells h (suc i)) [
          | inl mine ↦ absurd (both_ways (is_marked core (suc i)) before (sym (ap (is_marked core) mine.1) ∙ m))
          | inr other ↦ ap (is_ready_to_write core'.rows) (only.others h other.1) ∙ ready_kept core.rows core'.rows Never rows (request_of core.requests h) (λ q is ready never. never) m
        ]

-- ---- a cylinder that becomes changed

-- the row of a cylinder that is staged
staged_row : (rows : List (Option RowValue)) (volume cylinder : ℕ) → 2 ≤ state_in rows volume cylinder → (row : RowValue) × (row_in_list rows volume ≡ Some row) × (cylinder < length row.states)
staged_row rows volume cylinder lt = by_row (row_in_list rows volume) lt where
  by_row : (o : Option RowValue) → 2 ≤ state_of_row o cylinder → (row : RowValue) × (o ≡ Some row) × (cylinder < length row.states)
  by_row None l = absurd (omega (arith, l))
  by_row (Some row) l = (row, refl, within_states row.states cylinder (omega (arith, l)))

module _ (rows : List (Option RowValue)) (volume cylinder : ℕ) (staged : 2 ≤ state_in rows volume cylinder) where
  abbrev changed_rows : List (Option RowValue)
  changed_rows = with_changed volume (change.Changed cylinder) rows

  pub now_changed : state_in changed_rows volume cylinder ≡ 4
  now_changed =
      let row = staged_row rows volume cylinder staged in
      ap (λ o. state_of_row o cylinder) (row_now rows volume row.0 (change.Changed cylinder) row.1) ∙ get_or-set_same row.0.states cylinder 4 0 row.2

  pub stays_changed : KeepsFours rows changed_rows Never
  stays_changed =
      let row = staged_row rows volume cylinder staged in
      all_fours rows volume row.0 (change.Changed cylinder) row.1 (λ y. changed_fours row.0 cylinder y row.2)

low_state : (n : ℕ) → n < 4 → (n == 4) ≡ false
low_state n small = elim (cases_Bool (n == 4)) [ inr other ↦ other | inl same ↦ absurd (let e : n ≡ 4 = eqb-true n 4 same in omega (arith, e, small)) ]

-- a request stands where its host does
module _ (core : CoreData) (kept : IsCore core) (h : ℕ) where
  pub cylinders : AreOnCylinders core
  cylinders k r has = (kept.on_mounted k r has).1

  pub volume_is : (r : Request) → request_of core.requests h ≡ Some r → volume_of (host_at core.hosts h) ≡ r.volume
  volume_is r has = ap (λ (v : Option ℕ). unwrap_or v 0) (mounted_is r.volume (host_at core.hosts h) (kept.on_mounted h r has).0)

  -- so where its host's cylinder isn't changed, the host isn't marked
  pub unmarked_before : (call : CallData) (volume cylinder : ℕ) → IsMarkable core h call volume cylinder → is_marked core h ≡ false
  unmarked_before call volume cylinder may = by_request (request_of core.requests h) refl where
    by_request : (o : Option Request) → request_of core.requests h ≡ o → is_ready_to_write core.rows o ≡ false
    by_request None none = refl
    by_request (Some r) has =
        let small : state_in core.rows r.volume r.cylinder < 4 = subst₂ (λ (v c : ℕ). state_in core.rows v c < 4) (may.asked.volume_ ∙ volume_is r has) (may.asked.cylinder_ ∙ cylinders h r has) may.unchanged in
        and_right (is_ready r.state) (state_in core.rows r.volume r.cylinder == 4) (low_state (state_in core.rows r.volume r.cylinder) small)

-- a cylinder is asked for the first time, of which the host had asked for none
pub asked_at : (tells : Type 0) (core core' : CoreData) (kept : IsCore core) (h : ℕ) (call : CallData) (volume cylinder : ℕ) → Says core h call (Faults volume cylinder) → is_some (request_for core h call) ≡ false
    → Asks tells core h call volume cylinder core' → core' ≡ record (with_event (Host h) (with_request h volume cylinder request.Queued core)) { site = core'.site }
asked_at tells core core' kept h call volume cylinder says fresh does =
    by_tests (is_some (request_for core h call)) (ends_request core h call) fresh (none_ends core h call (cylinders core kept h) says.data_) does.1 where
      by_tests : (asked ends : Bool) → asked ≡ false → ends ≡ false
          → core' ≡ record (if asked then core else with_event (Host h) (with_request h volume cylinder request.Queued (if ends then record core { requests = without_request h core.requests } else core))) { site = core'.site }
          → core' ≡ record (with_event (Host h) (with_request h volume cylinder request.Queued core)) { site = core'.site }
      by_tests true ends fresh_ on is = absurd (false≢true (sym fresh_))
      by_tests false true fresh_ on is = absurd (false≢true (sym on))
      by_tests false false fresh_ on is = is

-- ---- a host is marked

-- what a mark leaves: the host's request is Ready on the cylinder, which is changed
pub record IsMarkedNow (core : CoreData) (h : ℕ) (core' : CoreData) : Type 0 where
  pub history_ : core'.history ≡ core.history
  pub hosts_ : core'.hosts ≡ core.hosts
  pub r : Request
  pub only : OnlyOne core.requests core'.requests h (Some r)
  pub fours : KeepsFours core.rows core'.rows Never
  pub before : is_marked core h ≡ false
  pub now : is_marked core' h ≡ true

module _ (tells : Type 0) (core core' : CoreData) (kept : IsCore core) (h : ℕ) (call : CallData) (volume cylinder : ℕ) (may : IsMarkable core h call volume cylinder) where
  -- the request that the call is for doesn't end
  going_same : going_on core h call ≡ core
  going_same = by_test (ends_request core h call) (none_ends core h call (cylinders core kept h) may.asked.data_) where
    by_test : (b : Bool) → b ≡ false → (if b then record core { requests = without_request h core.requests } else core) ≡ core
    by_test true not_so = absurd (false≢true (sym not_so))
    by_test false not_so = refl

  marks_at : core' ≡ with_event (Host h) (touching (volume, page_of cylinder) (with_request h volume cylinder request.Ready (with_change volume (change.Changed cylinder) (record core { site = core'.site })))) → IsMarkedNow core h core'
  marks_at is = by_request (request_of core.requests h) refl where
    rows_now : core'.rows ≡ with_changed volume (change.Changed cylinder) core.rows
    rows_now = ap (λ (c : CoreData). c.rows) is

    four : state_in core'.rows volume cylinder ≡ 4
    four = ap (λ (rows : List (Option RowValue)). state_in rows volume cylinder) rows_now ∙ now_changed core.rows volume cylinder may.staged

    fours_now : KeepsFours core.rows core'.rows Never
    fours_now = subst (λ (rows : List (Option RowValue)). KeepsFours core.rows rows Never) (sym rows_now) (stays_changed core.rows volume cylinder may.staged)

    requests_now : core'.requests ≡ (with_request h volume cylinder request.Ready core).requests
    requests_now = ap (λ (c : CoreData). c.requests) is

    with_one : (r : Request) → OnlyOne core.requests (with_request h volume cylinder request.Ready core).requests h (Some r) → is_ready r.state ≡ true → volume ≡ r.volume → cylinder ≡ r.cylinder → IsMarkedNow core h core'
    with_one r one ready on at =
        let only : OnlyOne core.requests core'.requests h (Some r) = subst (λ (q : RequestsData). OnlyOne core.requests q h (Some r)) (sym requests_now) one in
        record {
          history_ = ap (λ (c : CoreData). c.history) is;
          hosts_ = ap (λ (c : CoreData). c.hosts) is;
          r = r;
          only = only;
          fours = fours_now;
          before = unmarked_before core kept h call volume cylinder may;
          now = ap (is_ready_to_write core'.rows) only.own ∙ ready_from core'.rows r ready (subst₂ (λ (v c : ℕ). state_in core'.rows v c ≡ 4) on at four);
        }

    by_request : (o : Option Request) → request_of core.requests h ≡ o → IsMarkedNow core h core'
    by_request None none = with_one (record { volume = volume; cylinder = cylinder; state = request.Ready }) (one_made core kept.requests_ h volume cylinder request.Ready none) refl refl refl
    by_request (Some r) has =
        with_one (in_state request.Ready r) (one_remade core kept.requests_ h volume cylinder request.Ready r has) refl
        (may.asked.volume_ ∙ volume_is core kept h r has) (may.asked.cylinder_ ∙ cylinders core kept h h r has)

  pub marks_now : MarksIt tells core h call (record { volume = volume; cylinder = cylinder }) marked core' → IsMarkedNow core h core'
  marks_now does = marks_at (subst (λ (c : CoreData). core' ≡ with_event (Host h) (touching (volume, page_of cylinder) (with_request h volume cylinder request.Ready (with_change volume (change.Changed cylinder) (record c { site = core'.site }))))) going_same does.1)

-- ---- an event of a host that isn't kept waiting

one_more : {A : Type 0} (xs : List A) (x : A) → length (xs ++ x ∷ []) ≡ length xs + 1
one_more xs x = length-append xs (x ∷ [])

module _ (tells : Type 0) (core core' : CoreData) (kept : IsCore core) (i : ℕ) (low : i < 8) where
  runs_falls : (call : CallData) (c : Command) (volume frame : ℕ) (told : HostTold) → RunsIt tells core (suc i) call (record { command = c; volume = volume; frame = frame }) told core' → length core.history < 4096 → is_end (called (suc i) call told) ≡ false → run_left core' < run_left core
  runs_falls call c volume frame (replied index equipment_check) does few on = reply_falls core core' (ap (λ (x : CoreData). length x.history) does.2 ∙ one_more core.history _) few
  runs_falls (ask code argument chained) c volume frame (replied index reply) does few on = reply_falls core core' (ap (λ (x : CoreData). length x.history) does.3 ∙ one_more core.history _) few
  runs_falls (ask code argument chained) c volume frame (halts fault) does few on = absurd (false≢true (sym on))
  runs_falls call c volume frame told does few on = absurd does

  -- its cylinder is asked for
  asks_falls : (call : CallData) (volume cylinder : ℕ) → Says core (suc i) call (Faults volume cylinder) → is_some (request_for core (suc i) call) ≡ false → Asks tells core (suc i) call volume cylinder core' → run_left core' < run_left core
  asks_falls call volume cylinder says fresh does =
      let none = none_asked core (suc i) call (cylinders core kept (suc i)) says.data_ fresh in
      let is = asked_at tells core core' kept (suc i) call volume cylinder says fresh does in
      let r : Request = record { volume = volume; cylinder = cylinder; state = request.Queued } in
      ask_falls core core' i r low (ap (λ (c : CoreData). c.history) is)
      (subst (λ (q : RequestsData). OnlyOne core.requests q (suc i) (Some r)) (sym (ap (λ (c : CoreData). c.requests) is)) (one_made core kept.requests_ (suc i) volume cylinder request.Queued none)) none (ap (λ (c : CoreData). c.rows) is)

  falls : (call : CallData) (rule : HostRule) (told : HostTold) → HostDoes tells core (suc i) call rule told core' → Says core (suc i) call rule → (is_late rule ≡ true → length core.history < 4096)
      → keeps_waiting (is_some (request_for core (suc i) call)) rule ≡ false → is_end (called (suc i) call told) ≡ false → run_left core' < run_left core
  falls call (IsStopped fault) told does says room goes on = absurd (both_ways (is_end (called (suc i) call told)) on (ap (λ (t : HostTold). is_end (called (suc i) call t)) does.0))
  falls call IsFull told does says room goes on = absurd (both_ways (is_end (called (suc i) call told)) on (ap (λ (t : HostTold). is_end (called (suc i) call t)) does.0))
  falls call rule no_memory does says room goes on = absurd (false≢true (sym on))
  falls call (IsBusy owner) told does says room goes on = absurd (false≢true (sym goes))
  falls call (IsMoving cylinder) told does says room goes on = absurd (false≢true (sym goes))
  falls call (IsHeld frame) told does says room goes on = absurd (false≢true (sym goes))
  falls call Responds told does says room goes on = reply_falls core core' (ap (λ (x : CoreData). length x.history) does.2 ∙ one_more core.history _) (room refl)
  falls call (HasFailed fault) told does says room goes on = reply_falls core core' (ap (λ (x : CoreData). length x.history) does.2 ∙ one_more core.history _) (room refl)
  falls call HasNoSpace told does says room goes on = reply_falls core core' (ap (λ (x : CoreData). length x.history) does.2 ∙ one_more core.history _) (room refl)
  falls call (Faults volume cylinder) told does says room goes on = asks_falls call volume cylinder says goes does.1
  falls call (Marks volume cylinder) marked does says room goes on =
      let m = marks_now tells core core' kept (suc i) call volume cylinder says does in
      mark_falls core core' i m.r low m.history_ m.only m.before m.now m.fours
  falls call (Marks volume cylinder) (halts fault) does says room goes on = absurd (false≢true (sym on))
  falls call (Marks volume cylinder) told does says room goes on = absurd does
  falls call (Runs c volume frame) told does says room goes on = runs_falls call c volume frame told does (room refl) on

  pub goes_falls : (call : CallData) (told : HostTold) → HostEvent tells core (suc i) call told core' → is_kept_waiting core (suc i) call ≡ false → is_end (called (suc i) call told) ≡ false → run_left core' < run_left core
  goes_falls call told event goes on = falls call (host_rule core (suc i) call) told event (rule_says core (suc i) call) (has_room core (suc i) call) goes on

-- a host is one of eight
pub call_falls : (tells : Type 0) (core core' : CoreData) → IsCore core → (h : ℕ) → 1 ≤ h → h ≤ 8 → (call : CallData) (told : HostTold) → HostEvent tells core h call told core' → is_kept_waiting core h call ≡ false → is_end (called h call told) ≡ false → run_left core' < run_left core
call_falls tells core core' kept zero one eight call told event goes on = absurd (omega (arith, one))
call_falls tells core core' kept (suc i) one eight call told event goes on = goes_falls tells core core' kept i (omega (arith, eight)) call told event goes on
