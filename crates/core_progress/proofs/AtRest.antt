-- Where a whole turn of the recorders is idle, nothing is left to do.
use Rattle.std.proofs.Common.{◌≡◌, ◌⊎◌, inl, inr, ℕ, zero, suc, ◌<◌, ◌==◌, nat_lt, Bool, true, false, not, ◌&&◌, ◌||◌, List, [], ◌∷◌, length, slice_index_or, Option, Some, None, is_some, option_map, option_and_then, unwrap_or, filter_map, refl, sym, ◌∙◌, ap, arith}
use Rattle.std.specs.Prelude.{if◌then◌else◌, Contains, IsSome}
use Rattle.std.specs.Option.{ForSome}
use Rattle.std.specs.List.{cons_option}
use Rattle.std.proofs.lemmas.Bool.{cases_Bool, and_from, both_ways, ltb-false, false≢true}
use Rattle.std.proofs.lemmas.Cmp.{nat_eq_equiv}
use Rattle.std.proofs.lemmas.Map.Views.{lookup-from_Contains}
use Rattle.mss_base.specs.Firsts.{◌or◌, where_so}
use Rattle.mss_base.proofs.FirstFacts.{none_below, none_where, or_none, map_none}
use Rattle.fault_queue.specs.declared.queue.Request.{Request}
use Rattle.fault_queue.specs.declared.queue.RequestState.{RequestState}
use Rattle.fault_queue.specs.declared.queue.RequestState.TheVariants as request
use Rattle.fault_queue.specs.Requests.{RequestsData, request_of}
use Rattle.transfers.specs.declared.transfer.Transfer.{Transfer}
use Rattle.volume_table.specs.Listed.{row_in_list}
use Rattle.shown_volumes.specs.Sound.{frame_in}
use Rattle.cartridge_store.specs.Places.{place_of}
use Rattle.victim_choice.specs.declared.choose.Candidate.{Candidate}
use Rattle.core_state.specs.declared.task.Task.{Task}
use Rattle.core_state.specs.declared.rule.WorkRule.{WorkRule}
use Rattle.core_state.specs.declared.rule.WorkRule.TheVariants.{IsStopped, IsIdle, GivesBack, Picks, PicksVictim, Abandons, Fetches, Copies, Ends, Frees, Assigns}
use Rattle.core_state.specs.CoreValue.{CoreData}
use Rattle.core_state.specs.Pins.{owner_at, is_moving, is_bound, is_held, is_free, free_frame, candidate, candidates, candidate_on, page_of}
use Rattle.core_state.specs.WorkRules.{task_of, held_in, transfer_of, stopped_rule, return_rule, pick_on, pick_for, first_pick, pick_rule, is_within, abandon_rule, needs_cartridge, is_in_cell, carry_for, carry_rule, copy_rule, end_rule, free_rule, task_rule, work_rule}
use Rattle.core_state.specs.Chains.{IsAtRest, AllRequests, AllNone, IsSettled}
use Rattle.core_state.proofs.RuleWalks.{some_is, none_some, nothing, this, either, where_test, if_test, mapped, chained}
use Rattle.core_progress.specs.CoreFits.{CoreFits}
use Rattle.core_progress.specs.Progress.{AreIdle}

-- ---- rules that aren't idle

abbrev acts : WorkRule → Bool
acts IsIdle = false
acts _ = true

abbrev Act : WorkRule → Type 0
Act x = acts x ≡ true

-- where it is there, it acts
abbrev Acts : Option WorkRule → Type 0
Acts o = ForSome o Act

-- it is there, and acts
abbrev Surely : Option WorkRule → Type 0
Surely o = (x : WorkRule) × (o ≡ Some x) × Act x

surely_or : (a b : Option WorkRule) → Acts a → Surely b → Surely (a or b)
surely_or None b fa fb = fb
surely_or (Some y) b fa fb = (y, refl, fa y refl)

surely_acts : (o : Option WorkRule) → Surely o → Act (unwrap_or o IsIdle)
surely_acts None s = absurd (none_some s.0 s.1)
surely_acts (Some x) s = ap acts (some_is x s.0 s.1) ∙ s.2

module _ {A : Type 0} where
  surely_map : (f : A → WorkRule) (o : Option A) (a : A) → o ≡ Some a → Act (f a) → Surely (option_map f o)
  surely_map f o a is goes = (f a, ap (option_map f) is, goes)

  surely_then : (f : A → Option WorkRule) (o : Option A) (a : A) → o ≡ Some a → Surely (f a) → Surely (option_and_then f o)
  surely_then f o a is s = (s.0, ap (option_and_then f) is ∙ s.1, s.2)

  pub none_or_some : (o : Option A) → (o ≡ None) ⊎ ((x : A) × (o ≡ Some x))
  none_or_some None = inl refl
  none_or_some (Some x) = inr (x, refl)

-- ---- what recorders do

module _ (core : CoreData) where
  pick_on_acts : (h : ℕ) (frame : Option ℕ) → Acts (pick_on core h frame)
  pick_on_acts h (Some frame) = where_test Act (not (is_moving core frame)) (Picks h frame) λ _. refl
  pick_on_acts h None =
      either Act (option_map (Picks h) (free_frame core)) _ (mapped Act (Picks h) (free_frame core) λ frame. refl)
      (where_test Act (nat_lt 0 (length (candidates core))) (PicksVictim h) λ _. refl)

  pick_for_acts : (h : ℕ) (r : Request) (state : RequestState) → Acts (pick_for core h r state)
  pick_for_acts h r request.Queued = pick_on_acts h (frame_in (row_in_list core.rows) r.volume (page_of r.cylinder))
  pick_for_acts h r request.Moving = nothing Act None refl
  pick_for_acts h r request.Ready = nothing Act None refl
  pick_for_acts h r (request.Failed fault) = nothing Act None refl

  first_pick_acts : (requests : RequestsData) → Acts (first_pick core requests)
  first_pick_acts [] = nothing Act None refl
  first_pick_acts (asked ∷ more) = either Act (pick_for core asked.0 asked.1 asked.1.state) (first_pick core more) (pick_for_acts asked.0 asked.1 asked.1.state) (first_pick_acts more)

  pick_acts : (i : ℕ) → Acts (pick_rule core i)
  pick_acts i = if_test Act (is_some (task_of core i)) None (first_pick core core.requests) (nothing Act None refl) (first_pick_acts core.requests)

  -- the cartridge that a copy may need can be had, or the recorder holds one
  abbrev CanCarry : ℕ → Type 0
  CanCarry i = ((cartridge : ℕ) → is_in_cell (place_of core.store cartridge) ≡ true) ⊎ ((cartridge : ℕ) × (held_in core i ≡ Some cartridge))

  carry_acts : (cartridge : ℕ) (held : Option ℕ) → (is_in_cell (place_of core.store cartridge) ≡ true) ⊎ ((c : ℕ) × (held ≡ Some c)) → Acts (carry_for core cartridge held)
  carry_acts cartridge (Some other) can = where_test Act (not (other == cartridge)) (GivesBack other) λ _. refl
  carry_acts cartridge None (inr holds) = absurd (none_some holds.0 holds.1)
  carry_acts cartridge None (inl cell) = by_cell (is_in_cell (place_of core.store cartridge)) cell where
    by_cell : (b : Bool) → b ≡ true → Acts (Some (if b then Fetches cartridge else IsIdle))
    by_cell true e = this Act (Fetches cartridge) refl
    by_cell false e = absurd (false≢true e)

  carry_rule_acts : (i : ℕ) (t : Transfer) → CanCarry i → Acts (carry_rule core i t)
  carry_rule_acts i t can =
      if_test Act (nat_lt t.next 19 && needs_cartridge t.kind) (carry_for core t.cartridge (held_in core i)) None
      (carry_acts t.cartridge (held_in core i) (elim can [ inl cells ↦ inl (cells t.cartridge) | inr holds ↦ inr holds ]))
      (nothing Act None refl)

  transfer_acts : (i : ℕ) → CanCarry i → (t : Transfer) → Acts (carry_rule core i t or copy_rule t or end_rule t)
  transfer_acts i can t =
      either Act (carry_rule core i t) _ (carry_rule_acts i t can)
      (either Act (copy_rule t) (end_rule t) (where_test Act (nat_lt t.next 19) (Copies t) λ _. refl) (this Act (Ends t) refl))

  -- a task acts, where its request is there
  task_acts : (i : ℕ) (task : Task) (r : Request) → request_of core.requests task.host ≡ Some r → CanCarry i → Surely (task_rule core i task)
  task_acts i task r has can =
      surely_or (abandon_rule task) _ (where_test Act (is_some task.victim && task.touched && not (is_within task.transfer)) Abandons λ _. refl)
      (surely_or (option_and_then (λ t. carry_rule core i t or copy_rule t or end_rule t) (transfer_of core task)) _
      (chained Act (λ t. carry_rule core i t or copy_rule t or end_rule t) (transfer_of core task) (transfer_acts i can))
      (surely_or (free_rule task) _ (mapped Act (λ page. Frees page.0 page.1) task.victim λ page. refl)
      (surely_map (λ q. Assigns q.volume (page_of q.cylinder)) (request_of core.requests task.host) r has refl)))

  return_acts : (i : ℕ) → Acts (return_rule core i)
  return_acts i =
      chained Act (λ cartridge. where_so (not (is_some (task_of core i))) (GivesBack cartridge)) (held_in core i) λ cartridge.
      where_test Act (not (is_some (task_of core i))) (GivesBack cartridge) λ _. refl

  -- a recorder acts where one of the rules behind the first surely does
  acts_by : (i : ℕ) → Surely (return_rule core i or pick_rule core i or option_and_then (task_rule core i) (task_of core i)) → Act (work_rule core i)
  unfolding work_rule
  acts_by i more =
      surely_acts (stopped_rule core or return_rule core i or pick_rule core i or option_and_then (task_rule core i) (task_of core i))
      (surely_or (stopped_rule core) _ (mapped Act IsStopped core.stopped λ fault. refl) more)

  -- so does one with a task
  worker_acts : (i : ℕ) (task : Task) (r : Request) → task_of core i ≡ Some task → request_of core.requests task.host ≡ Some r → CanCarry i → Act (work_rule core i)
  worker_acts i task r works has can =
      acts_by i
      (surely_or (return_rule core i) _ (return_acts i)
      (surely_or (pick_rule core i) _ (pick_acts i)
      (surely_then (task_rule core i) (task_of core i) task works (task_acts i task r has can))))

  -- one that holds a cartridge and has none
  keeper_acts : (i cartridge : ℕ) → task_of core i ≡ None → held_in core i ≡ Some cartridge → Act (work_rule core i)
  keeper_acts i cartridge free holds =
      let back : return_rule core i ≡ Some (GivesBack cartridge) = rw (holds, free) refl in
      acts_by i (rw back (GivesBack cartridge, refl, refl))

  -- and one that has none, where a request can be picked
  picker_acts : (i : ℕ) (x : WorkRule) → task_of core i ≡ None → first_pick core core.requests ≡ Some x → Act (work_rule core i)
  picker_acts i x free can =
      let picks : pick_rule core i ≡ Some x = rw free can in
      acts_by i (surely_or (return_rule core i) _ (return_acts i) (rw picks (x, refl, first_pick_acts core.requests x can)))

-- ---- a whole turn

module _ (core : CoreData) (fit : CoreFits core) (idle : AreIdle core) where
  rests : (i : ℕ) → i < core.config.recorders → Act (work_rule core i) → ⊥
  rests i below act = both_ways (acts (work_rule core i)) (ap acts (idle.each i below)) act

  no_cartridge : (i cartridge : ℕ) → held_in core i ≡ Some cartridge → ⊥
  no_cartridge i cartridge holds = rests i (fit.cartridges_.holds i cartridge holds).0 (elim (none_or_some (task_of core i)) [
    | inl free ↦ keeper_acts core i cartridge free holds
    | inr one ↦ let s = fit.tasks_.serves i one.0 one.1 in worker_acts core i one.0 s.0 one.1 s.1 (inr (cartridge, holds))
  ])

  in_cell : (cartridge : ℕ) → is_in_cell (place_of core.store cartridge) ≡ true
  in_cell cartridge = elim (fit.cartridges_.lies cartridge) [
    | inl home ↦ ap is_in_cell home
    | inr held ↦ absurd (no_cartridge held.0 cartridge held.2)
  ]

  no_task : (i : ℕ) (task : Task) → task_of core i ≡ Some task → ⊥
  no_task i task works =
      let s = fit.tasks_.serves i task works in
      rests i (fit.tasks_.low i task works) (worker_acts core i task s.0 works s.1 (inl in_cell))

  not_moving : (frame : ℕ) → is_moving core frame ≡ false
  not_moving frame = elim (cases_Bool (is_moving core frame)) [
    | inr still ↦ still
    | inl moves ↦ let u = fit.tasks_.used frame moves in absurd (no_task u.0 u.1 u.2)
  ]

  all_none : {A : Type 0} (xs : List (Option A)) → ((i : ℕ) (x : A) → slice_index_or xs i None ≡ Some x → ⊥) → AllNone xs
  all_none [] never = tt
  all_none (x ∷ xs) never = (first x (never 0), all_none xs (λ i y is. never (suc i) y is)) where
    first : {A : Type 0} (o : Option A) → ((x : A) → o ≡ Some x → ⊥) → o ≡ None
    first None no_one = refl
    first (Some y) no_one = absurd (no_one y refl)

  -- a recorder that may pick, and doesn't
  nothing_picked : first_pick core core.requests ≡ None
  nothing_picked = elim (none_or_some (first_pick core core.requests)) [
    | inl none ↦ none
    | inr one ↦ absurd (rests 0 (let some = idle.some in omega (arith, some)) (picker_acts core 0 one.0 taskless one.1))
  ] where
    taskless : task_of core 0 ≡ None
    taskless = elim (none_or_some (task_of core 0)) [ inl none ↦ none | inr one ↦ absurd (no_task 0 one.0 one.1) ]

  -- ---- frames

  none_kept : (o : Option Candidate) (kept : List Candidate) → cons_option o kept ≡ [] → (o ≡ None) × (kept ≡ [])
  none_kept None kept none = (refl, none)
  none_kept (Some c) kept none = absurd cc

  no_candidate : (xs : List ℕ) → filter_map (candidate core) xs ≡ [] → (i frame : ℕ) → i < length xs → slice_index_or xs i frame ≡ frame → candidate core frame ≡ None
  no_candidate [] none i frame lt at = absurd (omega (arith, lt))
  no_candidate (x ∷ xs) none zero frame lt at = ap (candidate core) (sym at) ∙ (none_kept (candidate core x) (filter_map (candidate core) xs) none).0
  no_candidate (x ∷ xs) none (suc i) frame lt at = no_candidate xs (none_kept (candidate core x) (filter_map (candidate core) xs) none).1 i frame (omega (arith, lt)) at

  -- a frame that is no candidate, with a page, and that no task uses, is bound or held
  pinned : (frame : ℕ) (page : ℕ × ℕ) → owner_at core.owners frame ≡ Some page → candidate core frame ≡ None → (is_bound core frame ≡ true) ⊎ (is_held core frame ≡ true)
  pinned frame page has = by_tests (is_bound core frame) (is_moving core frame) (is_held core frame) (owner_at core.owners frame) (not_moving frame) has where
    by_tests : (a b c : Bool) (o : Option (ℕ × ℕ)) → b ≡ false → o ≡ Some page
        → (if a || b || c then None else option_map (candidate_on core frame) o) ≡ None → (a ≡ true) ⊎ (c ≡ true)
    by_tests true b c o still has none = inl refl
    by_tests false true c o still has none = absurd (false≢true (sym still))
    by_tests false false true o still has none = inr refl
    by_tests false false false o still has none = absurd (none_some page (sym (map_none (candidate_on core frame) o none) ∙ has))

  no_length : {A : Type 0} (xs : List A) → nat_lt 0 (length xs) ≡ false → xs ≡ []
  no_length [] short = refl
  no_length (x ∷ xs) short = absurd (let le = ltb-false 0 (length (x ∷ xs)) short in omega (arith, le))

  -- each frame has a page, where none is free, and is bound or held, where there is no candidate
  each_pinned : free_frame core ≡ None → nat_lt 0 (length (candidates core)) ≡ false
      → (frame : ℕ) → frame < core.config.frames → IsSome (owner_at core.owners frame) × ((is_bound core frame ≡ true) ⊎ (is_held core frame ≡ true))
  each_pinned none_free short frame lt =
      let taken = none_where (is_free core frame) frame (none_below core.config.frames (λ k. where_so (is_free core k) k) none_free frame lt) in
      let at = fit.frames_.ordered frame lt in
      let unchosen = no_candidate core.recency (no_length (candidates core) short) at.0 frame at.1 at.2 in
      elim (none_or_some (owner_at core.owners frame)) [
        | inl ownerless ↦ absurd (both_ways (is_free core frame) taken (and_from (not (is_some (owner_at core.owners frame))) (not (is_moving core frame)) (ap (λ o. not (is_some o)) ownerless) (ap not (not_moving frame))))
        | inr one ↦ (ap is_some one.1, pinned frame one.0 one.1 unchosen)
      ]

  -- ---- requests

  queued_rests : (h : ℕ) (r : Request) → pick_on core h (frame_in (row_in_list core.rows) r.volume (page_of r.cylinder)) ≡ None → IsAtRest core r request.Queued
  queued_rests h r = by_frame (frame_in (row_in_list core.rows) r.volume (page_of r.cylinder)) refl where
    by_frame : (o : Option ℕ) → frame_in (row_in_list core.rows) r.volume (page_of r.cylinder) ≡ o → pick_on core h o ≡ None → IsAtRest core r request.Queued
    by_frame (Some frame) has none = absurd (both_ways (not (is_moving core frame)) (none_where (not (is_moving core frame)) (Picks h frame) none) (ap not (not_moving frame)))
    by_frame None has none =
        let parts = or_none (option_map (Picks h) (free_frame core)) (where_so (nat_lt 0 (length (candidates core))) (PicksVictim h)) none in
        (has, each_pinned (map_none (Picks h) (free_frame core) parts.0) (none_where (nat_lt 0 (length (candidates core))) (PicksVictim h) parts.1))

  requests_rest : (requests : RequestsData) → first_pick core requests ≡ None → ((asked : ℕ × Request) → Contains requests asked → asked.1.state ≡ request.Moving → ⊥) → AllRequests (λ r. IsAtRest core r r.state) requests
  requests_rest [] none still = tt
  requests_rest (asked ∷ more) none still =
      let parts = or_none (pick_for core asked.0 asked.1 asked.1.state) (first_pick core more) none in
      (by_state asked.1.state (λ moves. still asked (0, omega arith, refl) moves) parts.0, requests_rest more parts.1 (λ other at moves. still other (suc at.0, omega (arith, at.1), at.2) moves)) where
        by_state : (state : RequestState) → (state ≡ request.Moving → ⊥) → pick_for core asked.0 asked.1 state ≡ None → IsAtRest core asked.1 state
        by_state request.Queued still unpicked = queued_rests asked.0 asked.1 unpicked
        by_state request.Moving still unpicked = still refl
        by_state request.Ready still unpicked = tt
        by_state (request.Failed fault) still unpicked = tt

  -- so nothing is left to do
  pub at_rest : IsSettled core
  at_rest = record {
    no_tasks = all_none core.tasks no_task;
    no_cartridges = all_none core.recorders no_cartridge;
    requests_ = requests_rest core.requests nothing_picked (λ asked at moves.
        let served = fit.tasks_.served asked.0 asked.1 (lookup-from_Contains nat_eq_equiv asked.0 asked.1 core.requests fit.requests_.single at) moves in no_task served.0 served.1 served.2);
  }
