-- What a recorder does for its own task gives no other recorder anything to do.
use Rattle.std.proofs.Common.{◌≡◌, ◌≢◌, ◌⊎◌, inl, inr, ℕ, suc, nat_lt, Bool, true, false, not, ◌&&◌, ◌||◌, cond, List, [], ◌∷◌, length, Option, Some, None, refl, sym, ◌∙◌, ap, arith, get_or-set_same, get_or-set_other}
use Rattle.std.specs.Prelude.{nat_eq, is_some, filter_map, slice_set}
use Rattle.std.specs.Option.{option_map, option_and_then, unwrap_or}
use Rattle.std.specs.List.{list_any, cons_option}
use Rattle.std.specs.Map.{set_value}
use Rattle.std.proofs.lemmas.Bool.{false≢true, cases_lt, lt-ltb}
use Rattle.std.proofs.lemmas.Bool.Decides.{eqb_tells}
use Rattle.std.proofs.lemmas.List.{get_or_past}
use Rattle.mss_base.specs.Firsts.{◌or◌, where_so}
use Rattle.mss_base.proofs.FirstFacts.{or_none, both_none, none_below, all_none, none_where, where_none}
use Rattle.fault_queue.specs.declared.queue.Request.{Request}
use Rattle.fault_queue.specs.declared.queue.RequestState.{RequestState}
use Rattle.fault_queue.specs.declared.queue.RequestState.TheVariants.{Moving, Queued}
use Rattle.fault_queue.specs.Requests.{RequestsData, request_of, in_state, IsOnce}
use Rattle.cartridge_store.specs.declared.store.Place.{Place}
use Rattle.cartridge_store.specs.declared.store.Place.TheVariants.{Recorder}
use Rattle.cartridge_store.specs.Places.{place_of, home_of, with_place}
use Rattle.transfers.specs.declared.transfer.Transfer.{Transfer}
use Rattle.victim_choice.specs.declared.choose.Candidate.{Candidate}
use Rattle.core_state.specs.declared.session.Event.TheVariants.{Work}
use Rattle.core_state.specs.declared.task.Task.{Task}
use Rattle.core_state.specs.declared.rule.WorkRule.{WorkRule}
use Rattle.core_state.specs.declared.rule.WorkRule.TheVariants.{IsIdle, GivesBack, Picks, PicksVictim, Fetches, Assigns}
use Rattle.core_state.specs.Beside.{held_at}
use Rattle.core_state.specs.CoreValue.{CoreData, DevicesSeen}
use Rattle.core_state.specs.Pins.{moves_at, owner_at, page_of, on_page, is_page, asked_page, is_ready, is_ready_on, is_bound, is_moving, is_held, is_free, free_frame, candidate_on, candidate, candidates}
use Rattle.core_state.specs.Steps.{with_event, with_task, with_fetched_cartridge, with_picked_request}
use Rattle.core_state.specs.WorkRules.{task_of, held_in, destaging, staging, transfer_of, first_pick, pick_for, pick_on, needs_cartridge, is_in_cell, carry_for, carry_rule, assign_rule, task_rule, work_rule}
use Rattle.core_state.proofs.TaskLists.{task_left}
use Rattle.quiet_events.proofs.IdleRules.{PicksNoMore, acts, at_rest, idle, none_of, unpicked, works_alike}
use Rattle.quiet_events.proofs.RequestsStill.{asked_still, queue_is, any_still}

-- ---- the cores that are left

module _ (core : CoreData) (site : DevicesSeen) (n : ℕ) where
  -- the recorder fetched a cartridge
  abbrev pub fetched : ℕ → CoreData
  fetched cartridge = with_event (Work n) (with_fetched_cartridge n cartridge (record core { site = site }))

  -- its task is this one now
  abbrev pub copied : Task → CoreData
  copied task = with_event (Work n) (with_task n (Some task) (record core { site = site }))

  -- it took a host's request
  abbrev pub picked : ℕ → ℕ → Option (ℕ × ℕ) → CoreData
  picked h frame victim = with_event (Work n) (with_picked_request n h frame victim (record core { site = site }))

-- ---- lists

held_left : (recorders : List (Option ℕ)) (n : ℕ) (o : Option ℕ) (m : ℕ) → m ≢ n → held_at (slice_set recorders n o) m ≡ held_at recorders m
held_left recorders n o m other = get_or-set_other recorders n m o None other

-- a frame in use is so still
moves_still : (moving : List Bool) (frame f : ℕ) → moves_at moving f ≡ true → moves_at (slice_set moving frame true) f ≡ true
moves_still moving frame f moves = elim (cases_lt f (length moving)) [
  | inl within ↦ elim (eqb_tells f frame) [
    | inl e ↦ ap (λ (k : ℕ). moves_at (slice_set moving k true) f) (sym e.1) ∙ get_or-set_same moving f true false within
    | inr e ↦ get_or-set_other moving frame f true false e.1 ∙ moves
  ]
  | inr past ↦ absurd (false≢true (sym (get_or_past moving f false past) ∙ moves))
]

-- a cartridge in no cell is in none when another, or itself, comes to a recorder
in_no_cell : (store : List Place) (cartridge c n : ℕ) → is_in_cell (place_of store c) ≡ false → is_in_cell (place_of (with_place cartridge (Recorder n) store) c) ≡ false
in_no_cell store cartridge c n out = elim (cases_lt c (length store)) [
  | inl within ↦ elim (eqb_tells c cartridge) [
    | inl e ↦ ap (λ (k : ℕ). is_in_cell (place_of (with_place k (Recorder n) store) c)) (sym e.1) ∙ ap is_in_cell (get_or-set_same store c (Recorder n) (home_of c) within)
    | inr e ↦ ap is_in_cell (get_or-set_other store cartridge c (Recorder n) (home_of c) e.1) ∙ out
  ]
  | inr past ↦ absurd (false≢true (sym out ∙ ap is_in_cell (get_or_past store c (home_of c) past)))
]

-- nothing is picked, where a recorder with a task picks none anyway
unless : (b : Bool) (x y : Option WorkRule) → (x ≡ None → y ≡ None) → cond b None x ≡ None → cond b None y ≡ None
unless true x y on none = refl
unless false x y on none = on none

-- ---- after a copied track, and a fetched cartridge

module _ (core : CoreData) (site : DevicesSeen) (n other : ℕ) (ne : other ≢ n) where
  module _ (task : Task) where
    abbrev left : CoreData
    left = copied core site n task

    task_same : task_of left other ≡ task_of core other
    task_same = task_left core.tasks n (Some task) other ne

    picks_none : first_pick core core.requests ≡ None → first_pick left core.requests ≡ None
    picks_none none = none_of core left (record { rows = refl; frames = pick_still }) core.requests none
      where
        pick_still : (h : ℕ) (o : Option ℕ) → pick_on core h o ≡ None → pick_on left h o ≡ None
        pick_still h (Some frame) none = none
        pick_still h None none = none

    pub copy_leaves : work_rule core other ≡ IsIdle → work_rule left other ≡ IsIdle
    copy_leaves is =
        let rest = at_rest core other is in
        idle left other record {
          going = rest.going;
          returns = ap (λ (o : Option Task). option_and_then (λ cartridge. where_so (not (is_some o)) (GivesBack cartridge)) (held_in core other)) task_same ∙ rest.returns;
          picks = ap (λ (o : Option Task). cond (is_some o) None (first_pick left core.requests)) task_same ∙ unless (is_some (task_of core other)) (first_pick core core.requests) (first_pick left core.requests) picks_none rest.picks;
          works = ap (λ (o : Option Task). unwrap_or (option_and_then (task_rule left other) o) IsIdle) task_same
              ∙ works_alike core left other (task_of core other) (λ t at. record { transfer_ = refl; carry = λ t. inl refl; assign = refl }) rest.works;
        }

  module _ (cartridge : ℕ) where
    abbrev now : CoreData
    now = fetched core site n cartridge

    held_same : held_in now other ≡ held_in core other
    held_same = held_left core.recorders n (Some cartridge) other ne

    still_none : first_pick core core.requests ≡ None → first_pick now core.requests ≡ None
    still_none none = none_of core now (record { rows = refl; frames = pick_still }) core.requests none
      where
        pick_still : (h : ℕ) (o : Option ℕ) → pick_on core h o ≡ None → pick_on now h o ≡ None
        pick_still h (Some frame) none = none
        pick_still h None none = none

    -- a cartridge to carry is where it was, or was fetched in place of staying in its cell
    carried : (t : Transfer) → (carry_rule now other t ≡ carry_rule core other t) ⊎ ((x : WorkRule) × (carry_rule core other t ≡ Some x) × (acts x ≡ true))
    carried t = by (nat_lt t.next 19 && needs_cartridge t.kind)
      where
        in_cell : (b : Bool) → is_in_cell (place_of core.store t.cartridge) ≡ b
            → (Some (cond (is_in_cell (place_of now.store t.cartridge)) (Fetches t.cartridge) IsIdle) ≡ Some (cond b (Fetches t.cartridge) IsIdle))
            ⊎ ((x : WorkRule) × (Some (cond b (Fetches t.cartridge) IsIdle) ≡ Some x) × (acts x ≡ true))
        in_cell true is = inr (Fetches t.cartridge, refl, refl)
        in_cell false is = inl (ap (λ (b : Bool). Some (cond b (Fetches t.cartridge) IsIdle)) (in_no_cell core.store cartridge t.cartridge n is))

        for_held : (o : Option ℕ) → (carry_for now t.cartridge o ≡ carry_for core t.cartridge o) ⊎ ((x : WorkRule) × (carry_for core t.cartridge o ≡ Some x) × (acts x ≡ true))
        for_held (Some c) = inl refl
        for_held None = in_cell (is_in_cell (place_of core.store t.cartridge)) refl

        by : (b : Bool) → (cond b (carry_for now t.cartridge (held_in now other)) None ≡ cond b (carry_for core t.cartridge (held_in core other)) None)
            ⊎ ((x : WorkRule) × (cond b (carry_for core t.cartridge (held_in core other)) None ≡ Some x) × (acts x ≡ true))
        by false = inl refl
        by true = elim (for_held (held_in core other)) [
          | inl same ↦ inl (ap (carry_for now t.cartridge) held_same ∙ same)
          | inr acting ↦ inr acting
        ]

    pub fetch_leaves : work_rule core other ≡ IsIdle → work_rule now other ≡ IsIdle
    fetch_leaves is =
        let rest = at_rest core other is in
        idle now other record {
          going = rest.going;
          returns = ap (option_and_then (λ c. where_so (not (is_some (task_of core other))) (GivesBack c))) held_same ∙ rest.returns;
          picks = unless (is_some (task_of core other)) (first_pick core core.requests) (first_pick now core.requests) still_none rest.picks;
          works = works_alike core now other (task_of core other) (λ t at. record { transfer_ = refl; carry = carried; assign = refl }) rest.works;
        }

-- ---- after a request was taken

module _ (core : CoreData) (site : DevicesSeen) (n h frame : ℕ) (victim : Option (ℕ × ℕ)) (once : IsOnce core.requests) (q : Request) (asked : request_of core.requests h ≡ Some q) (queued : q.state ≡ Queued) where
  abbrev then_ : CoreData
  then_ = picked core site n h frame victim

  held_still : (f : ℕ) → is_held core f ≡ true → is_held then_ f ≡ true
  held_still f = by (owner_at core.owners f)
    where
      by : (o : Option (ℕ × ℕ)) → on_page (λ page. list_any (λ e. is_ready_on page e.1) core.requests) o ≡ true → on_page (λ page. list_any (λ e. is_ready_on page e.1) then_.requests) o ≡ true
      by None held = absurd (false≢true held)
      by (Some page) held =
          ap (list_any (λ e. is_ready_on page e.1)) (queue_is core.requests h q Moving asked)
          ∙ any_still (is_ready_on page) h q (in_state Moving q) core.requests asked (ap (λ (s : RequestState). is_ready s && is_page (asked_page q) page) queued) held

  candidate_none : (f : ℕ) → candidate core f ≡ None → candidate then_ f ≡ None
  candidate_none f none = by (is_bound core f) (is_moving core f) (is_held core f) (is_moving then_ f) (is_held then_ f) (owner_at core.owners f) (moves_still core.moving frame f) (held_still f) none
    where
      nothing_ : (b : Bool) → cond b None (option_map (candidate_on then_ f) None) ≡ None
      nothing_ true = refl
      nothing_ false = refl

      by : (b m k m' k' : Bool) (o : Option (ℕ × ℕ)) → (m ≡ true → m' ≡ true) → (k ≡ true → k' ≡ true) → cond (b || m || k) None (option_map (candidate_on core f) o) ≡ None
          → cond (b || m' || k') None (option_map (candidate_on then_ f) o) ≡ None
      by b m k m' k' None moves holds none = nothing_ (b || m' || k')
      by true m k m' k' (Some page) moves holds none = refl
      by false true k m' k' (Some page) moves holds none = ap (λ (b : Bool). cond (b || k') None (Some (candidate_on then_ f page))) (moves refl)
      by false false true true k' (Some page) moves holds none = refl
      by false false true false k' (Some page) moves holds none = ap (λ (b : Bool). cond b None (Some (candidate_on then_ f page))) (holds refl)
      by false false false m' k' (Some page) moves holds none = absurd cc

  candidates_none : (xs : List ℕ) → filter_map (candidate core) xs ≡ [] → filter_map (candidate then_) xs ≡ []
  candidates_none [] none = refl
  candidates_none (f ∷ xs) none =
      let parts = both (candidate core f) (filter_map (candidate core) xs) none in
      ap (λ (o : Option Candidate). cons_option o (filter_map (candidate then_) xs)) (candidate_none f parts.0) ∙ candidates_none xs parts.1
    where
      both : (o : Option Candidate) (cs : List Candidate) → cons_option o cs ≡ [] → (o ≡ None) × (cs ≡ [])
      both None cs none = (refl, none)
      both (Some c) cs none = absurd cc

  free_none : free_frame core ≡ None → free_frame then_ ≡ None
  free_none none = all_none core.config.frames (λ f. where_so (is_free then_ f) f) (λ f below.
      where_none (is_free then_ f) f (λ free. taken f (none_where (is_free core f) f (none_below core.config.frames (λ f. where_so (is_free core f) f) none f below)) free))
    where
      parts : (a m m' : Bool) → (m ≡ true → m' ≡ true) → (not a && not m) ≡ false → (not a && not m') ≡ true → ⊥
      parts true m m' moves is free = false≢true free
      parts false true m' moves is free = false≢true (sym (ap not (moves refl)) ∙ free)
      parts false false m' moves is free = false≢true (sym is)

      taken : (f : ℕ) → is_free core f ≡ false → is_free then_ f ≡ true → ⊥
      taken f is free = parts (is_some (owner_at core.owners f)) (is_moving core f) (is_moving then_ f) (moves_still core.moving frame f) is free

  no_more : PicksNoMore core then_
  no_more = record { rows = refl; frames = pick_still }
    where
      unfree : (g : ℕ) (o : Option ℕ) → option_map (Picks g) o ≡ None → o ≡ None
      unfree g None none = refl
      unfree g (Some f) none = absurd cc

      empty : (g : ℕ) (cs : List Candidate) → where_so (nat_lt 0 (length cs)) (PicksVictim g) ≡ None → cs ≡ []
      empty g [] none = refl
      empty g (c ∷ cs) none = absurd (false≢true (sym (none_where (nat_lt 0 (length (c ∷ cs))) (PicksVictim g) none) ∙ lt-ltb 0 (suc (length cs)) (omega arith)))

      in_use : (b b' : Bool) (x : WorkRule) → (b ≡ true → b' ≡ true) → where_so (not b) x ≡ None → where_so (not b') x ≡ None
      in_use true b' x moves none = ap (λ (b : Bool). where_so (not b) x) (moves refl)
      in_use false b' x moves none = absurd cc

      pick_still : (g : ℕ) (o : Option ℕ) → pick_on core g o ≡ None → pick_on then_ g o ≡ None
      pick_still g (Some f) none = in_use (is_moving core f) (is_moving then_ f) (Picks g f) (moves_still core.moving frame f) none
      pick_still g None none =
          let parts = or_none (option_map (Picks g) (free_frame core)) (where_so (nat_lt 0 (length (candidates core))) (PicksVictim g)) none in
          both_none (option_map (Picks g) (free_frame then_)) (where_so (nat_lt 0 (length (candidates then_))) (PicksVictim g))
          (ap (option_map (Picks g)) (free_none (unfree g (free_frame core) parts.0)))
          (ap (λ (cs : List Candidate). where_so (nat_lt 0 (length cs)) (PicksVictim g)) (candidates_none core.recency (empty g (candidates core) parts.1)))

  -- the queue with the request that is served now
  queue_none : (requests : RequestsData) → first_pick core requests ≡ None → first_pick then_ (set_value (nat_eq h) requests (in_state Moving q)) ≡ None
  queue_none [] none = refl
  queue_none (e ∷ es) none =
      let parts = or_none (pick_for core e.0 e.1 e.1.state) (first_pick core es) none in
      by (nat_eq h e.0) parts.0 (queue_none es parts.1) (none_of core then_ no_more es parts.1)
    where
      by : (b : Bool) → pick_for core e.0 e.1 e.1.state ≡ None → first_pick then_ (set_value (nat_eq h) es (in_state Moving q)) ≡ None → first_pick then_ es ≡ None
          → first_pick then_ (cond b ((e.0, in_state Moving q) ∷ es) (e ∷ set_value (nat_eq h) es (in_state Moving q))) ≡ None
      by true here more rest = rest
      by false here more rest =
          both_none (pick_for then_ e.0 e.1 e.1.state) (first_pick then_ (set_value (nat_eq h) es (in_state Moving q))) (unpicked core then_ no_more e.0 e.1 e.1.state here) more

  picks_none_then : first_pick core core.requests ≡ None → first_pick then_ then_.requests ≡ None
  picks_none_then none = ap (first_pick then_) (queue_is core.requests h q Moving asked) ∙ queue_none core.requests none

  -- each task's request is for what it was
  staged_alike : (task : Task) → option_and_then (staging core.rows task.frame) (request_of then_.requests task.host) ≡ option_and_then (staging core.rows task.frame) (request_of core.requests task.host)
  staged_alike task = asked_still core.requests once h Moving (λ a b. option_and_then (staging core.rows task.frame) b ≡ option_and_then (staging core.rows task.frame) a) (λ o. refl) (λ q. refl) task.host

  transfer_alike : (task : Task) → transfer_of then_ task ≡ transfer_of core task
  transfer_alike task = ap (λ (o : Option Transfer). task.transfer or (elim task.victim [ Some page ↦ destaging core.rows task.frame page | None ↦ o ])) (staged_alike task)

  assigned_alike : (task : Task) → assign_rule then_ task ≡ assign_rule core task
  assigned_alike task = asked_still core.requests once h Moving (λ a b. option_map (λ r. Assigns r.volume (page_of r.cylinder)) b ≡ option_map (λ r. Assigns r.volume (page_of r.cylinder)) a) (λ o. refl) (λ q. refl) task.host

  module _ (other : ℕ) (ne : other ≢ n) where
    abbrev new_task : Task
    new_task = record { host = h; frame = frame; victim = victim; touched = false; transfer = None }

    same_task : task_of then_ other ≡ task_of core other
    same_task = task_left core.tasks n (Some new_task) other ne

    pub pick_leaves : work_rule core other ≡ IsIdle → work_rule then_ other ≡ IsIdle
    pick_leaves is =
        let rest = at_rest core other is in
        idle then_ other record {
          going = rest.going;
          returns = ap (λ (o : Option Task). option_and_then (λ cartridge. where_so (not (is_some o)) (GivesBack cartridge)) (held_in core other)) same_task ∙ rest.returns;
          picks = ap (λ (o : Option Task). cond (is_some o) None (first_pick then_ then_.requests)) same_task ∙ unless (is_some (task_of core other)) (first_pick core core.requests) (first_pick then_ then_.requests) picks_none_then rest.picks;
          works = ap (λ (o : Option Task). unwrap_or (option_and_then (task_rule then_ other) o) IsIdle) same_task
              ∙ works_alike core then_ other (task_of core other) (λ task at. record { transfer_ = transfer_alike task; carry = λ t. inl refl; assign = assigned_alike task }) rest.works;
        }
