-- In a settled core each recorder is idle.
use Rattle.std.proofs.Common.{◌≡◌, ◌⊎◌, inl, inr, ℕ, zero, suc, ◌<◌, nat_lt, Bool, true, false, not, ◌||◌, List, [], ◌∷◌, length, slice_index_or, Option, Some, None, is_some, option_map, option_and_then, unwrap_or, filter_map, refl, ◌∙◌, ap, arith}
use Rattle.std.specs.Prelude.{if◌then◌else◌, IsSome}
use Rattle.std.specs.List.{All, cons_option}
use Rattle.std.proofs.lemmas.Bool.{and_parts, false≢true}
use Rattle.mss_base.specs.Firsts.{◌or◌, where_so}
use Rattle.mss_base.proofs.FirstFacts.{all_none, both_none, where_none}
use Rattle.fault_queue.specs.declared.queue.RequestState.{RequestState}
use Rattle.fault_queue.specs.declared.queue.RequestState.TheVariants as request
use Rattle.fault_queue.specs.Requests.{RequestsData}
use Rattle.core_state.specs.declared.rule.WorkRule.TheVariants.{IsStopped, IsIdle, GivesBack, Picks, PicksVictim}
use Rattle.core_state.specs.CoreValue.{CoreData}
use Rattle.core_state.specs.Pins.{owner_at, is_moving, is_bound, is_held, is_free, free_frame, candidate, candidates, candidate_on}
use Rattle.core_state.specs.WorkRules.{task_of, held_in, stopped_rule, return_rule, pick_on, pick_for, first_pick, pick_rule, task_rule, work_rule}
use Rattle.core_state.specs.Chains.{IsAtRest, AllRequests, AllNone, IsSettled}
use Rattle.core_progress.specs.CoreFits.{CoreFits}

none_at : {A : Type 0} (xs : List (Option A)) → AllNone xs → (i : ℕ) → slice_index_or xs i None ≡ None
none_at [] all i = refl
none_at (x ∷ xs) all zero = all.0
none_at (x ∷ xs) all (suc i) = none_at xs all.1 i

module _ (core : CoreData) (fit : CoreFits core) (settled : IsSettled core) where
  abbrev Pinned : Type 0
  Pinned = (frame : ℕ) → frame < core.config.frames → IsSome (owner_at core.owners frame) × ((is_bound core frame ≡ true) ⊎ (is_held core frame ≡ true))

  none_free : Pinned → free_frame core ≡ None
  none_free pinned = all_none core.config.frames (λ frame. where_so (is_free core frame) frame) λ frame low.
      where_none (is_free core frame) frame λ free. owned (owner_at core.owners frame) (pinned frame low).0 (and_parts (not (is_some (owner_at core.owners frame))) (not (is_moving core frame)) free).0 where
        owned : (o : Option (ℕ × ℕ)) → IsSome o → not (is_some o) ≡ true → ⊥
        owned None some free = false≢true some
        owned (Some page) some free = false≢true free

  no_candidate : (frame : ℕ) → (is_bound core frame ≡ true) ⊎ (is_held core frame ≡ true) → candidate core frame ≡ None
  no_candidate frame = by_tests (is_bound core frame) (is_moving core frame) (is_held core frame) where
    by_tests : (a b c : Bool) → (a ≡ true) ⊎ (c ≡ true) → (if a || b || c then None else option_map (candidate_on core frame) (owner_at core.owners frame)) ≡ None
    by_tests true b c pin = refl
    by_tests false true c pin = refl
    by_tests false false true pin = refl
    by_tests false false false (inl is) = absurd (false≢true is)
    by_tests false false false (inr is) = absurd (false≢true is)

  no_candidates : Pinned → candidates core ≡ []
  no_candidates pinned = among core.recency fit.frames_.known where
    among : (xs : List ℕ) → All (λ frame. frame < core.config.frames) xs → filter_map (candidate core) xs ≡ []
    among [] all = refl
    among (x ∷ xs) all = ap (λ o. cons_option o (filter_map (candidate core) xs)) (no_candidate x (pinned x (all 0 0 (omega arith))).1) ∙ among xs (λ i d within. all (suc i) d (omega (arith, within)))

  none_picked : (requests : RequestsData) → AllRequests (λ r. IsAtRest core r r.state) requests → first_pick core requests ≡ None
  none_picked [] all = refl
  none_picked (asked ∷ more) all = both_none (pick_for core asked.0 asked.1 asked.1.state) (first_pick core more) (by_state asked.1.state all.0) (none_picked more all.1) where
    by_state : (state : RequestState) → IsAtRest core asked.1 state → pick_for core asked.0 asked.1 state ≡ None
    by_state request.Queued rest = ap (pick_on core asked.0) rest.0
        ∙ both_none (option_map (Picks asked.0) (free_frame core)) (where_so (nat_lt 0 (length (candidates core))) (PicksVictim asked.0)) (ap (option_map (Picks asked.0)) (none_free rest.1)) (ap (λ (xs : List _). where_so (nat_lt 0 (length xs)) (PicksVictim asked.0)) (no_candidates rest.1))
    by_state request.Moving rest = refl
    by_state request.Ready rest = refl
    by_state (request.Failed fault) rest = refl

  pub recorders_idle : core.stopped ≡ None → (i : ℕ) → work_rule core i ≡ IsIdle
  unfolding work_rule
  recorders_idle goes i =
      let taskless : task_of core i ≡ None = none_at core.tasks settled.no_tasks i in
      let empty : held_in core i ≡ None = none_at core.recorders settled.no_cartridges i in
      ap (λ o. unwrap_or o IsIdle)
      (both_none (stopped_rule core) (return_rule core i or pick_rule core i or option_and_then (task_rule core i) (task_of core i)) (ap (option_map IsStopped) goes)
      (both_none (return_rule core i) (pick_rule core i or option_and_then (task_rule core i) (task_of core i)) (ap (option_and_then (λ cartridge. where_so (not (is_some (task_of core i))) (GivesBack cartridge))) empty)
      (both_none (pick_rule core i) (option_and_then (task_rule core i) (task_of core i)) (ap (λ o. if is_some o then None else first_pick core core.requests) taskless ∙ none_picked core.requests settled.requests_)
      (ap (option_and_then (task_rule core i)) taskless))))
