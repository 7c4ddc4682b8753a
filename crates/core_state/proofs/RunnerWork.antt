-- What the runner does of recorders are events too, and many of its events are a chain.
use Rattle.std.proofs.Common.{◌≡◌, ℕ, Bool, true, false, List, [], ◌∷◌, length, Option, Some, None, refl, sym, ap, subst, arith, inl}
use Rattle.std.specs.Prelude.{slice_get, not, ◌&&◌, if◌then◌else◌, is_some, nat_lt, ◌==◌}
use Rattle.std.specs.Option.{ForSome, option_map, option_and_then}
use Rattle.mss_base.specs.Firsts.{where_so, ◌or◌}
use Rattle.victim_choice.specs.declared.choose.Candidate.{Candidate}
use Rattle.fault_queue.specs.declared.queue.Request.{Request}
use Rattle.fault_queue.specs.declared.queue.RequestState.{RequestState}
use Rattle.fault_queue.specs.declared.queue.RequestState.TheVariants as request
use Rattle.fault_queue.specs.Requests.{RequestsData, request_of}
use Rattle.transfers.specs.Copies.{target_unit}
use Rattle.transfers.specs.declared.transfer.Transfer.{Transfer}
use Rattle.transfers.specs.declared.transfer.TransferKind.{TransferKind}
use Rattle.transfers.specs.declared.transfer.TransferKind.TheVariants.{StageBlank, StageCartridge, Destage}
use Rattle.volume_table.specs.Listed.{row_in_list}
use Rattle.shown_volumes.specs.Sound.{frame_in}
use Rattle.cartridge_store.specs.Places.{place_of}
use Rattle.core_state.specs.declared.task.Task.{Task}
use Rattle.core_state.specs.declared.rule.WorkRule.{WorkRule}
use Rattle.core_state.specs.declared.rule.WorkRule.TheVariants as work
use Rattle.core_state.specs.CoreValue.{CoreData}
use Rattle.core_state.specs.Pins.{candidates, free_frame, is_moving, page_of}
use Rattle.core_state.specs.WorkRules.{task_of, held_in, work_rule, transfer_of, stopped_rule, return_rule, pick_on, pick_for, first_pick, pick_rule, abandon_rule, carry_for, carry_rule, copy_rule, end_rule, free_rule, assign_rule, task_rule, is_within, is_in_cell, needs_cartridge}
use Rattle.core_state.specs.WorkEvents.{WorkDoes, WorkEvent, TaskDoes, WithTask, EndsIt, TellsEnd}
use Rattle.core_state.specs.Devices.{SyncUnit}
use Rattle.core_state.specs.Chains.{IsEvent, IsChain, without_copy}
use Rattle.core_state.proofs.Runner.{World, Asked, calls, works, step, steps_of, world_after, work_step, task_step, end_it, take_first}
use Rattle.core_state.proofs.RuleWalks.{nothing, this, either, where_test, if_test, mapped, chained, found}
use Rattle.core_state.proofs.RunnerEvents.{still, same, rows, call_is_event}

-- the first place of each list
abbrev pub first_place : List Candidate → ℕ → Type 0
first_place candidates place = place ≡ 0

-- a rule of a task where there is one, and the chooser's where there are candidates
abbrev Fits : CoreData → Option Task → WorkRule → Type 0
Fits core task (work.PicksVictim h) = is_some (slice_get (candidates core) 0) ≡ true
Fits core task work.Abandons = is_some task ≡ true
Fits core task (work.Copies t) = is_some task ≡ true
Fits core task (work.Ends t) = is_some task ≡ true
Fits core task (work.Frees volume page) = is_some task ≡ true
Fits core task (work.Assigns volume page) = is_some task ≡ true
Fits core task _ = Unit {0}

module _ (core : CoreData) (task : Option Task) where
  abbrev P : WorkRule → Type 0
  P = Fits core task

  -- a list with candidates has a first one
  has_first : (cs : List Candidate) → nat_lt 0 (length cs) ≡ true → is_some (slice_get cs 0) ≡ true
  has_first [] e = absurd cc
  has_first (c ∷ cs) e = refl

  on_fits : (h : ℕ) (frame : Option ℕ) → ForSome (pick_on core h frame) P
  on_fits h (Some frame) = where_test P (not (is_moving core frame)) (work.Picks h frame) (λ _. tt)
  on_fits h None = either P (option_map (work.Picks h) (free_frame core)) _ (mapped P (λ (frame : ℕ). work.Picks h frame) (free_frame core) (λ _. tt))
      (where_test P (nat_lt 0 (length (candidates core))) (work.PicksVictim h) (has_first (candidates core)))

  for_fits : (h : ℕ) (r : Request) (state : RequestState) → ForSome (pick_for core h r state) P
  for_fits h r request.Queued = on_fits h (frame_in (row_in_list core.rows) r.volume (page_of r.cylinder))
  for_fits h r request.Moving = nothing P None refl
  for_fits h r request.Ready = nothing P None refl
  for_fits h r (request.Failed fault) = nothing P None refl

  first_fits : (requests : RequestsData) → ForSome (first_pick core requests) P
  first_fits [] = nothing P None refl
  first_fits (asked ∷ more) = either P (pick_for core asked.0 asked.1 asked.1.state) (first_pick core more) (for_fits asked.0 asked.1 asked.1.state) (first_fits more)

  module _ (there : is_some task ≡ true) (recorder : ℕ) where
    carry_fits : (cartridge : ℕ) (held : Option ℕ) → ForSome (carry_for core cartridge held) P
    carry_fits cartridge (Some other) = where_test P (not (other == cartridge)) (work.GivesBack other) (λ _. tt)
    carry_fits cartridge None = by_place (is_in_cell (place_of core.store cartridge))
      where
        by_place : (b : Bool) → ForSome (Some (if b then work.Fetches cartridge else work.IsIdle)) P
        by_place true = this P (work.Fetches cartridge) tt
        by_place false = this P work.IsIdle tt

    transfer_fits : (t : Transfer) → ForSome (carry_rule core recorder t or copy_rule t or end_rule t) P
    transfer_fits t = either P (carry_rule core recorder t) _ (if_test P (nat_lt t.next 19 && needs_cartridge t.kind) _ None (carry_fits t.cartridge (held_in core recorder)) (nothing P None refl))
        (either P (copy_rule t) (end_rule t) (where_test P (nat_lt t.next 19) (work.Copies t) (λ _. there)) (this P (work.Ends t) there))

    task_fits : (one : Task) → ForSome (task_rule core recorder one) P
    task_fits one =
        either P (abandon_rule one) _ (where_test P (is_some one.victim && one.touched && not (is_within one.transfer)) work.Abandons (λ _. there))
        (either P (option_and_then (λ t. carry_rule core recorder t or copy_rule t or end_rule t) (transfer_of core one)) _ (chained P (λ (t : Transfer). carry_rule core recorder t or copy_rule t or end_rule t) (transfer_of core one) transfer_fits)
        (either P (free_rule one) (assign_rule core one) (mapped P (λ (page : ℕ × ℕ). work.Frees page.0 page.1) one.victim (λ _. there))
        (mapped P (λ (r : Request). work.Assigns r.volume (page_of r.cylinder)) (request_of core.requests one.host) (λ _. there))))

  tasks_fit : (recorder : ℕ) (t : Option Task) → t ≡ task → ForSome (option_and_then (task_rule core recorder) t) P
  tasks_fit recorder None e = nothing P None refl
  tasks_fit recorder (Some one) e = task_fits (ap (λ (o : Option Task). is_some o) (sym e)) recorder one

work_fits : (core : CoreData) (recorder : ℕ) → Fits core (task_of core recorder) (work_rule core recorder)
unfolding work_rule
work_fits core recorder =
    let task = task_of core recorder in
    let P = Fits core task in
    found P _ work.IsIdle (
    either P (stopped_rule core) _ (mapped P (λ (fault : ℕ). work.IsStopped fault) core.stopped (λ _. tt))
    (either P (return_rule core recorder) _ (chained P (λ (cartridge : ℕ). where_so (not (is_some task)) (work.GivesBack cartridge)) (held_in core recorder) (λ cartridge. where_test P (not (is_some task)) (work.GivesBack cartridge) (λ _. tt)))
    (either P (pick_rule core recorder) _ (if_test P (is_some task) None (first_pick core core.requests) (nothing P None refl) (first_fits core task core.requests))
    (tasks_fit core task recorder task refl)))) tt

-- ---- what is done

module _ (core : CoreData) (recorder : ℕ) where
  takes : (h : ℕ) (o : Option Candidate) → slice_get (candidates core) 0 ≡ o → is_some o ≡ true → WorkDoes ⊥ first_place core recorder (work.PicksVictim h) (take_first core recorder h o).0 (take_first core recorder h o).1
  takes h None e some = absurd cc
  takes h (Some c) e some = (0, c, refl, e, (still core.site, refl, refl))

  ends : (task : Task) (kind : TransferKind) (t : Transfer) → TellsEnd ⊥ core recorder task kind t (end_it core recorder task kind t).0 (end_it core recorder task kind t).1
  ends task StageBlank t = (λ r is. rows core.site t.volume _ _, refl, refl)
  ends task StageCartridge t = (λ r is. rows core.site t.volume _ _, refl, refl)
  ends task Destage t = (λ r is. rows core.site t.volume _ _, refl, refl)

  -- the devices stay as they are in a sync too
  synced : (t : Transfer) → SyncUnit ⊥ (target_unit t) core.site core.site
  synced t = record { told = λ tl. absurd tl; later = omega arith; sound = refl }

  ends_at : (task : Task) (t : Transfer) → EndsIt ⊥ core recorder task t (end_it core recorder task t.kind t).0 (end_it core recorder task t.kind t).1
  ends_at task t = inl (core.site, synced t, ends task t.kind t)

  abandons : (t : Option Task) → task_of core recorder ≡ t → is_some t ≡ true → WorkDoes ⊥ first_place core recorder work.Abandons (task_step core recorder work.Abandons t).0 (task_step core recorder work.Abandons t).1
  abandons None is e = absurd cc
  abandons (Some task) is e = subst (λ (o : Option Task). WithTask o (λ one. TaskDoes ⊥ core recorder work.Abandons one (task_step core recorder work.Abandons (Some task)).0 (task_step core recorder work.Abandons (Some task)).1)) (sym is) (still core.site, refl, refl)

  copies : (x : Transfer) → (t : Option Task) → task_of core recorder ≡ t → is_some t ≡ true → WorkDoes ⊥ first_place core recorder (work.Copies x) (task_step core recorder (work.Copies x) t).0 (task_step core recorder (work.Copies x) t).1
  copies x None is e = absurd cc
  copies x (Some task) is e = subst (λ (o : Option Task). WithTask o (λ one. TaskDoes ⊥ core recorder (work.Copies x) one (task_step core recorder (work.Copies x) (Some task)).0 (task_step core recorder (work.Copies x) (Some task)).1)) (sym is) (refl, inl (record { written = λ tl. absurd tl; copied = λ tl. absurd tl; later = omega arith; sound = refl }, refl))

  frees : (volume page : ℕ) → (t : Option Task) → task_of core recorder ≡ t → is_some t ≡ true → WorkDoes ⊥ first_place core recorder (work.Frees volume page) (task_step core recorder (work.Frees volume page) t).0 (task_step core recorder (work.Frees volume page) t).1
  frees volume page None is e = absurd cc
  frees volume page (Some task) is e = subst (λ (o : Option Task). WithTask o (λ one. TaskDoes ⊥ core recorder (work.Frees volume page) one (task_step core recorder (work.Frees volume page) (Some task)).0 (task_step core recorder (work.Frees volume page) (Some task)).1)) (sym is) (λ r is. rows core.site volume _ _, refl, refl)

  assigns : (volume page : ℕ) → (t : Option Task) → task_of core recorder ≡ t → is_some t ≡ true → WorkDoes ⊥ first_place core recorder (work.Assigns volume page) (task_step core recorder (work.Assigns volume page) t).0 (task_step core recorder (work.Assigns volume page) t).1
  assigns volume page None is e = absurd cc
  assigns volume page (Some task) is e = subst (λ (o : Option Task). WithTask o (λ one. TaskDoes ⊥ core recorder (work.Assigns volume page) one (task_step core recorder (work.Assigns volume page) (Some task)).0 (task_step core recorder (work.Assigns volume page) (Some task)).1)) (sym is) (λ r is. rows core.site volume _ _, refl, refl)

  -- the answer of an end is the same whatever is copied
  ends_by : (x : Transfer) (task : Task) (kind : TransferKind) → WorkDoes ⊥ first_place core recorder (work.Ends x) (end_it core recorder task kind x).0 (end_it core recorder task kind x).1 ≡ WithTask (task_of core recorder) (λ one. TaskDoes ⊥ core recorder (work.Ends x) one (end_it core recorder task kind x).0 (end_it core recorder task kind x).1)
  ends_by x task StageBlank = refl
  ends_by x task StageCartridge = refl
  ends_by x task Destage = refl

  ends_it : (x : Transfer) (t : Option Task) → task_of core recorder ≡ t → is_some t ≡ true → WorkDoes ⊥ first_place core recorder (work.Ends x) (task_step core recorder (work.Ends x) t).0 (task_step core recorder (work.Ends x) t).1
  ends_it x None is e = absurd cc
  ends_it x (Some task) is e =
      coe 1 0 (i. ends_by x task x.kind i)
      (subst (λ (o : Option Task). WithTask o (λ one. TaskDoes ⊥ core recorder (work.Ends x) one (end_it core recorder task x.kind x).0 (end_it core recorder task x.kind x).1)) (sym is) (ends_at task x))

  work_does : (rule : WorkRule) → Fits core (task_of core recorder) rule → WorkDoes ⊥ first_place core recorder rule (work_step core recorder rule).0 (work_step core recorder rule).1
  work_does (work.IsStopped fault) f = (refl, same core)
  work_does work.IsIdle f = (refl, same core)
  work_does (work.GivesBack cartridge) f = (still core.site, refl, refl)
  work_does (work.Fetches cartridge) f = (still core.site, refl, refl)
  work_does (work.Picks h frame) f = (still core.site, refl, refl)
  work_does (work.PicksVictim h) f = takes h (slice_get (candidates core) 0) refl f
  work_does work.Abandons f = abandons (task_of core recorder) refl f
  work_does (work.Copies t) f = copies t (task_of core recorder) refl f
  work_does (work.Ends t) f = ends_it t (task_of core recorder) refl f
  work_does (work.Frees volume page) f = frees volume page (task_of core recorder) refl f
  work_does (work.Assigns volume page) f = assigns volume page (task_of core recorder) refl f

pub work_is_event : (core : CoreData) (recorder : ℕ) → WorkEvent ⊥ first_place core recorder (work_step core recorder (work_rule core recorder)).0 (work_step core recorder (work_rule core recorder)).1
work_is_event core recorder = work_does core recorder (work_rule core recorder) (work_fits core recorder)

step_is_event : (w : World) (asked : Asked) → IsEvent (without_copy ⊥ first_place) w.core (step w asked).0 (step w asked).1.core
step_is_event w (calls h call) = call_is_event w h call
step_is_event w (works recorder) = work_is_event w.core recorder

-- the runner's events are a chain
pub steps_are_chain : (w : World) (asked : List Asked) → IsChain (without_copy ⊥ first_place) w.core (steps_of w asked) (world_after w asked).core
steps_are_chain w [] = refl
steps_are_chain w (one ∷ more) = ((step w one).1.core, step_is_event w one, steps_are_chain (step w one).1 more)
