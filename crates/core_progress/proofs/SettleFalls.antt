-- An event of a recorder that does something leaves less to do, and no more of a run.
use Rattle.std.proofs.Common.{◌≡◌, inl, inr, ℕ, suc, ◌-◌, ◌<◌, ◌≤◌, ◌==◌, nat_lt, Bool, true, false, not, ◌&&◌, List, [], ◌∷◌, length, slice_get, Option, Some, None, is_some, option_map, option_and_then, refl, sym, ◌∙◌, ap, ap₂, subst, arith}
use Rattle.std.specs.Prelude.{if◌then◌else◌, Contains, IsSome}
use Rattle.std.specs.Option.{ForSome}
use Rattle.std.proofs.lemmas.Bool.{and_parts, and_right, not-true, both_ways, ltb-true, ltb-false, false≢true}
use Rattle.std.proofs.lemmas.Cmp.{nat_eq_equiv}
use Rattle.std.proofs.lemmas.Map.Views.{lookup-from_Contains}
use Rattle.mss_base.specs.Firsts.{◌or◌, where_so}
use Rattle.mss_base.proofs.FirstFacts.{or_none, map_none, none_where}
use Rattle.volume_table.specs.Row.{RowValue, frame_of, state_of}
use Rattle.volume_table.specs.Listed.{row_in_list}
use Rattle.shown_volumes.specs.Sound.{frame_in}
use Rattle.volume_table.specs.declared.changes.Change.TheVariants as change
use Rattle.fault_queue.specs.declared.queue.Request.{Request}
use Rattle.fault_queue.specs.declared.queue.RequestState.{RequestState}
use Rattle.fault_queue.specs.declared.queue.RequestState.TheVariants as request
use Rattle.fault_queue.specs.Requests.{RequestsData, request_of, in_state, with_state}
use Rattle.transfers.specs.Dues.{due_state}
use Rattle.transfers.specs.declared.transfer.Transfer.{Transfer}
use Rattle.transfers.specs.declared.transfer.TransferKind.{TransferKind}
use Rattle.transfers.specs.declared.transfer.TransferKind.TheVariants.{StageBlank, StageCartridge, Destage}
use Rattle.victim_choice.specs.declared.choose.Candidate.{Candidate}
use Rattle.cartridge_store.specs.Places.{place_of}
use Rattle.core_state.specs.declared.task.Task.{Task}
use Rattle.core_state.specs.declared.rule.WorkKind.{WorkKind}
use Rattle.core_state.specs.declared.rule.WorkAnswer.TheVariants.{Did}
use Rattle.core_state.specs.declared.rule.WorkRule.{WorkRule}
use Rattle.core_state.specs.declared.rule.WorkRule.TheVariants.{IsStopped, IsIdle, GivesBack, Picks, PicksVictim, Abandons, Fetches, Copies, Ends, Frees, Assigns}
use Rattle.core_state.specs.CoreValue.{CoreData, DevicesSeen}
use Rattle.core_state.specs.IsCore.{IsCore}
use Rattle.core_state.specs.Pins.{is_ready, page_of, state_of_row, state_in, is_moving, free_frame, candidates, changed_in}
use Rattle.core_state.specs.WorkRules.{task_of, held_in, transfer, destaging, staging_kind, staging, next_transfer, transfer_of, stopped_rule, return_rule, pick_on, pick_for, first_pick, pick_rule, is_within, abandon_rule, needs_cartridge, is_in_cell, carry_for, carry_rule, copy_rule, end_rule, free_rule, assign_rule, task_rule, work_rule}
use Rattle.core_state.specs.WorkEvents.{WithTask, TaskDoes, TellsEnd, WorkDoes, WorkEvent}
use Rattle.core_state.proofs.RuleWalks.{some_is, none_some, nothing, this, where_test, found, either_then, mapped_at, chained_at}
use Rattle.core_progress.specs.CoreFits.{CoreFits}
use Rattle.core_progress.specs.WorkLeft.{copies_left, needed_cartridge, work_left, settle_left}
use Rattle.core_progress.proofs.Fits.{core_fits}
use Rattle.core_progress.proofs.OneRequest.{OnlyOne, one_stated}
use Rattle.core_progress.proofs.RunStays.{Keeps, KeepsFours, Never, requests_stay, request_goes, same_fours, within_states, within_rows, row_fours, all_fours, destaged_fours, staged_fours, freed_fours}
use Rattle.core_progress.proofs.WorkFalls.{picked_falls, ended_falls, abandoned_falls, copied_falls, destaged_falls, staged_falls, freed_falls, assigned_falls, work_falls, returned_falls, exchanged_falls, fetched_falls}

-- ---- the transfer of a task

mapped : {A : Type 0} (f : A → Transfer) (o : Option A) (t : Transfer) → option_map f o ≡ Some t → ((a : A) → (f a).next ≡ 0) → t.next ≡ 0
mapped f None t is zeros = absurd (none_some t is)
mapped f (Some a) t is zeros = ap (λ (u : Transfer). u.next) (sym (some_is (f a) t is)) ∙ zeros a

next_starts : (rows : List (Option RowValue)) (requests : RequestsData) (task : Task) (t : Transfer) → next_transfer rows requests task ≡ Some t → t.next ≡ 0
next_starts rows requests task t is = by_victim task.victim is where
  by_request : (o : Option Request) → option_and_then (staging rows task.frame) o ≡ Some t → t.next ≡ 0
  by_request None e = absurd (none_some t e)
  by_request (Some r) e = mapped (λ _. transfer rows (staging_kind (state_in rows r.volume r.cylinder)) r.volume r.cylinder task.frame) (frame_in (row_in_list rows) r.volume (page_of r.cylinder)) t e (λ a. refl)

  by_victim : (v : Option (ℕ × ℕ)) → (elim v [ Some page ↦ destaging rows task.frame page | None ↦ option_and_then (staging rows task.frame) (request_of requests task.host) ]) ≡ Some t → t.next ≡ 0
  by_victim (Some page) e = mapped (λ cylinder. transfer rows Destage page.0 cylinder task.frame) (slice_get (changed_in rows page) 0) t e (λ a. refl)
  by_victim None e = by_request (request_of requests task.host) e

copies_at : (core : CoreData) (task : Task) (t : Transfer) → transfer_of core task ≡ Some t → copies_left task.transfer ≡ 19 - t.next
copies_at core task t is = by_transfer task.transfer is where
  by_transfer : (o : Option Transfer) → (o or next_transfer core.rows core.requests task) ≡ Some t → copies_left o ≡ 19 - t.next
  by_transfer None e = let z : t.next ≡ 0 = next_starts core.rows core.requests task t e in omega (arith, z)
  by_transfer (Some u) e = ap (λ (w : Transfer). 19 - w.next) (some_is u t e)

all_copied : (core : CoreData) (task : Task) (t : Transfer) → transfer_of core task ≡ Some t → 19 ≤ t.next → task.transfer ≡ Some t
all_copied core task t is done = by_transfer task.transfer is where
  by_transfer : (o : Option Transfer) → (o or next_transfer core.rows core.requests task) ≡ Some t → o ≡ Some t
  by_transfer None e = absurd (let z : t.next ≡ 0 = next_starts core.rows core.requests task t e in omega (arith, z, done))
  by_transfer (Some u) e = e

pub ready_is : (state : RequestState) → is_ready state ≡ true → state ≡ request.Ready
ready_is request.Ready is = refl
ready_is request.Queued is = absurd (false≢true is)
ready_is request.Moving is = absurd (false≢true is)
ready_is (request.Failed fault) is = absurd (false≢true is)

-- ---- rows that are there

some_row : (o : Option RowValue) → IsSome o → (row : RowValue) × (o ≡ Some row)
some_row None is = absurd (false≢true is)
some_row (Some row) is = (row, refl)

row_of_frame : (rows : List (Option RowValue)) (page : ℕ × ℕ) (frame : ℕ) → frame_in (row_in_list rows) page.0 page.1 ≡ Some frame → (row : RowValue) × (row_in_list rows page.0 ≡ Some row)
row_of_frame rows page frame is = by_row (row_in_list rows page.0) is where
  by_row : (o : Option RowValue) → option_and_then (λ r. frame_of r page.1) o ≡ Some frame → (row : RowValue) × (o ≡ Some row)
  by_row None e = absurd (none_some frame e)
  by_row (Some row) e = (row, refl)

row_of_changed : (rows : List (Option RowValue)) (volume cylinder : ℕ) → state_in rows volume cylinder ≡ 4 → (row : RowValue) × (row_in_list rows volume ≡ Some row) × (state_of row cylinder ≡ 4) × (cylinder < length row.states)
row_of_changed rows volume cylinder is = by_row (row_in_list rows volume) is where
  by_row : (o : Option RowValue) → state_of_row o cylinder ≡ 4 → (row : RowValue) × (o ≡ Some row) × (state_of row cylinder ≡ 4) × (cylinder < length row.states)
  by_row None e = absurd (omega (arith, e))
  by_row (Some row) e = (row, refl, e, within_states row.states cylinder (omega (arith, e)))

-- ---- the rules, one after the other

module _ (tells : Type 0) (may : List Candidate → ℕ → Type 0) (core core' : CoreData) (i : ℕ) (kind : WorkKind) (kept : IsCore core) where
  fit : CoreFits core
  fit = core_fits core kept

  abbrev pub LessLeft : CoreData → Type 0
  LessLeft now = (i < core.config.recorders → settle_left now < settle_left core) × Keeps core now

  abbrev Falls : WorkRule → Type 0
  Falls x = WorkDoes tells may core i x (Did kind) core' → LessLeft core'

  abbrev Each : Option WorkRule → Type 0
  Each o = ForSome o Falls

  -- a place for its task, and one for its cartridge
  task_place : i < core.config.recorders → i < length core.tasks
  task_place low = subst (λ (n : ℕ). i < n) (sym kept.fit.long) low

  recorder_place : i < core.config.recorders → i < length core.recorders
  recorder_place low = subst (λ (n : ℕ). i < n) (sym kept.beside.long) low

  -- the core is this one then
  becomes : (now : CoreData) → core' ≡ now → (i < core.config.recorders → settle_left now < settle_left core) → Keeps core now → LessLeft core'
  becomes now is falls stays = subst LessLeft (sym is) (falls, stays)

  becomes_less : (now : CoreData) → core' ≡ now → now.config.recorders ≡ core.config.recorders → (i < length core.tasks → work_left now < work_left core) → Keeps core now → LessLeft core'
  becomes_less now is same falls stays = becomes now is (λ low. work_falls core now same (falls (task_place low))) stays

  -- requests and rows as they were
  idle_run : (now : CoreData) → now.history ≡ core.history → now.hosts ≡ core.hosts → now.requests ≡ core.requests → now.rows ≡ core.rows → Keeps core now
  idle_run now history hosts asked rows = requests_stay core now Never history hosts asked (same_fours core.rows now.rows rows) (λ j q has ready never. never)

  return_each : Each (return_rule core i)
  return_each =
      chained_at Falls (λ cartridge. where_so (not (is_some (task_of core i))) (GivesBack cartridge)) (held_in core i) λ cartridge holds.
      where_test Falls (not (is_some (task_of core i))) (GivesBack cartridge) λ free does.
      becomes _ does.2 (λ low. returned_falls core i (recorder_place low) low cartridge (no_task (task_of core i) free) holds) (idle_run _ refl refl refl refl) where
        no_task : (o : Option Task) → not (is_some o) ≡ true → o ≡ None
        no_task None e = refl
        no_task (Some task) e = absurd (false≢true e)

  -- a request that isn't Ready, in another state
  module _ (h : ℕ) (r : Request) (has : request_of core.requests h ≡ Some r) (unready : is_ready r.state ≡ false) where
    goes_run : (now : CoreData) (state : RequestState) → now.history ≡ core.history → now.hosts ≡ core.hosts
        → now.requests ≡ with_state h state core.requests → KeepsFours core.rows now.rows Never → Keeps core now
    goes_run now state history hosts asked rows =
        request_goes core now h r state history hosts has unready
        (subst (λ (q : RequestsData). OnlyOne core.requests q h (Some (in_state state r))) (sym asked) (one_stated core.requests h r state kept.requests_ has)) rows

  pick_each : Each (pick_rule core i)
  pick_each = by_task (task_of core i) refl where
    picks : (h : ℕ) (r : Request) → request_of core.requests h ≡ Some r → r.state ≡ request.Queued → task_of core i ≡ None → (o : Option ℕ) → Each (pick_on core h o)
    picks h r has queued free (Some frame) = where_test Falls (not (is_moving core frame)) (Picks h frame) λ _ does.
        becomes_less _ does.2 refl (λ there. picked_falls core i h r has there frame None free queued) (goes_run h r has (ap is_ready queued) _ request.Moving refl refl refl (same_fours core.rows core.rows refl))
    picks h r has queued free None =
        either_then Falls (option_map (Picks h) (free_frame core)) (where_so (nat_lt 0 (length (candidates core))) (PicksVictim h))
        (mapped_at Falls (Picks h) (free_frame core) λ frame _ does.
        becomes_less _ does.2 refl (λ there. picked_falls core i h r has there frame None free queued) (goes_run h r has (ap is_ready queued) _ request.Moving refl refl refl (same_fours core.rows core.rows refl))) λ _.
        where_test Falls (nat_lt 0 (length (candidates core))) (PicksVictim h) λ _ does.
        becomes_less _ (does.4).2 refl (λ there. picked_falls core i h r has there (does.1).frame (Some ((does.1).volume, (does.1).page)) free queued)
        (goes_run h r has (ap is_ready queued) _ request.Moving refl refl refl (same_fours core.rows core.rows refl))

    by_state : (h : ℕ) (r : Request) → request_of core.requests h ≡ Some r → task_of core i ≡ None → (state : RequestState) → r.state ≡ state → Each (pick_for core h r state)
    by_state h r has free request.Queued is = picks h r has is free (frame_in (row_in_list core.rows) r.volume (page_of r.cylinder))
    by_state h r has free request.Moving is = nothing Falls None refl
    by_state h r has free request.Ready is = nothing Falls None refl
    by_state h r has free (request.Failed fault) is = nothing Falls None refl

    all_picks : task_of core i ≡ None → (requests : RequestsData) → ((asked : ℕ × Request) → Contains requests asked → Contains core.requests asked) → Each (first_pick core requests)
    all_picks free [] inside = nothing Falls None refl
    all_picks free (asked ∷ more) inside =
        either_then Falls (pick_for core asked.0 asked.1 asked.1.state) (first_pick core more)
        (by_state asked.0 asked.1 (lookup-from_Contains nat_eq_equiv asked.0 asked.1 core.requests kept.requests_ (inside asked (0, omega arith, refl))) free asked.1.state refl) λ _.
        all_picks free more (λ other at. inside other (suc at.0, omega (arith, at.1), at.2))

    by_task : (o : Option Task) → task_of core i ≡ o → Each (if is_some o then None else first_pick core core.requests)
    by_task None free = all_picks free core.requests (λ asked at. at)
    by_task (Some task) works = nothing Falls None refl

  -- the task of the recorder, and its request
  module _ (task : Task) (works : task_of core i ≡ Some task) (r : Request) (has : request_of core.requests task.host ≡ Some r) (moving : r.state ≡ request.Moving) where
    of_task : (P : Task → Type 0) → WithTask (task_of core i) P → P task
    of_task P does = subst (λ (o : Option Task). WithTask o P) works does

    served : (now : CoreData) (state : RequestState) → now.history ≡ core.history → now.hosts ≡ core.hosts
        → now.requests ≡ with_state task.host state core.requests → KeepsFours core.rows now.rows Never → Keeps core now
    served = goes_run task.host r has (ap is_ready moving)

    abandon_each : Each (abandon_rule task)
    abandon_each = where_test Falls (is_some task.victim && task.touched && not (is_within task.transfer)) Abandons λ may_go does.
        let first = and_parts (is_some task.victim && task.touched) (not (is_within task.transfer)) may_go in
        let second = and_parts (is_some task.victim) task.touched first.0 in
        let page = taken task.victim second.0 in
        let now = of_task (λ u. TaskDoes tells core i Abandons u (Did kind) core') does in
        becomes_less _ now.2 refl (λ there. abandoned_falls core i task.host r has there task page.0 works refl moving page.1 second.1)
        (served _ request.Queued refl refl refl (same_fours core.rows core.rows refl)) where
          taken : (o : Option (ℕ × ℕ)) → is_some o ≡ true → (page : ℕ × ℕ) × (o ≡ Some page)
          taken None e = absurd (false≢true e)
          taken (Some page) e = (page, refl)

    -- the cartridge of the next copy
    needs : (t : Transfer) → transfer_of core task ≡ Some t → (nat_lt t.next 19 && needs_cartridge t.kind) ≡ true → needed_cartridge core task ≡ Some t.cartridge
    needs t is wants = ap (option_and_then (λ (u : Transfer). where_so (nat_lt u.next 19 && needs_cartridge u.kind) u.cartridge)) is ∙ ap (λ b. where_so b t.cartridge) wants

    carry_each : (t : Transfer) → transfer_of core task ≡ Some t → Each (carry_rule core i t)
    carry_each t is = by_need (nat_lt t.next 19 && needs_cartridge t.kind) refl where
      by_cell : (b : Bool) → held_in core i ≡ None → needed_cartridge core task ≡ Some t.cartridge → Each (Some (if b then Fetches t.cartridge else IsIdle))
      by_cell true empty wants = this Falls (Fetches t.cartridge) λ does. becomes _ does.2 (λ low. fetched_falls core i (recorder_place low) low task t.cartridge works empty wants) (idle_run _ refl refl refl refl)
      by_cell false empty wants = this Falls IsIdle λ does. absurd (let e = does.0 in cc)

      by_held : (o : Option ℕ) → held_in core i ≡ o → needed_cartridge core task ≡ Some t.cartridge → Each (carry_for core t.cartridge o)
      by_held (Some other) holds wants = where_test Falls (not (other == t.cartridge)) (GivesBack other) λ apart does.
          becomes _ does.2 (λ low. exchanged_falls core i (recorder_place low) low task t.cartridge other works holds wants (not-true (other == t.cartridge) apart)) (idle_run _ refl refl refl refl)
      by_held None empty wants = by_cell (is_in_cell (place_of core.store t.cartridge)) empty wants

      by_need : (b : Bool) → (nat_lt t.next 19 && needs_cartridge t.kind) ≡ b → Each (if b then carry_for core t.cartridge (held_in core i) else None)
      by_need true wants = by_held (held_in core i) refl (needs t is wants)
      by_need false wants = nothing Falls None refl

    copy_each : (t : Transfer) → transfer_of core task ≡ Some t → Each (copy_rule t)
    copy_each t is = where_test Falls (nat_lt t.next 19) (Copies t) λ within does.
        let now = of_task (λ u. TaskDoes tells core i (Copies t) u (Did kind) core') does in
        elim now.1 [
          | inl copied ↦ becomes_less _ copied.1 refl (λ there. copied_falls core i task t there works (copies_at core task t is) (ltb-true t.next 19 within)) (idle_run _ refl refl refl refl)
          | inr failed ↦ becomes_less _ failed.1 refl (λ there. ended_falls core i task.host r has there task (request.Failed core'.site.faults) works refl moving refl)
              (served _ (request.Failed core'.site.faults) refl refl refl (same_fours core.rows core.rows refl))
        ]

    -- a task that is touched and has copied all tracks is abandoned
    never_marked : abandon_rule task ≡ None → (t : Transfer) (page : ℕ × ℕ) → task.victim ≡ Some page → task.transfer ≡ Some t → nat_lt t.next 19 ≡ false → task.touched ≡ true → ⊥
    never_marked stays t page takes its over touched =
        let goes : (is_some task.victim && task.touched && not (is_within task.transfer)) ≡ true = rw (takes, touched, its) (ap not (and_right (nat_lt 0 t.next) (nat_lt t.next 19) over)) in
        both_ways (is_some task.victim && task.touched && not (is_within task.transfer)) (none_where (is_some task.victim && task.touched && not (is_within task.transfer)) Abandons stays) goes

    -- the row tells a transfer's end, behind the sync
    abbrev Tells : Transfer → DevicesSeen → TransferKind → Type 0
    Tells t firm k = TellsEnd tells (record core { site = firm }) i task k t (Did kind) core'

    end_each : abandon_rule task ≡ None → (t : Transfer) → transfer_of core task ≡ Some t → nat_lt t.next 19 ≡ false → Each (end_rule t)
    end_each stays t is over = this Falls (Ends t) λ does.
        let now = of_task (λ u. TaskDoes tells core i (Ends t) u (Did kind) core') does in
        elim now [
          | inl done ↦ by_victim done.0 task.victim refl (all_copied core task t is (ltb-false t.next 19 over)) done.2
          | inr failed ↦ becomes_less _ failed.2 refl (λ there. ended_falls core i task.host r has there task (request.Failed core'.site.faults) works refl moving refl)
              (served _ (request.Failed core'.site.faults) refl refl refl (same_fours core.rows core.rows refl))
        ] where
          by_kind : (firm : DevicesSeen) (k : TransferKind) → t.kind ≡ k → Tells t firm t.kind → Tells t firm k
          by_kind firm k e ends = subst (Tells t firm) e ends

          asked_in : (u : ℕ) → t.volume ≡ r.volume → state_in core.rows t.volume t.cylinder ≡ u → u < 2 → (row : RowValue) × (row_in_list core.rows t.volume ≡ Some row) × (state_of row t.cylinder < 2)
          asked_in u same state small =
              let known_ = some_row (row_in_list core.rows r.volume) (fit.requests_.there task.host r has) in
              let at : row_in_list core.rows t.volume ≡ Some known_.0 = ap (row_in_list core.rows) same ∙ known_.1 in
              let e : state_of known_.0 t.cylinder ≡ u = sym (ap (λ o. state_of_row o t.cylinder) at) ∙ state in
              (known_.0, at, omega (arith, e, small))

          staged_ : (firm : DevicesSeen) (u : ℕ) → t.volume ≡ r.volume → state_in core.rows t.volume t.cylinder ≡ u → u < 2 → Tells t firm StageBlank → LessLeft core'
          staged_ firm u same state small ends =
              let row = asked_in u same state small in
              becomes_less _ ends.2 refl (λ there. staged_falls core i task there works t.volume row.0 row.1 (within_rows core.rows t.volume row.0 row.1) t.cylinder task.host r has refl moving row.2)
              (served _ request.Ready refl refl refl (all_fours core.rows t.volume row.0 (change.Staged t.cylinder) row.1 (λ z old. staged_fours row.0 t.cylinder z row.2 old)))

          by_victim : (firm : DevicesSeen) (v : Option (ℕ × ℕ)) → task.victim ≡ v → task.transfer ≡ Some t → Tells t firm t.kind → LessLeft core'
          by_victim firm (Some page) takes its ends =
              let d = fit.tasks_.destages i task t page works its takes in
              let four : state_in core.rows t.volume t.cylinder ≡ 4 = (fit.tasks_.transfers i task t works its).state ∙ ap due_state d.kind_ in
              let now = by_kind firm Destage d.kind_ ends in
              let row = row_of_changed core.rows t.volume t.cylinder four in
              becomes_less _ now.2 refl (λ there. destaged_falls core i task there works t.volume row.0 row.1 (within_rows core.rows t.volume row.0 row.1) t.cylinder row.3 row.2)
              (requests_stay core _ (λ x y. (x ≡ t.volume) × (y ≡ t.cylinder)) refl refl refl (row_fours core.rows t.volume row.0 (change.Destaged t.cylinder) row.1 (λ y. y ≡ t.cylinder) (destaged_fours row.0 t.cylinder))
              (λ j q asks ready but. never_marked stays t page takes its over (fit.tasks_.touched_ i task page j q works takes asks (ready_is q.state ready) (ap₂ (λ (a b : ℕ). (a, b)) (but.0 ∙ d.volume_) (ap page_of but.1 ∙ d.page_)))))
          by_victim firm None takes its ends =
              let d = fit.tasks_.stages i task t r works its takes has in
              let state = (fit.tasks_.transfers i task t works its).state in
              elim d.kind_ [
                | inl blank ↦ staged_ firm 0 d.volume_ (state ∙ ap due_state blank) (omega arith) (by_kind firm StageBlank blank ends)
                | inr tape ↦ staged_ firm 1 d.volume_ (state ∙ ap due_state tape) (omega arith) (by_kind firm StageCartridge tape ends)
              ]

    frame_place : task.frame < length core.owners
    frame_place = let a = (fit.tasks_.uses i task works).0 in let b = kept.owners_ in omega (arith, a, b)

    free_each : Each (free_rule task)
    free_each = mapped_at Falls (λ page. Frees page.0 page.1) task.victim λ page takes does.
        let now = of_task (λ u. TaskDoes tells core i (Frees page.0 page.1) u (Did kind) core') does in
        let own = (fit.tasks_.takes i task page works takes).0 in
        let row = row_of_frame core.rows page task.frame (fit.frames_.owned page task.frame own) in
        becomes_less _ now.2 refl (λ there. freed_falls core i task there works page.0 row.0 row.1 (within_rows core.rows page.0 row.0 row.1) page.1 page takes frame_place)
        (requests_stay core _ Never refl refl refl (all_fours core.rows page.0 row.0 (change.Free page.1) row.1 (freed_fours row.0 page.1)) (λ j q asks ready never. never))

    -- the request's page has no frame yet, where there is nothing to copy and no victim
    assign_each : task.victim ≡ None → transfer_of core task ≡ None → Each (assign_rule core task)
    assign_each none idle = mapped_at Falls (λ q. Assigns q.volume (page_of q.cylinder)) (request_of core.requests task.host) λ q asks does.
        let now = of_task (λ u. TaskDoes tells core i (Assigns q.volume (page_of q.cylinder)) u (Did kind) core') does in
        let known_ = some_row (row_in_list core.rows q.volume) (fit.requests_.there task.host q asks) in
        elim (fit.tasks_.given i task q works none asks) [
          | inl had ↦ absurd (let parts = or_none task.transfer (next_transfer core.rows core.requests task) idle in never_staged q asks had parts.1)
          | inr bare ↦ becomes_less _ now.2 refl (λ there. assigned_falls core i task there works q.volume known_.0 known_.1 (within_rows core.rows q.volume known_.0 known_.1) (page_of q.cylinder) bare.0 frame_place)
              (requests_stay core _ Never refl refl refl (all_fours core.rows q.volume known_.0 (change.Assign (page_of q.cylinder) task.frame) known_.1 (λ z old. old)) (λ j u asks ready never. never))
        ] where
          never_staged : (q : Request) → request_of core.requests task.host ≡ Some q → frame_in (row_in_list core.rows) q.volume (page_of q.cylinder) ≡ Some task.frame → next_transfer core.rows core.requests task ≡ None → ⊥
          never_staged q asks had idle = by_victim task.victim none idle where
            by_victim : (v : Option (ℕ × ℕ)) → v ≡ None → ◌≡◌ {A = Option Transfer} (elim v [ Some page ↦ destaging core.rows task.frame page | None ↦ option_and_then (staging core.rows task.frame) (request_of core.requests task.host) ]) None → ⊥
            by_victim (Some page) e idle = none_some page (sym e)
            by_victim None e idle = let bad = rw (asks, had) at idle in cc

    task_each : Each (task_rule core i task)
    task_each =
        either_then Falls (abandon_rule task) _ abandon_each λ stays.
        either_then Falls (option_and_then (λ t. carry_rule core i t or copy_rule t or end_rule t) (transfer_of core task)) _
        (chained_at Falls (λ t. carry_rule core i t or copy_rule t or end_rule t) (transfer_of core task) λ t is.
        either_then Falls (carry_rule core i t) _ (carry_each t is) λ _.
        either_then Falls (copy_rule t) (end_rule t) (copy_each t is) λ over. end_each stays t is (none_where (nat_lt t.next 19) (Copies t) over)) λ idle.
        either_then Falls (free_rule task) (assign_rule core task) free_each λ none.
        assign_each (map_none (λ page. Frees page.0 page.1) task.victim none) (no_transfer (transfer_of core task) idle) where
          no_transfer : (o : Option Transfer) → option_and_then (λ t. carry_rule core i t or copy_rule t or end_rule t) o ≡ None → o ≡ None
          no_transfer None e = refl
          no_transfer (Some t) e = absurd (let a = or_none (carry_rule core i t) (copy_rule t or end_rule t) e in let b = or_none (copy_rule t) (end_rule t) a.1 in none_some (Ends t) (sym b.1))

  -- an event that does something leaves less to do
  pub settle_falls : WorkEvent tells may core i (Did kind) core' → LessLeft core'
  unfolding work_rule
  settle_falls event = found Falls (stopped_rule core or return_rule core i or pick_rule core i or option_and_then (task_rule core i) (task_of core i)) IsIdle
      (either_then Falls (stopped_rule core) _ (mapped_at Falls IsStopped core.stopped λ fault _ does. absurd (let e = does.0 in cc)) λ _.
      either_then Falls (return_rule core i) _ return_each λ _.
      either_then Falls (pick_rule core i) _ pick_each λ _.
      chained_at Falls (task_rule core i) (task_of core i) λ task works.
      let s = fit.tasks_.serves i task works in task_each task works s.0 s.1 s.2)
      (λ does. absurd (let e = does.0 in cc)) event
