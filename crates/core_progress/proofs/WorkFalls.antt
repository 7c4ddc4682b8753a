-- Each event of a recorder that isn't idle leaves less to do.
use Rattle.std.proofs.Common.{◌≡◌, inl, inr, ℕ, zero, suc, ◌+◌, ◌-◌, ◌*◌, ◌/◌, ◌<◌, ◌≤◌, ◌==◌, nat_eq, Bool, true, false, List, [], ◌∷◌, length, slice_index_or, slice_set, Option, Some, None, option_map, refl, sym, ◌∙◌, ap, subst, arith, get_or-set_same, get_or-set_other}
use Rattle.std.specs.Prelude.{if◌then◌else◌}
use Rattle.std.specs.List.{sum_by}
use Rattle.std.specs.Map.{values_of, set_value}
use Rattle.std.proofs.Math.Nat.{mul-le-mul_left, mul-suc}
use Rattle.std.proofs.lemmas.Bool.{cases_Bool, cases_lt, eq-eqb, eqb-true}
use Rattle.std.proofs.lemmas.List.Sums.{sum_by-set, sum_by-cons}
use Rattle.std.proofs.lemmas.Map.Entries.{sum_by-set_value}
use Rattle.volume_table.specs.Row.{RowValue, state_of}
use Rattle.volume_table.specs.Changes.{effect, unstaged_state, map_numbered, unstaged_page}
use Rattle.volume_table.specs.Listed.{row_in_list, with_changed}
use Rattle.volume_table.specs.declared.changes.Change.{Change}
use Rattle.volume_table.specs.declared.changes.Change.TheVariants as change
use Rattle.fault_queue.specs.declared.queue.Request.{Request}
use Rattle.fault_queue.specs.declared.queue.RequestState.{RequestState}
use Rattle.fault_queue.specs.declared.queue.RequestState.TheVariants as request
use Rattle.fault_queue.specs.Requests.{RequestsData, request_of, in_state, with_request_at, with_state}
use Rattle.transfers.specs.Copies.{moved_on}
use Rattle.transfers.specs.declared.transfer.Transfer.{Transfer}
use Rattle.core_state.specs.declared.task.Task.{Task}
use Rattle.core_state.specs.CoreValue.{CoreData}
use Rattle.core_state.specs.Pins.{owner_at}
use Rattle.core_state.specs.Steps.{with_change, most_recent, with_owner, with_task, with_picked_request, task_ended, with_cartridge, given_back, with_fetched_cartridge}
use Rattle.core_state.specs.WorkRules.{task_of, held_in}
use Rattle.core_progress.specs.WorkLeft.{state_left, request_left, victim_left, copies_left, task_left, changed_one, row_left, frame_left, work_left, needed_cartridge, carry_left, recorder_left, sum_below, carries_left, settle_left}

-- ---- sums of which one part changes

set_sum : {X : Type 0} (f : X → ℕ) (xs : List X) (i : ℕ) (old new d : X) → slice_index_or xs i d ≡ old → i < length xs → sum_by f (slice_set xs i new) + f old ≡ sum_by f xs + f new
set_sum f xs i old new d at lt = subst (λ o. sum_by f (slice_set xs i new) + f o ≡ sum_by f xs + f new) at (sum_by-set f xs i new d lt)

state_sum : (requests : RequestsData) (h : ℕ) (r : Request) (state : RequestState) → request_of requests h ≡ Some r
    → sum_by request_left (values_of (with_state h state requests)) + state_left r.state ≡ sum_by request_left (values_of requests) + state_left state
state_sum requests h r state has = by_request (request_of requests h) has where
  by_request : (o : Option Request) → o ≡ Some r
      → sum_by request_left (values_of (with_request_at h (option_map (in_state state) o) requests)) + state_left r.state ≡ sum_by request_left (values_of requests) + state_left state
  by_request None is = absurd cc
  by_request (Some q) is = subst (λ p. sum_by request_left (values_of (set_value (nat_eq h) requests (in_state state p))) + state_left r.state ≡ sum_by request_left (values_of requests) + state_left state)
      (let e : r ≡ q = cc in e) (sum_by-set_value request_left (nat_eq h) requests r (in_state state r) has)

-- ---- the events that write no row

module _ (core : CoreData) (i h : ℕ) (r : Request) (has : request_of core.requests h ≡ Some r) (there : i < length core.tasks) where
  -- a request is picked
  pub picked_falls : (frame : ℕ) (victim : Option (ℕ × ℕ)) → task_of core i ≡ None → r.state ≡ request.Queued → work_left (with_picked_request i h frame victim core) < work_left core
  picked_falls frame victim free queued =
      let task : Task = record { host = h; frame = frame; victim = victim; touched = false; transfer = None } in
      let a = state_sum core.requests h r request.Moving has in
      let b = set_sum task_left core.tasks i None (Some task) None free there in
      let c : state_left r.state ≡ 23 = ap state_left queued in
      let d : victim_left false victim ≤ 2 = at_most victim in
      omega (arith, a, b, c, d) where
        at_most : (victim : Option (ℕ × ℕ)) → victim_left false victim ≤ 2
        at_most None = omega arith
        at_most (Some page) = omega arith

  -- a task ends, and its request is no more Moving
  pub ended_falls : (task : Task) (state : RequestState) → task_of core i ≡ Some task → task.host ≡ h → r.state ≡ request.Moving → state_left state ≡ 0 → work_left (task_ended i task state core) < work_left core
  ended_falls task state works its moving over =
      let has' : request_of core.requests task.host ≡ Some r = ap (request_of core.requests) its ∙ has in
      let a = state_sum core.requests task.host r state has' in
      let b = set_sum task_left core.tasks i (Some task) None None works there in
      let c : state_left r.state ≡ 1 = ap state_left moving in
      omega (arith, a, b, c, over)

  -- it is abandoned: it was touched
  pub abandoned_falls : (task : Task) (page : ℕ × ℕ) → task_of core i ≡ Some task → task.host ≡ h → r.state ≡ request.Moving → task.victim ≡ Some page → task.touched ≡ true → work_left (task_ended i task request.Queued core) < work_left core
  abandoned_falls task page works its moving takes touched =
      let has' : request_of core.requests task.host ≡ Some r = ap (request_of core.requests) its ∙ has in
      let a = state_sum core.requests task.host r request.Queued has' in
      let b = set_sum task_left core.tasks i (Some task) None None works there in
      let c : state_left r.state ≡ 1 = ap state_left moving in
      let d : victim_left task.touched task.victim ≡ 23 = rw (takes, touched) refl in
      omega (arith, a, b, c, d)

-- a track is copied
pub copied_falls : (core : CoreData) (i : ℕ) (task : Task) (t : Transfer) → i < length core.tasks → task_of core i ≡ Some task → copies_left task.transfer ≡ 19 - t.next → t.next < 19
    → work_left (with_task i (Some (record task { transfer = Some (moved_on t) })) core) < work_left core
copied_falls core i task t there works left within =
    let b = set_sum task_left core.tasks i (Some task) (Some (record task { transfer = Some (moved_on t) })) None works there in
    let c : 19 - (t.next + 1) < 19 - t.next = omega (arith, within) in
    omega (arith, b, c, left)

-- ---- the events that write a row

-- the changed cylinders of a row after a state is set
row_set : (r : RowValue) (c state : ℕ) → c < length r.states → sum_by changed_one (slice_set r.states c state) + changed_one (state_of r c) ≡ sum_by changed_one r.states + changed_one state
row_set r c state lt = sum_by-set changed_one r.states c state 0 lt

set_le : (xs : List ℕ) (c y : ℕ) → sum_by changed_one (slice_set xs c y) ≤ sum_by changed_one xs + changed_one y
set_le [] c y = omega arith
set_le (x ∷ xs) zero y = let a = sum_by-cons changed_one x xs in let b = sum_by-cons changed_one y xs in omega (arith, a, b)
set_le (x ∷ xs) (suc c) y = let a = sum_by-cons changed_one x xs in let b = sum_by-cons changed_one x (slice_set xs c y) in let d = set_le xs c y in omega (arith, a, b, d)

-- a frame that a page loses makes and takes no changed cylinder
unstaged_same : (state : ℕ) → changed_one (unstaged_state state) ≡ changed_one state
unstaged_same state = elim (cases_Bool (state == 2)) [
  | inl two ↦ let e : state ≡ 2 = eqb-true state 2 two in rw e refl
  | inr not_two ↦ elim (cases_Bool (state == 3)) [
    | inl three ↦ let e : state ≡ 3 = eqb-true state 3 three in rw e refl
    | inr not_three ↦ rw (not_two, not_three) refl
  ]
]

page_same : (page number : ℕ) (states : List ℕ) → sum_by changed_one (map_numbered (λ c state. if c / 8 == page then unstaged_state state else state) number states) ≡ sum_by changed_one states
page_same page number [] = refl
page_same page number (x ∷ xs) =
    let now = if number / 8 == page then unstaged_state x else x in
    sum_by-cons changed_one now (map_numbered (λ c state. if c / 8 == page then unstaged_state state else state) (suc number) xs)
    ∙ ap (λ (n : ℕ). changed_one now + n) (page_same page (suc number) xs)
    ∙ ap (λ (n : ℕ). n + sum_by changed_one xs) (by_test (number / 8 == page))
    ∙ sym (sum_by-cons changed_one x xs) where
      by_test : (b : Bool) → changed_one (if b then unstaged_state x else x) ≡ changed_one x
      by_test true = unstaged_same x
      by_test false = refl

-- the changed cylinders of the rows after a change of one
rows_sum : (rows : List (Option RowValue)) (volume : ℕ) (r : RowValue) (change : Change) → row_in_list rows volume ≡ Some r → volume < length rows
    → sum_by row_left (with_changed volume change rows) + row_left (Some r) ≡ sum_by row_left rows + row_left (Some (effect change r))
rows_sum rows volume r change is lt = rw is (set_sum row_left rows volume (Some r) (Some (effect change r)) None is lt)

module _ (core : CoreData) (i : ℕ) (task : Task) (there : i < length core.tasks) (works : task_of core i ≡ Some task)
    (volume : ℕ) (row : RowValue) (is : row_in_list core.rows volume ≡ Some row) (known_ : volume < length core.rows) where
  -- a victim's cylinder is destaged
  pub destaged_falls : (cylinder : ℕ) → cylinder < length row.states → state_of row cylinder ≡ 4
      → work_left (with_task i (Some (record task { transfer = None })) (with_change volume (change.Destaged cylinder) core)) < work_left core
  destaged_falls cylinder lt four =
      let a = rows_sum core.rows volume row (change.Destaged cylinder) is known_ in
      let b = row_set row cylinder 3 lt in
      let c : changed_one (state_of row cylinder) ≡ 1 = ap changed_one four in
      let d = set_sum task_left core.tasks i (Some task) (Some (record task { transfer = None })) None works there in
      omega (arith, a, b, c, d)

  -- the asked cylinder is staged
  pub staged_falls : (cylinder : ℕ) (h : ℕ) (r : Request) → request_of core.requests h ≡ Some r → task.host ≡ h → r.state ≡ request.Moving → state_of row cylinder < 2
      → work_left (task_ended i task request.Ready (with_change volume (change.Staged cylinder) core)) < work_left core
  staged_falls cylinder h r has its moving blank =
      let has' : request_of core.requests task.host ≡ Some r = ap (request_of core.requests) its ∙ has in
      let a = rows_sum core.rows volume row (change.Staged cylinder) is known_ in
      let b = set_le row.states cylinder (state_of row cylinder + 2) in
      let c : changed_one (state_of row cylinder + 2) ≡ 0 = below_four (state_of row cylinder + 2) (omega (arith, blank)) in
      let d = set_sum task_left core.tasks i (Some task) None None works there in
      let e = state_sum core.requests task.host r request.Ready has' in
      let f : state_left r.state ≡ 1 = ap state_left moving in
      omega (arith, a, b, c, d, e, f) where
        below_four : (n : ℕ) → n < 4 → changed_one n ≡ 0
        below_four n lt4 = elim (cases_Bool (n == 4)) [
          | inl is4 ↦ absurd (let e : n ≡ 4 = eqb-true n 4 is4 in omega (arith, e, lt4))
          | inr not4 ↦ rw not4 refl
        ]

  -- the victim's page is freed
  pub freed_falls : (page : ℕ) (victim : ℕ × ℕ) → task.victim ≡ Some victim → task.frame < length core.owners
      → work_left (with_task i (Some (record task { victim = None })) (with_owner task.frame None (with_change volume (change.Free page) core))) < work_left core
  freed_falls page victim takes lt =
      let a = rows_sum core.rows volume row (change.Free page) is known_ in
      let b : sum_by changed_one (unstaged_page page row.states) ≡ sum_by changed_one row.states = page_same page 0 row.states in
      let c = set_sum frame_left core.owners task.frame (owner_at core.owners task.frame) None None refl lt in
      let d = set_sum task_left core.tasks i (Some task) (Some (record task { victim = None })) None works there in
      let e : 2 ≤ victim_left task.touched task.victim = rw takes (at_least task.touched) in
      omega (arith, a, b, c, d, e) where
        at_least : (touched : Bool) → 2 ≤ victim_left touched (Some victim)
        at_least true = omega arith
        at_least false = omega arith

  -- the asked page gets the frame
  pub assigned_falls : (page : ℕ) → owner_at core.owners task.frame ≡ None → task.frame < length core.owners
      → work_left (most_recent task.frame (with_owner task.frame (Some (volume, page)) (with_change volume (change.Assign page task.frame) core))) < work_left core
  assigned_falls page nobodys lt =
      let a = rows_sum core.rows volume row (change.Assign page task.frame) is known_ in
      let c = set_sum frame_left core.owners task.frame None (Some (volume, page)) None nobodys lt in
      omega (arith, a, c)

-- ---- carries

sum_small : (n : ℕ) (f : ℕ → ℕ) → ((i : ℕ) → f i ≤ 2) → sum_below n f ≤ n * 2
sum_small zero f small = omega arith
sum_small (suc n) f small = let a = sum_small n f small in let b = small n in omega (arith, a, b)

sum_falls : (n i : ℕ) (f g : ℕ → ℕ) → i < n → ((j : ℕ) → (j ≡ i → ⊥) → g j ≡ f j) → g i < f i → sum_below n g < sum_below n f
sum_falls zero i f g lt same falls = absurd (omega (arith, lt))
sum_falls (suc n) i f g lt same falls = elim (cases_lt i n) [
  | inl below ↦ let a = sum_falls n i f g below same falls in let b = same n (λ e. omega (arith, e, below)) in omega (arith, a, b)
  | inr from ↦
      let e : i ≡ n = omega (arith, lt, from) in
      let a : sum_below n g ≡ sum_below n f = sum_same n (λ j jn. same j (λ q. omega (arith, q, jn, e))) in
      let b : g n < f n = subst (λ (k : ℕ). g k < f k) e falls in omega (arith, a, b)
] where
  sum_same : (m : ℕ) → ((j : ℕ) → j < m → g j ≡ f j) → sum_below m g ≡ sum_below m f
  sum_same zero each = refl
  sum_same (suc m) each = let a = sum_same m (λ j jm. each j (omega (arith, jm))) in let b = each m (omega arith) in omega (arith, a, b)

carry_small : (need held : Option ℕ) → carry_left need held ≤ 2
carry_small None held = omega arith
carry_small (Some c) None = omega arith
carry_small (Some c) (Some other) = by_test (other == c) where
  by_test : (b : Bool) → (if b then 0 else 2) ≤ 2
  by_test true = omega arith
  by_test false = omega arith

recorder_small : (core : CoreData) (task : Option Task) (held : Option ℕ) → recorder_left core task held ≤ 2
recorder_small core None None = omega arith
recorder_small core None (Some cartridge) = omega arith
recorder_small core (Some task) held = carry_small (needed_cartridge core task) held

-- less work outweighs all carries
outweighs : (n less more carried left : ℕ) → less < more → carried ≤ n * 2 → (n * 2 + 1) * less + carried < (n * 2 + 1) * more + left
outweighs n less more carried left falls small =
    let a : (n * 2 + 1) * suc less ≤ (n * 2 + 1) * more = mul-le-mul_left (n * 2 + 1) falls in
    let b : (n * 2 + 1) * suc less ≡ (n * 2 + 1) * less + (n * 2 + 1) = mul-suc (n * 2 + 1) less in
    omega (arith, a, b, small)

pub work_falls : (core core' : CoreData) → core'.config.recorders ≡ core.config.recorders → work_left core' < work_left core → settle_left core' < settle_left core
work_falls core core' same falls =
    subst (λ (n : ℕ). (n * 2 + 1) * work_left core' + sum_below n (λ i. recorder_left core' (task_of core' i) (held_in core' i)) < settle_left core) (sym same)
    (outweighs core.config.recorders (work_left core') (work_left core) _ (carries_left core) falls
    (sum_small core.config.recorders (λ i. recorder_left core' (task_of core' i) (held_in core' i)) λ i. recorder_small core' (task_of core' i) (held_in core' i)))

module _ (core : CoreData) (i : ℕ) (there : i < length core.recorders) (few : i < core.config.recorders) where
  -- one recorder holds something else
  held_falls : (held : Option ℕ) → recorder_left core (task_of core i) held < recorder_left core (task_of core i) (held_in core i)
      → settle_left (with_cartridge i held core) < settle_left core
  held_falls held falls =
      let a = sum_falls core.config.recorders i (λ j. recorder_left core (task_of core j) (held_in core j)) (λ j. recorder_left core (task_of core j) (slice_index_or (slice_set core.recorders i held) j None)) few
      (λ j apart. ap (recorder_left core (task_of core j)) (get_or-set_other core.recorders i j held None apart)) (rw (get_or-set_same core.recorders i held None there) falls) in
      omega (arith, a)

  -- a cartridge is given back: no task needs it, or the task needs another
  pub returned_falls : (cartridge : ℕ) → task_of core i ≡ None → held_in core i ≡ Some cartridge → settle_left (given_back i cartridge core) < settle_left core
  returned_falls cartridge free holds = held_falls None (rw (free, holds) (omega arith))

  pub exchanged_falls : (task : Task) (cartridge other : ℕ) → task_of core i ≡ Some task → held_in core i ≡ Some other → needed_cartridge core task ≡ Some cartridge → (other == cartridge) ≡ false → settle_left (given_back i other core) < settle_left core
  exchanged_falls task cartridge other works holds needs apart = held_falls None (rw (works, holds) (rw (needs, apart) (omega arith)))

  -- the cartridge that is needed is fetched
  pub fetched_falls : (task : Task) (cartridge : ℕ) → task_of core i ≡ Some task → held_in core i ≡ None → needed_cartridge core task ≡ Some cartridge → settle_left (with_fetched_cartridge i cartridge core) < settle_left core
  fetched_falls task cartridge works empty needs = held_falls (Some cartridge) (rw (works, empty) (rw (needs, eq-eqb cartridge cartridge refl) (omega arith)))
