-- What the tasks of other recorders keep where one recorder's work changes a row or copies a track.
use Rattle.std.proofs.Common.{◌≡◌, ◌≢◌, ◌⊎◌, inl, inr, ℕ, zero, suc, ◌/◌, ◌<◌, Bool, true, false, ◌||◌, ◌==◌, List, Option, Some, None, refl, sym, ◌∙◌, ap, subst, arith, get_or-set_same, get_or-set_other}
use Rattle.std.specs.Prelude.{slice_set}
use Rattle.std.specs.Option.{option_and_then, ForSome}
use Rattle.std.proofs.lemmas.Bool.{cond-true, cond-false, cases_Bool, eq-eqb, and_from}
use Rattle.std.proofs.lemmas.Bool.Decides.{eqb_tells}
use Rattle.mss_base.specs.Content.{Content}
use Rattle.mss_base.specs.Places.{frame_block}
use Rattle.mss_base.specs.declared.place.UnitNo.{UnitNo}
use Rattle.mss_base.specs.declared.place.BlockPlace.{BlockPlace}
use Rattle.volume_table.specs.Row.{RowValue, frame_of, state_of}
use Rattle.volume_table.specs.Changes.{with_frame, with_state, without_frame, unstaged_state}
use Rattle.volume_table.proofs.RowFacts.{frame-without_frame, state-without_frame}
use Rattle.table_pair.specs.Pair.{is_table}
use Rattle.shown_volumes.specs.Shown.{RowsOf, block_at, on_cartridge, in_page}
use Rattle.shown_volumes.specs.Sound.{frame_in}
use Rattle.shown_volumes.proofs.PlaceFacts.{paged}
use Rattle.shown_volumes.proofs.OutsideFacts.{page_names}
use Rattle.fault_queue.specs.declared.queue.Request.{Request}
use Rattle.fault_queue.specs.declared.queue.RequestState.TheVariants.{Queued}
use Rattle.core_state.specs.declared.task.Task.{Task}
use Rattle.transfers.specs.declared.transfer.Transfer.{Transfer}
use Rattle.core_state.specs.CoreValue.{CoreValue}
use Rattle.core_state.specs.Pins.{host_at, task_at, moves_at, asks_for, owns}
use Rattle.volume_table.specs.Listed.{row_in_list}
use Rattle.fault_queue.specs.Requests.{request_of, RequestsData}
use Rattle.core_state.specs.Tasks.{IsTask, IsTransfer, HasFrame, IsNowhere, AreWaiting}
use Rattle.core_state.specs.Served.{IsServed}
use Rattle.core_state.specs.IsCore.{IsCore}
use Rattle.core_state.proofs.TaskRows.{framed_by, same_but_state, same_but_frame, same_but_page, task_stays, served_stays, frame_stays, waits_stay}
use Rattle.core_state.proofs.RuleWalks.{some_is}
use Rattle.core_state.proofs.RowEvents.{row_put, row_left}

pub or_true : (a b : Bool) → b ≡ true → (a || b) ≡ true
or_true true b is = refl
or_true false b is = is

no_frame : (o : Option ℕ) → ((f : ℕ) → o ≡ Some f → ⊥) → o ≡ None
no_frame None none = refl
no_frame (Some f) none = absurd (none f refl)

pub has_frame_by : (rows now : RowsOf) (f : ℕ) (victim : Option (ℕ × ℕ)) (v p : ℕ) → ((w k : ℕ) → frame_in rows w k ≡ Some f → frame_in now w k ≡ Some f) → (frame_in rows v p ≡ None → frame_in now v p ≡ None)
    → (IsNowhere rows f → IsNowhere now f) → HasFrame rows f victim v p → HasFrame now f victim v p
has_frame_by rows now f (Some w) v p keeps none nowhere has = (keeps w.0 w.1 has.0, none has.1)
has_frame_by rows now f None v p keeps none nowhere (inl here) = inl (keeps v p here)
has_frame_by rows now f None v p keeps none nowhere (inr free) = inr (none free.0, nowhere free.1)

-- blocks that are no table's are the same, in frames and on cartridges
module _ (c d : Content) (same : (unit : UnitNo) (block : ℕ) → is_table unit ≡ false → d unit block ≡ c unit block) where
  pub frames_alike : (k : RowValue) (cylinder head : ℕ) (place : BlockPlace) → in_page k cylinder head ≡ Some place → block_at d place ≡ block_at c place
  frames_alike k cylinder head place at =
      let page = paged (frame_of k (cylinder / 8)) cylinder head place at in
      subst (λ (p : BlockPlace). block_at d p ≡ block_at c p) page.1.1 (same (frame_block page.0 cylinder head).unit (frame_block page.0 cylinder head).block refl)

  pub cartridges_alike : (k : RowValue) (cylinder head : ℕ) → block_at d (on_cartridge k cylinder head) ≡ block_at c (on_cartridge k cylinder head)
  cartridges_alike k cylinder head = same (on_cartridge k cylinder head).unit (on_cartridge k cylinder head).block refl

module _ (S : Type 0) {C : Type 0} (v : CoreValue S C) (core : IsCore v) where
  -- two hosts have no requests on one volume
  owns_asked : (h : ℕ) (q : Request) → request_of v.requests h ≡ Some q → owns v.hosts v.requests h q.volume ≡ true
  owns_asked h q asked =
      and_from _ _ (core.on_mounted h q asked).0
      (or_true (host_at v.hosts h).chain_open (asks_for q.volume (request_of v.requests h)) (ap (asks_for q.volume) asked ∙ eq-eqb q.volume q.volume refl))

  pub requests_once : (h k : ℕ) (p q : Request) → request_of v.requests h ≡ Some p → request_of v.requests k ≡ Some q → p.volume ≡ q.volume → h ≡ k
  requests_once h k p q asked also same =
      core.alone p.volume h k (owns_asked h p asked) (subst (λ (x : ℕ). owns v.hosts v.requests k x ≡ true) (sym same) (owns_asked k q also))

  module _ (n : ℕ) (old : Task) (at : task_at v.tasks n ≡ Some old) where
    pub frames_apart : (m : ℕ) (task : Task) → m ≢ n → task_at v.tasks m ≡ Some task → task.frame ≢ old.frame
    frames_apart m task other is same = other (core.tasks_.frames_once m n task old is at same)

    pub hosts_apart : (m : ℕ) (task : Task) → m ≢ n → task_at v.tasks m ≡ Some task → task.host ≢ old.host
    hosts_apart m task other is same = other (core.tasks_.hosts_once m n task old is at same)

    pub requests_apart : (m : ℕ) (task : Task) → m ≢ n → task_at v.tasks m ≡ Some task → (p q : Request) → request_of v.requests task.host ≡ Some p → request_of v.requests old.host ≡ Some q → p.volume ≢ q.volume
    requests_apart m task other is p q asked also same = hosts_apart m task other is (requests_once task.host old.host p q asked also same)

    -- a cylinder whose page has the task's frame is no other task's
    pub cylinders_apart : (volume y : ℕ) (r : RowValue) → row_in_list v.rows volume ≡ Some r → frame_of r (y / 8) ≡ Some old.frame → (m : ℕ) (task : Task) → m ≢ n → task_at v.tasks m ≡ Some task
        → (t : Transfer) → task.transfer ≡ Some t → t.volume ≡ volume → t.cylinder / 8 ≢ y / 8
    cylinders_apart volume y r there framed m task other is t copies same page =
        let its = (core.tasks_.each m task is).transfer_ t copies in
        let row_is : its.row ≡ r = some_is its.row r (sym its.there ∙ ap (row_in_list v.rows) same ∙ there) in
        let e : Some task.frame ≡ Some old.frame = sym (framed_by (row_in_list v.rows) task.frame task.victim _ t its) ∙ (λ i. frame_of (row_is i) (page i)) ∙ framed in
        frames_apart m task other is (some_is task.frame old.frame e)

-- ---- a cylinder gets another state

module _ (S : Type 0) {C : Type 0} (v : CoreValue S C) (core : IsCore v) (volume y state : ℕ) (r : RowValue) (there : row_in_list v.rows volume ≡ Some r) (low : volume < 32) where
  abbrev now : RowsOf
  now = row_in_list (slice_set v.rows volume (Some (with_state y state r)))

  here : row_in_list (slice_set v.rows volume (Some (with_state y state r))) volume ≡ Some (with_state y state r)
  here = row_put v.rows volume (with_state y state r) (let p = core.places in omega (arith, p))

  others : (w : ℕ) → w ≢ volume → row_in_list (slice_set v.rows volume (Some (with_state y state r))) w ≡ row_in_list v.rows w
  others w other = row_left v.rows volume (with_state y state r) w other

  pub state_frames : (w k : ℕ) → frame_in (row_in_list (slice_set v.rows volume (Some (with_state y state r)))) w k ≡ frame_in (row_in_list v.rows) w k
  state_frames w k = frame_stays (row_in_list v.rows) now volume r (with_state y state r) there here others w k (λ e. refl)

  state_has : (f : ℕ) (victim : Option (ℕ × ℕ)) (w p : ℕ) → HasFrame (row_in_list v.rows) f victim w p → HasFrame now f victim w p
  state_has f victim w p has = has_frame_by (row_in_list v.rows) now f victim w p (λ a k is. state_frames a k ∙ is) (λ is. state_frames w p ∙ is) (λ none a k is. none a k (sym (state_frames a k) ∙ is)) has

  pub state_waiting : ((h : ℕ) (q : Request) → request_of v.requests h ≡ Some q → q.state ≡ Queued → q.volume ≡ volume → state_of r q.cylinder < 2 → q.cylinder ≢ y)
      → AreWaiting (row_in_list (slice_set v.rows volume (Some (with_state y state r)))) v.requests
  state_waiting apart h q asked queued =
      waits_stay (row_in_list v.rows) now volume r (with_state y state r) there here others q.volume q.cylinder
      (λ same waits. let e = get_or-set_other r.states y q.cylinder state 0 (apart h q asked queued same waits) in omega (arith, e, waits)) (core.waiting h q asked queued)

  -- a task whose cylinders are others
  pub state_task : (moving still : List Bool) (requests others_ : RequestsData) (task : Task) (is : IsTask v.config.frames (row_in_list v.rows) moving requests v.hosts task)
      → moves_at still task.frame ≡ true → request_of others_ task.host ≡ request_of requests task.host
      → (is.request.volume ≡ volume → state_of r is.request.cylinder < 2 → is.request.cylinder ≢ y) → ((t : Transfer) → task.transfer ≡ Some t → t.volume ≡ volume → t.cylinder ≢ y)
      → IsTask v.config.frames (row_in_list (slice_set v.rows volume (Some (with_state y state r)))) still others_ v.hosts task
  state_task moving still requests others_ task is moves asked apart differs =
      task_stays (row_in_list v.rows) now volume r (with_state y state r) there here others v.config.frames moving still requests others_ v.hosts task is moves asked
      (λ same waits. let e = get_or-set_other r.states y is.request.cylinder state 0 (apart same waits) in omega (arith, e, waits))
      (state_has task.frame task.victim is.request.volume (is.request.cylinder / 8) is.frame_)
      (λ t copies same. same_but_state r y state t.cylinder (differs t copies same))

  -- and what it says of blocks
  pub state_served : (c d : Content) → ((unit : UnitNo) (block : ℕ) → is_table unit ≡ false → d unit block ≡ c unit block) → (moving : List Bool) (requests : RequestsData) (task : Task)
      → IsTask v.config.frames (row_in_list v.rows) moving requests v.hosts task → ((t : Transfer) → task.transfer ≡ Some t → t.volume ≡ volume → t.cylinder ≢ y)
      → IsServed c (row_in_list v.rows) task → IsServed d (row_in_list (slice_set v.rows volume (Some (with_state y state r)))) task
  state_served c d alike moving requests task is differs served =
      served_stays (row_in_list v.rows) now volume r (with_state y state r) there here others c d task task.frame is.request is.transfer_
      (λ t copies same. same_but_state r y state t.cylinder (differs t copies same))
      (λ t k copies at counts head low_head place in_. frames_alike c d alike k t.cylinder head place in_) (λ t k copies at head low_head. cartridges_alike c d alike k t.cylinder head) served

-- ---- a page loses its frame

free_low : (page : ℕ) (r : RowValue) (cylinder : ℕ) → state_of r cylinder < 2 → state_of (without_frame page r) cylinder < 2
free_low page r cylinder low = elim (cases_Bool (cylinder / 8 == page)) [
  | inl at ↦ let e = state-without_frame page r cylinder ∙ cond-true _ _ _ at in let u = unstaged_low (state_of r cylinder) low in omega (arith, e, u)
  | inr other ↦ let e = state-without_frame page r cylinder ∙ cond-false _ _ _ other in omega (arith, e, low)
]
  where
    unstaged_low : (s : ℕ) → s < 2 → unstaged_state s < 2
    unstaged_low zero lt = omega arith
    unstaged_low (suc zero) lt = omega arith
    unstaged_low (suc (suc s)) lt = absurd (omega arith)

module _ (S : Type 0) {C : Type 0} (v : CoreValue S C) (core : IsCore v) (volume page frame : ℕ) (r : RowValue) (there : row_in_list v.rows volume ≡ Some r) (low : volume < 32) (has : frame_of r page ≡ Some frame) where
  abbrev freed : RowsOf
  freed = row_in_list (slice_set v.rows volume (Some (without_frame page r)))

  free_here : row_in_list (slice_set v.rows volume (Some (without_frame page r))) volume ≡ Some (without_frame page r)
  free_here = row_put v.rows volume (without_frame page r) (let p = core.places in omega (arith, p))

  free_others : (w : ℕ) → w ≢ volume → row_in_list (slice_set v.rows volume (Some (without_frame page r))) w ≡ row_in_list v.rows w
  free_others w other = row_left v.rows volume (without_frame page r) w other

  -- the page has none now; each other page has what it had
  pub freed_none : frame_in (row_in_list (slice_set v.rows volume (Some (without_frame page r)))) volume page ≡ None
  freed_none = ap (λ (o : Option RowValue). option_and_then (λ k. frame_of k page) o) free_here ∙ frame-without_frame page r page ∙ cond-true _ _ _ (eq-eqb page page refl)

  pub freed_other : (w k : ℕ) → ((w ≡ volume) × (k ≡ page) → ⊥) → frame_in (row_in_list (slice_set v.rows volume (Some (without_frame page r)))) w k ≡ frame_in (row_in_list v.rows) w k
  freed_other w k differs =
      frame_stays (row_in_list v.rows) freed volume r (without_frame page r) there free_here free_others w k
      (λ e.
      let off : (k == page) ≡ false = elim (eqb_tells k page) [ inl same ↦ absurd (differs (e, same.1)) | inr other ↦ other.0 ] in
      frame-without_frame page r k ∙ cond-false (k == page) None (frame_of r k) off)

  which : (w k : ℕ) → ((w ≡ volume) × (k ≡ page)) ⊎ ((w ≡ volume) × (k ≡ page) → ⊥)
  which w k = elim (eqb_tells w volume) [
    | inl e ↦ elim (eqb_tells k page) [ inl f ↦ inl (e.1, f.1) | inr f ↦ inr (λ both. f.1 both.1) ]
    | inr e ↦ inr (λ both. e.1 both.0)
  ]

  pub freed_from : (w k f : ℕ) → frame_in (row_in_list (slice_set v.rows volume (Some (without_frame page r)))) w k ≡ Some f → frame_in (row_in_list v.rows) w k ≡ Some f
  freed_from w k f is = elim (which w k) [
    | inl e ↦ let o : ◌≡◌ {A = Option ℕ} None (Some f) = sym freed_none ∙ (λ i. frame_in freed (sym e.0 i) (sym e.1 i)) ∙ is in absurd cc
    | inr e ↦ sym (freed_other w k e) ∙ is
  ]

  pub freed_keeps : (w k f : ℕ) → f ≢ frame → frame_in (row_in_list v.rows) w k ≡ Some f → frame_in (row_in_list (slice_set v.rows volume (Some (without_frame page r)))) w k ≡ Some f
  freed_keeps w k f other is = elim (which w k) [
    | inl e ↦
        let o : Some f ≡ Some frame = sym is ∙ (λ i. frame_in (row_in_list v.rows) (e.0 i) (e.1 i)) ∙ page_names (row_in_list v.rows) volume page frame r there has in
        absurd (other (some_is f frame o))
    | inr e ↦ freed_other w k e ∙ is
  ]

  freed_still_none : (w k : ℕ) → frame_in (row_in_list v.rows) w k ≡ None → frame_in freed w k ≡ None
  freed_still_none w k none = no_frame (frame_in freed w k) (λ f is. let o : ◌≡◌ {A = Option ℕ} None (Some f) = sym none ∙ freed_from w k f is in cc)

  freed_page_differs : (task : Task) (t : Transfer) (request : Request) → IsTransfer (row_in_list v.rows) task.frame task.victim request t → task.frame ≢ frame → t.volume ≡ volume → t.cylinder / 8 ≢ page
  freed_page_differs task t request its other same at =
      let row_is : its.row ≡ r = some_is its.row r (sym its.there ∙ ap (row_in_list v.rows) same ∙ there) in
      let e : Some task.frame ≡ Some frame = sym (framed_by (row_in_list v.rows) task.frame task.victim request t its) ∙ (λ i. frame_of (row_is i) (at i)) ∙ has in
      other (some_is task.frame frame e)

  pub freed_waits : (w cylinder : ℕ) → ForSome (row_in_list v.rows w) (λ k. state_of k cylinder < 2) → ForSome (row_in_list (slice_set v.rows volume (Some (without_frame page r))) w) (λ k. state_of k cylinder < 2)
  freed_waits w cylinder = waits_stay (row_in_list v.rows) freed volume r (without_frame page r) there free_here free_others w cylinder (λ same waits. free_low page r cylinder waits)

  pub freed_waiting : AreWaiting (row_in_list (slice_set v.rows volume (Some (without_frame page r)))) v.requests
  freed_waiting h q asked queued =
      waits_stay (row_in_list v.rows) freed volume r (without_frame page r) there free_here free_others q.volume q.cylinder (λ same waits. free_low page r q.cylinder waits) (core.waiting h q asked queued)

  pub freed_task : (task : Task) → IsTask v.config.frames (row_in_list v.rows) v.moving v.requests v.hosts task → task.frame ≢ frame → IsTask v.config.frames (row_in_list (slice_set v.rows volume (Some (without_frame page r)))) v.moving v.requests v.hosts task
  freed_task task is other =
      task_stays (row_in_list v.rows) freed volume r (without_frame page r) there free_here free_others v.config.frames v.moving v.moving v.requests v.requests v.hosts task is is.moves refl
      (λ same waits. free_low page r is.request.cylinder waits)
      (has_frame_by (row_in_list v.rows) freed task.frame task.victim is.request.volume (is.request.cylinder / 8) (λ w k at. freed_keeps w k task.frame other at) (λ none. freed_still_none is.request.volume (is.request.cylinder / 8) none)
      (λ none w k at. none w k (freed_from w k task.frame at)) is.frame_)
      (λ t copies same. same_but_page r page t.cylinder (freed_page_differs task t is.request (is.transfer_ t copies) other same))

  pub freed_served : (c d : Content) → ((unit : UnitNo) (block : ℕ) → is_table unit ≡ false → d unit block ≡ c unit block) → (task : Task)
      → IsTask v.config.frames (row_in_list v.rows) v.moving v.requests v.hosts task → task.frame ≢ frame → IsServed c (row_in_list v.rows) task → IsServed d (row_in_list (slice_set v.rows volume (Some (without_frame page r)))) task
  freed_served c d alike task is other served =
      served_stays (row_in_list v.rows) freed volume r (without_frame page r) there free_here free_others c d task task.frame is.request is.transfer_
      (λ t copies same. same_but_page r page t.cylinder (freed_page_differs task t is.request (is.transfer_ t copies) other same))
      (λ t k copies at counts head low_head place in_. frames_alike c d alike k t.cylinder head place in_) (λ t k copies at head low_head. cartridges_alike c d alike k t.cylinder head) served

-- ---- a page gets a frame that no page has

module _ (S : Type 0) {C : Type 0} (v : CoreValue S C) (core : IsCore v) (volume page frame : ℕ) (r : RowValue) (there : row_in_list v.rows volume ≡ Some r) (low : volume < 32) (none : frame_of r page ≡ None) (inside : page < 51) (nowhere : IsNowhere (row_in_list v.rows) frame) where
  abbrev given : RowsOf
  given = row_in_list (slice_set v.rows volume (Some (with_frame page frame r)))

  give_here : row_in_list (slice_set v.rows volume (Some (with_frame page frame r))) volume ≡ Some (with_frame page frame r)
  give_here = row_put v.rows volume (with_frame page frame r) (let p = core.places in omega (arith, p))

  give_others : (w : ℕ) → w ≢ volume → row_in_list (slice_set v.rows volume (Some (with_frame page frame r))) w ≡ row_in_list v.rows w
  give_others w other = row_left v.rows volume (with_frame page frame r) w other

  pub given_it : frame_in (row_in_list (slice_set v.rows volume (Some (with_frame page frame r)))) volume page ≡ Some frame
  given_it =
      ap (λ (o : Option RowValue). option_and_then (λ k. frame_of k page) o) give_here
      ∙ get_or-set_same r.pages page (Some frame) None (let p = (core.are_rows volume r there).pages in omega (arith, p))

  pub given_other : (w k : ℕ) → ((w ≡ volume) × (k ≡ page) → ⊥) → frame_in (row_in_list (slice_set v.rows volume (Some (with_frame page frame r)))) w k ≡ frame_in (row_in_list v.rows) w k
  given_other w k differs =
      frame_stays (row_in_list v.rows) given volume r (with_frame page frame r) there give_here give_others w k
      (λ e. get_or-set_other r.pages page k (Some frame) None (λ same. differs (e, same)))

  had_none : frame_in (row_in_list v.rows) volume page ≡ None
  had_none = ap (λ (o : Option RowValue). option_and_then (λ k. frame_of k page) o) there ∙ none

  pub given_keeps : (w k f : ℕ) → frame_in (row_in_list v.rows) w k ≡ Some f → frame_in (row_in_list (slice_set v.rows volume (Some (with_frame page frame r)))) w k ≡ Some f
  given_keeps w k f is = given_other w k (λ both. let o : ◌≡◌ {A = Option ℕ} None (Some f) = sym had_none ∙ (λ i. frame_in (row_in_list v.rows) (sym both.0 i) (sym both.1 i)) ∙ is in cc) ∙ is

  pub given_from : (w k f : ℕ) → frame_in (row_in_list (slice_set v.rows volume (Some (with_frame page frame r)))) w k ≡ Some f → (((w ≡ volume) × (k ≡ page)) × (f ≡ frame)) ⊎ (frame_in (row_in_list v.rows) w k ≡ Some f)
  given_from w k f is = elim (eqb_tells w volume) [
    | inl e ↦ elim (eqb_tells k page) [
      | inl g ↦ let o : Some f ≡ Some frame = sym is ∙ (λ i. frame_in given (e.1 i) (g.1 i)) ∙ given_it in inl ((e.1, g.1), some_is f frame o)
      | inr g ↦ inr (sym (given_other w k (λ both. g.1 both.1)) ∙ is)
    ]
    | inr e ↦ inr (sym (given_other w k (λ both. e.1 both.0)) ∙ is)
  ]

  given_page_differs : (task : Task) (t : Transfer) (request : Request) → IsTransfer (row_in_list v.rows) task.frame task.victim request t → t.volume ≡ volume → t.cylinder / 8 ≢ page
  given_page_differs task t request its same at =
      let row_is : its.row ≡ r = some_is its.row r (sym its.there ∙ ap (row_in_list v.rows) same ∙ there) in
      let e : Some task.frame ≡ None = sym (framed_by (row_in_list v.rows) task.frame task.victim request t its) ∙ (λ i. frame_of (row_is i) (at i)) ∙ none in
      cc

  pub given_waits : (w cylinder : ℕ) → ForSome (row_in_list v.rows w) (λ k. state_of k cylinder < 2) → ForSome (row_in_list (slice_set v.rows volume (Some (with_frame page frame r))) w) (λ k. state_of k cylinder < 2)
  given_waits w cylinder = waits_stay (row_in_list v.rows) given volume r (with_frame page frame r) there give_here give_others w cylinder (λ same waits. waits)

  pub given_waiting : AreWaiting (row_in_list (slice_set v.rows volume (Some (with_frame page frame r)))) v.requests
  given_waiting h q asked queued =
      waits_stay (row_in_list v.rows) given volume r (with_frame page frame r) there give_here give_others q.volume q.cylinder (λ same waits. waits) (core.waiting h q asked queued)

  pub given_task : (task : Task) (is : IsTask v.config.frames (row_in_list v.rows) v.moving v.requests v.hosts task) → task.frame ≢ frame → is.request.volume ≢ volume
      → IsTask v.config.frames (row_in_list (slice_set v.rows volume (Some (with_frame page frame r)))) v.moving v.requests v.hosts task
  given_task task is other apart =
      task_stays (row_in_list v.rows) given volume r (with_frame page frame r) there give_here give_others v.config.frames v.moving v.moving v.requests v.requests v.hosts task is is.moves refl
      (λ same waits. waits)
      (has_frame_by (row_in_list v.rows) given task.frame task.victim is.request.volume (is.request.cylinder / 8) (λ w k at. given_keeps w k task.frame at)
      (λ free. given_other is.request.volume (is.request.cylinder / 8) (λ both. apart both.0) ∙ free)
      (λ free w k at. elim (given_from w k task.frame at) [ inl new ↦ other new.1 | inr old ↦ free w k old ]) is.frame_)
      (λ t copies same. same_but_frame r page frame t.cylinder (given_page_differs task t is.request (is.transfer_ t copies) same))

  pub given_served : (c d : Content) → ((unit : UnitNo) (block : ℕ) → is_table unit ≡ false → d unit block ≡ c unit block) → (task : Task)
      → IsTask v.config.frames (row_in_list v.rows) v.moving v.requests v.hosts task → IsServed c (row_in_list v.rows) task → IsServed d (row_in_list (slice_set v.rows volume (Some (with_frame page frame r)))) task
  given_served c d alike task is served =
      served_stays (row_in_list v.rows) given volume r (with_frame page frame r) there give_here give_others c d task task.frame is.request is.transfer_
      (λ t copies same. same_but_frame r page frame t.cylinder (given_page_differs task t is.request (is.transfer_ t copies) same))
      (λ t k copies at counts head low_head place in_. frames_alike c d alike k t.cylinder head place in_) (λ t k copies at head low_head. cartridges_alike c d alike k t.cylinder head) served
