-- A core stays whole where the victim's page gives its frame back.
use Rattle.std.proofs.Common.{◌≡◌, ◌≢◌, inl, inr, ℕ, ◌/◌, ◌≤◌, ◌<◌, true, false, List, [], ◌∷◌, ◌++◌, Option, Some, None, refl, sym, ◌∙◌, ap, subst, arith, get_or-set_same, get_or-set_other}
use Rattle.std.specs.Prelude.{slice_set, is_some}
use Rattle.std.specs.Option.{option_and_then, ForSome}
use Rattle.std.proofs.lemmas.Bool.Decides.{eqb_tells}
use Rattle.std.proofs.lemmas.List.{length-set}
use Rattle.mss_base.specs.Content.{SiteLog, content}
use Rattle.volume_table.specs.Row.{RowValue, frame_of, state_of}
use Rattle.volume_table.specs.Listed.{row_in_list, with_changed}
use Rattle.volume_table.specs.Changes.{IsAllowed, without_frame}
use Rattle.volume_table.specs.declared.changes.Change.TheVariants.{Free}
use Rattle.volume_table.proofs.RowLemmas.{row-without_frame}
use Rattle.table_pair.specs.Slots.{with_used_after}
use Rattle.shown_volumes.specs.Sound.{frame_in}
use Rattle.fault_queue.specs.declared.queue.Request.{Request}
use Rattle.fault_queue.specs.declared.queue.RequestState.TheVariants.{Ready}
use Rattle.fault_queue.specs.Requests.{request_of}
use Rattle.transfers.specs.declared.transfer.Transfer.{Transfer}
use Rattle.core_state.specs.declared.task.Task.{Task}
use Rattle.core_state.specs.declared.session.Event.TheVariants.{Work}
use Rattle.core_state.specs.Agrees.{message_of}
use Rattle.mss_base.specs.declared.site.Site.{Ghosts}
use Rattle.victim_choice.specs.declared.choose.Candidate.{Candidate}
use Rattle.core_state.specs.declared.rule.WorkAnswer.{WorkAnswer}
use Rattle.core_state.specs.declared.rule.WorkAnswer.TheVariants.{Did, Stopped}
use Rattle.core_state.specs.declared.rule.WorkKind.TheVariants as work
use Rattle.core_state.specs.declared.rule.WorkRule.TheVariants.{Frees}
use Rattle.core_state.specs.CoreValue.{CoreValue, seen_core}
use Rattle.core_state.specs.WorkEvents.{WithTask, TaskDoes, WorkDoes}
use Rattle.core_state.specs.SessionData.{data_of}
use Rattle.core_state.specs.Pins.{task_at, owner_at}
use Rattle.core_state.specs.Tasks.{IsTask, HasFrame, IsNowhere}
use Rattle.core_state.specs.IsCore.{IsCore}
use Rattle.core_state.specs.TheCore.{IsWhole, IsKept}
use Rattle.core_state.specs.Entered.{core_after_work}
use Rattle.core_state.specs.Working.{Serves, MayFree}
use Rattle.core_state.proofs.Making.{make_whole}
use Rattle.core_state.proofs.RuleWalks.{some_is, none_some}
use Rattle.core_state.proofs.TaskLists.{tasks_go_on}
use Rattle.core_state.proofs.CoreFacts.{one_page}
use Rattle.core_state.proofs.CoreWork.{AreOwned, asked_of, core_work}
use Rattle.core_state.proofs.RowOwners.{rows_put, listed_low}
use Rattle.core_state.proofs.RowEvents.{told_by_change, blocks_stay}
use Rattle.core_state.proofs.CountedFacts.{counted_message}
use Rattle.core_state.proofs.Others.{freed_waits, freed_waiting, frames_apart, freed_none, freed_other, freed_from, freed_keeps, freed_task, freed_served}
use Rattle.core_state.proofs.Fitting.{ready_row, row_still, staged_left}
use Rattle.work_events.proofs.OwnTask.{own_moving, own_waits, own_frame, fit_on, served_put, place_in, served_now}
use Rattle.work_events.proofs.ChangedRows.{FailsChange, HasRewritten, HaveChanged, IsDueChange, IsDone, with_row_stopped, with_slot, core_slot, may_now, kept_changed}

module _ (S : Type 0) {C : Type 0} (tells : Type 0) (s : SiteLog) (v : CoreValue S C) (whole : IsWhole tells s v) (open_ : v.stopped ≡ None) (n : ℕ) (old : Task) (at : task_at v.tasks n ≡ Some old) (wanted : Request) (wants : request_of v.requests old.host ≡ Some wanted) where
  core : IsCore v
  core = whole.kept open_

  found : IsTask v.config.frames (row_in_list v.rows) v.moving v.requests v.hosts old
  found = core.tasks_.each n old at

  -- ---- Free: the victim's page gives its frame back
  module _ (t : SiteLog) (x : S) (mark : ℕ) (w : ℕ × ℕ) (takes_ : old.victim ≡ Some w) (bare : old.transfer ≡ None) (r : RowValue) (there : row_in_list v.rows w.0 ≡ Some r) (unchanged : (y : ℕ) → y / 8 ≡ w.1 → state_of r y ≢ 4) (untouched : old.touched ≡ false) where
    asked_none : (frame_in (row_in_list v.rows) w.0 w.1 ≡ Some old.frame) × (frame_in (row_in_list v.rows) wanted.volume (wanted.cylinder / 8) ≡ None)
    asked_none = subst (λ (o : Option (ℕ × ℕ)). HasFrame (row_in_list v.rows) old.frame o wanted.volume (wanted.cylinder / 8)) takes_ (own_frame S v core n old at wanted wants)

    has_f : frame_of r w.1 ≡ Some old.frame
    has_f = sym (ap (λ (o : Option RowValue). option_and_then (λ k. frame_of k w.1) o) there) ∙ asked_none.0

    low_f : w.0 < 32
    low_f = listed_low S v core w.0 r there

    abbrev free_task : Task
    free_task = record old { victim = None }

    abbrev free_rows : List (Option RowValue)
    free_rows = slice_set v.rows w.0 (Some (without_frame w.1 r))

    nowhere : IsNowhere (row_in_list (slice_set v.rows w.0 (Some (without_frame w.1 r)))) old.frame
    nowhere a b is =
        let before_ = freed_from S v core w.0 w.1 old.frame r there low_f has_f a b old.frame is in
        let one = one_page S v core a w.0 b w.1 old.frame before_ asked_none.0 in
        let e : ◌≡◌ {A = Option ℕ} None (Some old.frame) = sym (freed_none S v core w.0 w.1 old.frame r there low_f has_f) ∙ (λ i. frame_in (row_in_list (slice_set v.rows w.0 (Some (without_frame w.1 r)))) (sym one.0 i) (sym one.1 i)) ∙ is in
        cc

    still_none : frame_in (row_in_list (slice_set v.rows w.0 (Some (without_frame w.1 r)))) wanted.volume (wanted.cylinder / 8) ≡ None
    still_none =
        freed_other S v core w.0 w.1 old.frame r there low_f has_f wanted.volume (wanted.cylinder / 8)
        (λ both. let e : Some old.frame ≡ None = sym asked_none.0 ∙ (λ i. frame_in (row_in_list v.rows) (sym both.0 i) (sym both.1 i)) ∙ asked_none.1 in cc) ∙ asked_none.1

    free_waits : ForSome (row_in_list (slice_set v.rows w.0 (Some (without_frame w.1 r))) wanted.volume) (λ k. state_of k wanted.cylinder < 2)
    free_waits = freed_waits S v core w.0 w.1 old.frame r there low_f has_f wanted.volume wanted.cylinder (own_waits S v core n old at wanted wants)

    own_f : IsTask v.config.frames (row_in_list (slice_set v.rows w.0 (Some (without_frame w.1 r)))) v.moving v.requests v.hosts free_task
    own_f = record {
      low = found.low;
      moves = found.moves;
      request = wanted;
      asked = wants;
      is_moving_ = (own_moving S v core n old at wanted wants);
      waits = free_waits;
      frame_ = inr (still_none, nowhere);
      unbound = λ victim e. absurd (no_victim victim e);
      transfer_ = λ u e. absurd (let o : ◌≡◌ {A = Option Transfer} None (Some u) = sym bare ∙ e in cc);
    }
      where
        no_victim : (victim : ℕ × ℕ) → ◌≡◌ {A = Option (ℕ × ℕ)} None (Some victim) → ⊥
        no_victim victim e = cc

    owned_f : AreOwned v.config.frames (slice_set v.rows w.0 (Some (without_frame w.1 r))) (slice_set v.owners old.frame None)
    owned_f = record {
      places = length-set v.rows w.0 (Some (without_frame w.1 r)) ∙ core.places;
      are_rows = rows_put S v core w.0 (without_frame w.1 r) low_f (row-without_frame w.1 r (core.are_rows w.0 r there) unchanged);
      owners_ = length-set v.owners old.frame None ∙ core.owners_;
      framed = λ a b frame is. core.framed a b frame (freed_from S v core w.0 w.1 old.frame r there low_f has_f a b frame is);
      owned = λ frame a b in_. elim (eqb_tells frame old.frame) [
        | inl e ↦ (
          (λ is. absurd (let o : ◌≡◌ {A = Option (ℕ × ℕ)} None (Some (a, b)) = sym (ap (owner_at (slice_set v.owners old.frame None)) e.1 ∙ none_there) ∙ is in cc)),
          (λ is. absurd (nowhere a b (is ∙ ap (λ (k : ℕ). Some k) e.1))),
        )
        | inr e ↦ (
          (λ is. freed_keeps S v core w.0 w.1 old.frame r there low_f has_f a b frame e.1 ((core.owned frame a b in_).0 (sym (get_or-set_other v.owners old.frame frame None None e.1) ∙ is))),
          (λ is. get_or-set_other v.owners old.frame frame None None e.1 ∙ (core.owned frame a b in_).1 (freed_from S v core w.0 w.1 old.frame r there low_f has_f a b frame is)),
        )
      ];
    }
      where
        none_there : owner_at (slice_set v.owners old.frame None) old.frame ≡ None
        none_there = get_or-set_same v.owners old.frame None None (let l = core.owners_ in let k = found.low in omega (arith, l, k))

    -- no Ready request is on the page
    unheld : (k : ℕ) (q : Request) → request_of v.requests k ≡ Some q → q.state ≡ Ready → q.volume ≡ w.0 → q.cylinder / 8 ≡ w.1 → ⊥
    unheld k q asked ready same page_ =
        let is = core.fit.ready k q asked ready in
        let e : false ≡ true = sym untouched ∙ is.touched_ n old at (takes_ ∙ (λ i. Some (sym same i, sym page_ i))) in
        cc

    pub free_allowed : IsAllowed (Free w.1) r
    free_allowed = (ap is_some has_f, unchanged)

    pub whole_freed : (tells → HasRewritten s v w.0 (Free w.1) t mark r)
        → IsWhole tells t (core_after_work (with_slot w.0 v) x (slice_set v.rows w.0 (Some (without_frame w.1 r)))
        (v.console ++ message_of mark w.0 (Free w.1) (row_in_list v.rows) ∷ []) (slice_set v.owners old.frame None) v.moving v.requests (slice_set v.tasks n (Some (record old { victim = None }))))
    whole_freed changed = make_whole (core_work S (with_slot w.0 v) (core_slot S v core w.0) x free_rows _ (slice_set v.owners old.frame None) v.moving v.requests _ owned_f core.moving_ (asked_of S v core) (freed_waiting S v core w.0 w.1 old.frame r there low_f has_f)
        (tasks_go_on v.config.frames (row_in_list v.rows) _ v.moving v.requests v.hosts v.tasks core.tasks_ n old free_task at refl refl own_f
        (λ m task other is. freed_task S v core w.0 w.1 old.frame r there low_f has_f task (core.tasks_.each m task is) (frames_apart S v core n old at m task other is)))
        (fit_on S v core n old at wanted wants free_task (inr refl) refl _ (row_still v.rows w.0 r (without_frame w.1 r) there (place_in S v core n old at wanted wants w.0 low_f))
        (λ k q asked ready tasks is. ready_row v.rows w.0 r (without_frame w.1 r) there (place_in S v core n old at wanted wants w.0 low_f) tasks q (λ same two. staged_left w.1 r q.cylinder (λ page_. unheld k q asked ready same page_) two) is)))
        (λ tl.
        let c = changed tl in
        let may = may_now S tells s v whole open_ w.0 (Free w.1) r there free_allowed (λ _. tt) (λ _. tt) tl in
        told_by_change S s t v x core (whole.told tl) open_ w.0 mark (Free w.1) r there low_f (λ o. refl) refl (free_allowed, tt) may c.writes c.changed c.at_end c.grows (slice_set v.owners old.frame None) v.moving v.requests _
        (served_put S v core n old at wanted wants (content t) (row_in_list free_rows) (Some free_task)
        (λ task e u k copies_ there_. let e' : ◌≡◌ {A = Option Transfer} None (Some u) = sym bare ∙ ap (λ (z : Task). z.transfer) (some_is free_task task e) ∙ copies_ in absurd cc)
        (λ m task other is. freed_served S v core w.0 w.1 old.frame r there low_f has_f (content s) (content t)
        (λ unit block none. blocks_stay S s t v x core (whole.told tl) open_ w.0 mark (Free w.1) r there low_f (λ o. refl) refl (free_allowed, tt) may c.writes c.changed c.at_end c.grows v.owners v.moving v.requests [] (λ k z zz. absurd (none_some z zz)) unit block none)
        task (core.tasks_.each m task is) (frames_apart S v core n old at m task other is) (served_now S tells s v whole open_ tl m task is))))

-- ---- the core that is left, and that it is the event's

abbrev pub freed : {S C : Type 0} → CoreValue S C → ℕ → Task → ℕ → ℕ → S → ℕ → CoreValue S C
freed v n old volume page x mark = record v {
  site = x;
  rows = with_changed volume (Free page) v.rows;
  used = with_used_after volume v.used;
  console = v.console ++ message_of mark volume (Free page) (row_in_list v.rows) ∷ [];
  owners = slice_set v.owners old.frame None;
  tasks = slice_set v.tasks n (Some (record old { victim = None }));
  events = v.events ++ Work n ∷ [];
}

pub freed_does : {S C : Type 0} (g : Ghosts S) (may : List Candidate → ℕ → Type 0) (v w : CoreValue S C) (n : ℕ) (old : Task) (volume page : ℕ) (answer : WorkAnswer)
    → answer ≡ Did work.Free → task_at v.tasks n ≡ Some old → HaveChanged g v volume (Free page) w.site → w ≡ freed v n old volume page w.site (g.writes w.site)
    → WorkDoes g.tells may (seen_core g v) n (Frees volume page) answer (seen_core g w)
freed_does {S} {C} g may v w n old volume page answer is at have path =
    subst (λ (a : WorkAnswer). WorkDoes g.tells may (seen_core g v) n (Frees volume page) a (seen_core g w)) (sym is)
    (subst (λ (o : Option Task). WithTask o (λ task. TaskDoes g.tells (seen_core g v) n (Frees volume page) task (Did work.Free) (seen_core g w))) (sym at)
    (have, refl, ap (λ (z : CoreValue S C). seen_core g z) path))

-- a write of it failed
pub unfreed_does : {S C : Type 0} (g : Ghosts S) (may : List Candidate → ℕ → Type 0) (v w : CoreValue S C) (n : ℕ) (old : Task) (volume page : ℕ) (answer : WorkAnswer)
    → answer ≡ Stopped (g.faults w.site) → task_at v.tasks n ≡ Some old → FailsChange g v volume (Free page) w.site → w ≡ with_row_stopped v n volume (Free page) w.site (g.faults w.site)
    → WorkDoes g.tells may (seen_core g v) n (Frees volume page) answer (seen_core g w)
unfreed_does {S} {C} g may v w n old volume page answer is at fails path =
    subst (λ (a : WorkAnswer). WorkDoes g.tells may (seen_core g v) n (Frees volume page) a (seen_core g w)) (sym is)
    (subst (λ (o : Option Task). WithTask o (λ task. TaskDoes g.tells (seen_core g v) n (Frees volume page) task (Stopped (g.faults w.site)) (seen_core g w))) (sym at)
    (fails, ap (λ (z : CoreValue S C). seen_core g z) path))

-- ---- the change is due, and with it the core is kept

module _ (S : Type 0) {C : Type 0} (tells : Type 0) (s : SiteLog) (v : CoreValue S C) (whole : IsWhole tells s v) (open_ : v.stopped ≡ None) (n : ℕ) (old : Task) (q : Request) (serves : Serves v n old q)
    (volume page : ℕ) (may : MayFree v old volume page) where
  pub due_freed : IsDueChange tells s v volume (Free page)
  due_freed = record { r = may.r; there = may.there; allowed = free_allowed S tells s v whole open_ n old serves.at q serves.asked s v.site 0 (volume, page) may.takes_ may.bare may.r may.there may.unchanged may.untouched; ready = λ _. tt; firm = λ _. tt }

module _ (S : Type 0) {C : Type 0} (tells : Type 0) (s t : SiteLog) (writes faults later_writes later : ℕ) (v : CoreValue S C) (kept : IsKept tells s writes faults v) (open_ : v.stopped ≡ None) (n : ℕ) (old : Task) (q : Request) (serves : Serves v n old q)
    (x : S) (more : writes ≤ later_writes) (le : faults ≤ later)
    (volume page : ℕ) (may : MayFree v old volume page) where
  pub kept_freed : IsDone tells s v volume (Free page) t later_writes
      → IsKept tells t later_writes later (freed v n old volume page x later_writes)
  kept_freed done_ =
      kept_changed S tells s t writes faults later_writes later v kept open_ n x volume (Free page) more le may.r may.there (slice_set v.owners old.frame None) v.moving v.requests (slice_set v.tasks n (Some (record old { victim = None })))
      (whole_freed S tells s v kept.whole open_ n old serves.at q serves.asked t x later_writes (volume, page) may.takes_ may.bare may.r may.there may.unchanged may.untouched (λ tl. done_ tl may.r may.there))
      (counted_message writes faults later_writes later v.requests (data_of v) kept.counted more le (message_of later_writes volume (Free page) (row_in_list v.rows)) (omega arith))
