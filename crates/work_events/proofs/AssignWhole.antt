-- A core stays whole where the page that is asked for gets its frame.
use Rattle.std.proofs.Common.{◌≡◌, ◌⊎◌, inl, inr, ℕ, ◌/◌, ◌≤◌, ◌<◌, List, [], ◌∷◌, ◌++◌, Option, Some, None, refl, sym, ◌∙◌, ap, subst, arith, get_or-set_same, get_or-set_other}
use Rattle.std.specs.Prelude.{slice_set}
use Rattle.std.specs.Option.{option_and_then}
use Rattle.std.proofs.lemmas.Bool.Decides.{eqb_tells}
use Rattle.std.proofs.lemmas.List.{length-set}
use Rattle.mss_base.specs.Content.{SiteLog, content}
use Rattle.volume_table.specs.Row.{RowValue, IsRow, frame_of}
use Rattle.volume_table.specs.Listed.{row_in_list, with_changed}
use Rattle.volume_table.specs.Changes.{IsAllowed, with_frame}
use Rattle.volume_table.specs.declared.changes.Change.TheVariants.{Assign}
use Rattle.table_pair.specs.Slots.{with_used_after}
use Rattle.shown_volumes.specs.Shown.{RowsOf}
use Rattle.shown_volumes.specs.Sound.{frame_in}
use Rattle.shown_volumes.specs.Changing.{IsReady}
use Rattle.shown_volumes.proofs.OutsideFacts.{page_names}
use Rattle.fault_queue.specs.declared.queue.Request.{Request}
use Rattle.fault_queue.specs.Requests.{request_of}
use Rattle.transfers.specs.declared.transfer.Transfer.{Transfer}
use Rattle.core_state.specs.declared.task.Task.{Task}
use Rattle.core_state.specs.declared.session.Event.TheVariants.{Work}
use Rattle.core_state.specs.Agrees.{message_of}
use Rattle.mss_base.specs.declared.site.Site.{Ghosts}
use Rattle.victim_choice.specs.declared.choose.Candidate.{Candidate}
use Rattle.core_state.specs.declared.rule.WorkAnswer.{WorkAnswer}
use Rattle.core_state.specs.declared.rule.WorkAnswer.TheVariants.{Did, Stopped}
use Rattle.core_state.specs.declared.rule.WorkKind.TheVariants as work
use Rattle.core_state.specs.declared.rule.WorkRule.TheVariants.{Assigns}
use Rattle.core_state.specs.CoreValue.{CoreValue, seen_core}
use Rattle.core_state.specs.WorkEvents.{WithTask, TaskDoes, WorkDoes}
use Rattle.core_state.specs.SessionData.{data_of}
use Rattle.core_state.specs.Pins.{task_at, owner_at}
use Rattle.core_state.specs.Tasks.{IsTask, HasFrame, IsNowhere}
use Rattle.core_state.specs.IsCore.{IsCore}
use Rattle.core_state.specs.TheCore.{IsWhole, IsKept}
use Rattle.core_state.specs.Entered.{core_after_work}
use Rattle.core_state.specs.Working.{Serves, MayAssign}
use Rattle.core_state.proofs.Making.{make_whole}
use Rattle.core_state.proofs.RuleWalks.{some_is, none_some}
use Rattle.core_state.proofs.CoreWork.{AreOwned, asked_of, core_work}
use Rattle.core_state.proofs.RowOwners.{rows_put, listed_low}
use Rattle.core_state.proofs.RowEvents.{told_by_change, blocks_stay}
use Rattle.core_state.proofs.CountedFacts.{counted_message}
use Rattle.core_state.proofs.Others.{given_waits, given_waiting, frames_apart, requests_apart, given_it, given_keeps, given_from, given_task, given_served}
use Rattle.core_state.proofs.Fitting.{ready_row, row_still, fit_same}
use Rattle.work_events.proofs.OwnTask.{own_moving, own_waits, own_frame, place_in, rows_now, served_now}
use Rattle.work_events.proofs.RuleFacts.{MayAssignPage}
use Rattle.work_events.proofs.ChangedRows.{FailsChange, HasRewritten, HaveChanged, IsDueChange, IsDone, with_row_stopped, with_slot, core_slot, may_now, kept_changed}
use Rattle.victim_choice.specs.Order.{order_after}
use Rattle.work_events.proofs.KeptFacts.{kept_touched}

module _ (S : Type 0) {C : Type 0} (tells : Type 0) (s : SiteLog) (v : CoreValue S C) (whole : IsWhole tells s v) (open_ : v.stopped ≡ None) (n : ℕ) (old : Task) (at : task_at v.tasks n ≡ Some old) (wanted : Request) (wants : request_of v.requests old.host ≡ Some wanted) where
  core : IsCore v
  core = whole.kept open_

  found : IsTask v.config.frames (row_in_list v.rows) v.moving v.requests v.hosts old
  found = core.tasks_.each n old at

  -- ---- Assign: the page that is asked for gets the frame
  module _ (t : SiteLog) (x : S) (mark : ℕ) (free : old.victim ≡ None) (bare : old.transfer ≡ None) (r : RowValue) (there : row_in_list v.rows wanted.volume ≡ Some r)
      (none : frame_of r (wanted.cylinder / 8) ≡ None) (low_cylinder : wanted.cylinder < 404) (row : IsRow (with_frame (wanted.cylinder / 8) old.frame r)) where
    page : ℕ
    page = wanted.cylinder / 8

    low_a : wanted.volume < 32
    low_a = listed_low S v core wanted.volume r there

    inside_a : wanted.cylinder / 8 < 51
    inside_a = omega (arith, low_cylinder)

    asked_bare : frame_in (row_in_list v.rows) wanted.volume (wanted.cylinder / 8) ≡ None
    asked_bare = ap (λ (o : Option RowValue). option_and_then (λ k. frame_of k (wanted.cylinder / 8)) o) there ∙ none

    nowhere_a : IsNowhere (row_in_list v.rows) old.frame
    nowhere_a = elim (subst (λ (o : Option (ℕ × ℕ)). HasFrame (row_in_list v.rows) old.frame o wanted.volume (wanted.cylinder / 8)) free (own_frame S v core n old at wanted wants)) [
      | inl has ↦ absurd (let e : ◌≡◌ {A = Option ℕ} None (Some old.frame) = sym asked_bare ∙ has in cc)
      | inr loose ↦ loose.1
    ]

    abbrev give_rows : List (Option RowValue)
    give_rows = slice_set v.rows wanted.volume (Some (with_frame (wanted.cylinder / 8) old.frame r))

    abbrev give_owners : List (Option (ℕ × ℕ))
    give_owners = slice_set v.owners old.frame (Some (wanted.volume, wanted.cylinder / 8))

    pub give_allowed : IsAllowed (Assign (wanted.cylinder / 8) old.frame) r
    give_allowed = (none, (λ other is. nowhere_a wanted.volume other (page_names (row_in_list v.rows) wanted.volume other old.frame r there is)))

    pub give_ready : tells → IsReady v.config.frames (Assign (wanted.cylinder / 8) old.frame) r (content s)
    give_ready tl = (found.low, (λ a b small is. nowhere_a a b (ap (λ (rows : RowsOf). frame_in rows a b) (sym (rows_now S tells s v whole open_ tl)) ∙ is)))

    own_a : IsTask v.config.frames (row_in_list (slice_set v.rows wanted.volume (Some (with_frame (wanted.cylinder / 8) old.frame r)))) v.moving v.requests v.hosts old
    own_a = record {
      low = found.low;
      moves = found.moves;
      request = wanted;
      asked = wants;
      is_moving_ = (own_moving S v core n old at wanted wants);
      waits = given_waits S v core wanted.volume (wanted.cylinder / 8) old.frame r there low_a none inside_a nowhere_a wanted.volume wanted.cylinder (own_waits S v core n old at wanted wants);
      frame_ = subst (λ (o : Option (ℕ × ℕ)). HasFrame (row_in_list (slice_set v.rows wanted.volume (Some (with_frame (wanted.cylinder / 8) old.frame r)))) old.frame o wanted.volume (wanted.cylinder / 8)) (sym free)
          (inl (given_it S v core wanted.volume (wanted.cylinder / 8) old.frame r there low_a none inside_a nowhere_a));
      unbound = found.unbound;
      transfer_ = λ u e. absurd (let o : ◌≡◌ {A = Option Transfer} None (Some u) = sym bare ∙ e in cc);
    }

    each_a : (m : ℕ) (task : Task) → task_at v.tasks m ≡ Some task → IsTask v.config.frames (row_in_list (slice_set v.rows wanted.volume (Some (with_frame (wanted.cylinder / 8) old.frame r)))) v.moving v.requests v.hosts task
    each_a m task is = elim (eqb_tells m n) [
      | inl e ↦ subst (IsTask v.config.frames (row_in_list give_rows) v.moving v.requests v.hosts) (some_is old task (sym at ∙ ap (task_at v.tasks) (sym e.1) ∙ is)) own_a
      | inr e ↦
          let its_ = core.tasks_.each m task is in
          given_task S v core wanted.volume (wanted.cylinder / 8) old.frame r there low_a none inside_a nowhere_a task its_ (frames_apart S v core n old at m task e.1 is)
          (requests_apart S v core n old at m task e.1 is its_.request wanted its_.asked wants)
    ]

    owned_a : AreOwned v.config.frames (slice_set v.rows wanted.volume (Some (with_frame (wanted.cylinder / 8) old.frame r))) (slice_set v.owners old.frame (Some (wanted.volume, wanted.cylinder / 8)))
    owned_a = record {
      places = length-set v.rows wanted.volume (Some (with_frame (wanted.cylinder / 8) old.frame r)) ∙ core.places;
      are_rows = rows_put S v core wanted.volume (with_frame (wanted.cylinder / 8) old.frame r) low_a row;
      owners_ = length-set v.owners old.frame (Some (wanted.volume, wanted.cylinder / 8)) ∙ core.owners_;
      framed = λ a b frame is. elim (from a b frame is) [
        | inl new ↦ subst (λ (k : ℕ). k < v.config.frames) (sym new.1) found.low
        | inr was ↦ core.framed a b frame was
      ];
      owned = λ frame a b in_. elim (eqb_tells frame old.frame) [
        | inl e ↦ (
          (λ is.
              let o : Some (wanted.volume, wanted.cylinder / 8) ≡ Some (a, b) = sym (ap (owner_at give_owners) e.1 ∙ put_there) ∙ is in
              (λ i. frame_in (row_in_list give_rows) (volume_in (sym o i)) (page_in (sym o i))) ∙ given_it S v core wanted.volume (wanted.cylinder / 8) old.frame r there low_a none inside_a nowhere_a ∙ ap (λ (k : ℕ). Some k) (sym e.1)),
          (λ is. elim (from a b frame is) [
            | inl new ↦ ap (owner_at give_owners) e.1 ∙ put_there ∙ (λ i. Some (sym new.0.0 i, sym new.0.1 i))
            | inr was ↦ absurd (nowhere_a a b (was ∙ ap (λ (k : ℕ). Some k) e.1))
          ]),
        )
        | inr e ↦ (
          (λ is. given_keeps S v core wanted.volume (wanted.cylinder / 8) old.frame r there low_a none inside_a nowhere_a a b frame
              ((core.owned frame a b in_).0 (sym (get_or-set_other v.owners old.frame frame (Some (wanted.volume, wanted.cylinder / 8)) None e.1) ∙ is))),
          (λ is. get_or-set_other v.owners old.frame frame (Some (wanted.volume, wanted.cylinder / 8)) None e.1 ∙ elim (from a b frame is) [
            | inl new ↦ absurd (e.1 new.1)
            | inr was ↦ (core.owned frame a b in_).1 was
          ]),
        )
      ];
    }
      where
        from : (a b f : ℕ) → frame_in (row_in_list give_rows) a b ≡ Some f → (((a ≡ wanted.volume) × (b ≡ wanted.cylinder / 8)) × (f ≡ old.frame)) ⊎ (frame_in (row_in_list v.rows) a b ≡ Some f)
        from a b f is = given_from S v core wanted.volume (wanted.cylinder / 8) old.frame r there low_a none inside_a nowhere_a a b f is

        put_there : owner_at give_owners old.frame ≡ Some (wanted.volume, wanted.cylinder / 8)
        put_there = get_or-set_same v.owners old.frame (Some (wanted.volume, wanted.cylinder / 8)) None (let l = core.owners_ in let k = found.low in omega (arith, l, k))

        volume_in : Option (ℕ × ℕ) → ℕ
        volume_in None = 0
        volume_in (Some z) = z.0

        page_in : Option (ℕ × ℕ) → ℕ
        page_in None = 0
        page_in (Some z) = z.1

    pub whole_assigned : (tells → HasRewritten s v wanted.volume (Assign (wanted.cylinder / 8) old.frame) t mark r)
        → IsWhole tells t (core_after_work (with_slot wanted.volume v) x (slice_set v.rows wanted.volume (Some (with_frame (wanted.cylinder / 8) old.frame r)))
        (v.console ++ message_of mark wanted.volume (Assign (wanted.cylinder / 8) old.frame) (row_in_list v.rows) ∷ [])
        (slice_set v.owners old.frame (Some (wanted.volume, wanted.cylinder / 8))) v.moving v.requests v.tasks)
    whole_assigned changed = make_whole (core_work S (with_slot wanted.volume v) (core_slot S v core wanted.volume) x give_rows _ give_owners v.moving v.requests v.tasks owned_a core.moving_ (asked_of S v core)
        (given_waiting S v core wanted.volume (wanted.cylinder / 8) old.frame r there low_a none inside_a nowhere_a)
        (record { each = each_a; frames_once = core.tasks_.frames_once; hosts_once = core.tasks_.hosts_once; moved = core.tasks_.moved; awaited = core.tasks_.awaited })
        (fit_same v.config.recorders v.rows give_rows v.requests v.hosts v.tasks v.tasks core.fit refl (row_still v.rows wanted.volume r (with_frame (wanted.cylinder / 8) old.frame r) there (place_in S v core n old at wanted wants wanted.volume low_a))
        (λ k q asked ready is. ready_row v.rows wanted.volume r (with_frame (wanted.cylinder / 8) old.frame r) there (place_in S v core n old at wanted wants wanted.volume low_a) v.tasks q (λ same two. two) is)))
        (λ tl.
        let c = changed tl in
        let may = may_now S tells s v whole open_ wanted.volume (Assign (wanted.cylinder / 8) old.frame) r there give_allowed give_ready (λ _. tt) tl in
        told_by_change S s t v x core (whole.told tl) open_ wanted.volume mark (Assign (wanted.cylinder / 8) old.frame) r there low_a (λ o. refl) refl (give_allowed, nowhere_a) may c.writes c.changed c.at_end c.grows give_owners v.moving v.requests v.tasks
        (λ m task is. given_served S v core wanted.volume (wanted.cylinder / 8) old.frame r there low_a none inside_a nowhere_a (content s) (content t)
        (λ unit block nt. blocks_stay S s t v x core (whole.told tl) open_ wanted.volume mark (Assign (wanted.cylinder / 8) old.frame) r there low_a (λ o. refl) refl (give_allowed, nowhere_a) may c.writes c.changed c.at_end c.grows v.owners v.moving v.requests [] (λ k z zz. absurd (none_some z zz)) unit block nt)
        task (core.tasks_.each m task is) (served_now S tells s v whole open_ tl m task is)))

-- ---- the core that is left, and that it is the event's

-- the frame was used last
abbrev pub assigned : {S C : Type 0} → CoreValue S C → ℕ → Task → ℕ → ℕ → S → ℕ → CoreValue S C
assigned v n old volume page x mark = record v {
  site = x;
  rows = with_changed volume (Assign page old.frame) v.rows;
  used = with_used_after volume v.used;
  console = v.console ++ message_of mark volume (Assign page old.frame) (row_in_list v.rows) ∷ [];
  owners = slice_set v.owners old.frame (Some (volume, page));
  recency = order_after old.frame v.recency;
  events = v.events ++ Work n ∷ [];
}

pub assigned_does : {S C : Type 0} (g : Ghosts S) (may : List Candidate → ℕ → Type 0) (v w : CoreValue S C) (n : ℕ) (old : Task) (volume page : ℕ) (answer : WorkAnswer)
    → answer ≡ Did work.Assign → task_at v.tasks n ≡ Some old → HaveChanged g v volume (Assign page old.frame) w.site → w ≡ assigned v n old volume page w.site (g.writes w.site)
    → WorkDoes g.tells may (seen_core g v) n (Assigns volume page) answer (seen_core g w)
assigned_does {S} {C} g may v w n old volume page answer is at have path =
    subst (λ (a : WorkAnswer). WorkDoes g.tells may (seen_core g v) n (Assigns volume page) a (seen_core g w)) (sym is)
    (subst (λ (o : Option Task). WithTask o (λ task. TaskDoes g.tells (seen_core g v) n (Assigns volume page) task (Did work.Assign) (seen_core g w))) (sym at)
    (have, refl, ap (λ (z : CoreValue S C). seen_core g z) path))

-- a write of it failed
pub unassigned_does : {S C : Type 0} (g : Ghosts S) (may : List Candidate → ℕ → Type 0) (v w : CoreValue S C) (n : ℕ) (old : Task) (volume page : ℕ) (answer : WorkAnswer)
    → answer ≡ Stopped (g.faults w.site) → task_at v.tasks n ≡ Some old → FailsChange g v volume (Assign page old.frame) w.site → w ≡ with_row_stopped v n volume (Assign page old.frame) w.site (g.faults w.site)
    → WorkDoes g.tells may (seen_core g v) n (Assigns volume page) answer (seen_core g w)
unassigned_does {S} {C} g may v w n old volume page answer is at fails path =
    subst (λ (a : WorkAnswer). WorkDoes g.tells may (seen_core g v) n (Assigns volume page) a (seen_core g w)) (sym is)
    (subst (λ (o : Option Task). WithTask o (λ task. TaskDoes g.tells (seen_core g v) n (Assigns volume page) task (Stopped (g.faults w.site)) (seen_core g w))) (sym at)
    (fails, ap (λ (z : CoreValue S C). seen_core g z) path))

-- ---- the change is due, and with it the core is kept

module _ (S : Type 0) {C : Type 0} (tells : Type 0) (s : SiteLog) (v : CoreValue S C) (whole : IsWhole tells s v) (open_ : v.stopped ≡ None) (n : ℕ) (old : Task) (q : Request) (serves : Serves v n old q)
  where
    pub due_assigned : (volume page : ℕ) → MayAssignPage v volume page old q → IsDueChange tells s v volume (Assign page old.frame)
    due_assigned volume page (volume_is, page_is, may) =
        subst (λ (k : ℕ). IsDueChange tells s v k (Assign page old.frame)) (sym volume_is)
        (subst (λ (k : ℕ). IsDueChange tells s v q.volume (Assign k old.frame)) (sym page_is)
        (record { r = may.r; there = may.there; allowed = give_allowed S tells s v whole open_ n old serves.at q serves.asked s v.site 0 may.free may.bare may.r may.there may.none may.low may.row; ready = give_ready S tells s v whole open_ n old serves.at q serves.asked s v.site 0 may.free may.bare may.r may.there may.none may.low may.row; firm = λ _. tt }))

module _ (S : Type 0) {C : Type 0} (tells : Type 0) (s t : SiteLog) (writes faults later_writes later : ℕ) (v : CoreValue S C) (kept : IsKept tells s writes faults v) (open_ : v.stopped ≡ None) (n : ℕ) (old : Task) (q : Request) (serves : Serves v n old q)
    (x : S) (more : writes ≤ later_writes) (le : faults ≤ later)
  where
    kept_given : MayAssign v old q → IsDone tells s v q.volume (Assign (q.cylinder / 8) old.frame) t later_writes
        → IsKept tells t later_writes later (assigned v n old q.volume (q.cylinder / 8) x later_writes)
    kept_given may done_ =
        kept_touched tells t later_writes later _ old.frame ((kept.whole.kept open_).tasks_.each n old serves.at).low
        (kept_changed S tells s t writes faults later_writes later v kept open_ n x q.volume (Assign (q.cylinder / 8) old.frame) more le may.r may.there (slice_set v.owners old.frame (Some (q.volume, q.cylinder / 8))) v.moving v.requests v.tasks
        (whole_assigned S tells s v kept.whole open_ n old serves.at q serves.asked t x later_writes may.free may.bare may.r may.there may.none may.low may.row (λ tl. done_ tl may.r may.there))
        (counted_message writes faults later_writes later v.requests (data_of v) kept.counted more le (message_of later_writes q.volume (Assign (q.cylinder / 8) old.frame) (row_in_list v.rows)) (omega arith)))

    pub kept_assigned : (volume page : ℕ) → MayAssignPage v volume page old q → IsDone tells s v volume (Assign page old.frame) t later_writes
        → IsKept tells t later_writes later (assigned v n old volume page x later_writes)
    kept_assigned volume page (volume_is, page_is, may) =
        subst (λ (k : ℕ). IsDone tells s v k (Assign page old.frame) t later_writes → IsKept tells t later_writes later (assigned v n old k page x later_writes)) (sym volume_is)
        (subst (λ (k : ℕ). IsDone tells s v q.volume (Assign k old.frame) t later_writes → IsKept tells t later_writes later (assigned v n old q.volume k x later_writes)) (sym page_is)
        (kept_given may))
