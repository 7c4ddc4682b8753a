-- A core stays whole where the cylinder that is asked for is staged, and its task ends.
use Rattle.std.proofs.Common.{◌≡◌, ◌≢◌, ◌⊎◌, inl, inr, ℕ, ◌+◌, ◌/◌, ◌≤◌, ◌<◌, false, ◌==◌, List, [], ◌∷◌, ◌++◌, length, Option, Some, None, refl, sym, ◌∙◌, ap, subst, arith}
use Rattle.std.specs.Prelude.{slice_set, is_some}
use Rattle.std.proofs.lemmas.Bool.{cond-true, eq-eqb}
use Rattle.std.proofs.lemmas.List.{length-set}
use Rattle.mss_base.specs.Content.{SiteLog, content}
use Rattle.volume_table.specs.Row.{RowValue, frame_of, state_of}
use Rattle.volume_table.specs.Listed.{row_in_list, with_changed}
use Rattle.volume_table.specs.Changes.{IsAllowed, with_state}
use Rattle.volume_table.specs.declared.changes.Change.TheVariants.{Staged}
use Rattle.volume_table.proofs.RowLemmas.{row-with_state}
use Rattle.volume_table.proofs.RowFacts.{state-with_state}
use Rattle.table_pair.specs.Slots.{with_used_after}
use Rattle.shown_volumes.specs.Changing.{IsFirmFor, IsReady}
use Rattle.shown_volumes.proofs.OutsideFacts.{page_names}
use Rattle.fault_queue.specs.declared.queue.Request.{Request}
use Rattle.fault_queue.specs.declared.queue.RequestState.TheVariants.{Queued, Moving, Ready}
use Rattle.fault_queue.specs.Requests.{request_of, RequestsData, put_request, with_state as put_state}
use Rattle.fault_queue.proofs.RequestFacts.{request_other, with_state_is}
use Rattle.transfers.specs.declared.transfer.Transfer.{Transfer}
use Rattle.transfers.specs.declared.transfer.TransferKind.{TransferKind}
use Rattle.transfers.specs.declared.transfer.TransferKind.TheVariants.{StageBlank, StageCartridge, Destage}
use Rattle.transfers.specs.Copies.{AreFirm, target_unit}
use Rattle.transfers.specs.Dues.{IsDue, change_by, due_state}
use Rattle.transfers.proofs.DueFacts.{firm_for}
use Rattle.core_state.specs.declared.task.Task.{Task}
use Rattle.core_state.specs.declared.session.Event.TheVariants.{Work}
use Rattle.core_state.specs.Agrees.{message_of}
use Rattle.mss_base.specs.declared.site.Site.{Ghosts}
use Rattle.victim_choice.specs.declared.choose.Candidate.{Candidate}
use Rattle.core_state.specs.declared.rule.WorkAnswer.{WorkAnswer}
use Rattle.core_state.specs.declared.rule.WorkAnswer.TheVariants.{Did, Stopped}
use Rattle.core_state.specs.declared.rule.WorkKind.TheVariants as work
use Rattle.core_state.specs.declared.rule.WorkRule.TheVariants.{Ends}
use Rattle.core_state.specs.CoreValue.{CoreValue, seen_core, seen_site}
use Rattle.core_state.specs.Devices.{SyncUnit}
use Rattle.core_state.specs.WorkEvents.{TellsEnd, WithTask, TaskDoes, WorkDoes}
use Rattle.core_state.specs.SessionData.{data_of, with_last_message}
use Rattle.core_state.specs.Pins.{task_at}
use Rattle.core_state.specs.Tasks.{AreWaiting, IsChosen, IsTask, IsTransfer, HasFrame}
use Rattle.core_state.specs.Served.{AreCopied}
use Rattle.core_state.specs.IsCore.{IsCore}
use Rattle.core_state.specs.TheCore.{IsWhole, IsKept}
use Rattle.core_state.specs.Entered.{core_after_work}
use Rattle.core_state.specs.Fitting.{IsReadyOn, IsFit}
use Rattle.core_state.specs.Working.{Serves, MayEndStage}
use Rattle.core_state.proofs.Making.{make_whole}
use Rattle.core_state.proofs.RuleWalks.{some_is, none_some}
use Rattle.core_state.proofs.TaskLists.{task_was, tasks_ended}
use Rattle.core_state.proofs.TaskRows.{framed_by}
use Rattle.core_state.proofs.CoreWork.{core_work, waiting_again}
use Rattle.core_state.proofs.RowOwners.{owned_states, listed_low}
use Rattle.core_state.proofs.RowEvents.{told_by_change, blocks_stay, row_put}
use Rattle.core_state.proofs.CountedFacts.{counted_request, counted_message}
use Rattle.core_state.proofs.Others.{requests_once, state_waiting, frames_apart, hosts_apart, requests_apart, cylinders_apart, state_task, state_served}
use Rattle.core_state.proofs.Fitting.{ready_ended, ready_row, row_still, staged_still, fit_put}
use Rattle.work_events.proofs.OwnTask.{own_moving, own_transfer, asked_now, long_now, ended_task, fits_n, served_put, place_in, served_now}
use Rattle.work_events.proofs.RuleFacts.{MayEnd}
use Rattle.work_events.proofs.ChangedRows.{FailsChange, HasRewritten, HaveChanged, IsDueChange, IsDone, with_row_stopped, with_slot, core_slot, may_now, kept_changed}

module _ (S : Type 0) {C : Type 0} (tells : Type 0) (s : SiteLog) (v : CoreValue S C) (whole : IsWhole tells s v) (open_ : v.stopped ≡ None) (n : ℕ) (old : Task) (at : task_at v.tasks n ≡ Some old) (wanted : Request) (wants : request_of v.requests old.host ≡ Some wanted) where
  core : IsCore v
  core = whole.kept open_

  found : IsTask v.config.frames (row_in_list v.rows) v.moving v.requests v.hosts old
  found = core.tasks_.each n old at

  -- ---- End of what was staged: the task ends, and its request is ready
  module _ (t : SiteLog) (x : S) (mark : ℕ) (transfer : Transfer) (copies : old.transfer ≡ Some transfer) (kind : (transfer.kind ≡ StageBlank) ⊎ (transfer.kind ≡ StageCartridge)) (all_ : transfer.next ≡ 19)
      (r : RowValue) (there : row_in_list v.rows transfer.volume ≡ Some r) where
    its_s : IsTransfer (row_in_list v.rows) old.frame old.victim wanted transfer
    its_s = own_transfer S v core n old at wanted wants transfer copies

    row_is_s : its_s.row ≡ r
    row_is_s = some_is its_s.row r (sym its_s.there ∙ there)

    unstaged_ : state_of r transfer.cylinder < 2
    unstaged_ =
        let e : state_of r transfer.cylinder ≡ due_state transfer.kind = ap (λ (z : RowValue). state_of z transfer.cylinder) (sym row_is_s) ∙ its_s.due.state in
        elim kind [ inl blank ↦ (let f = ap due_state blank in omega (arith, e, f)) | inr copied_ ↦ (let f = ap due_state copied_ in omega (arith, e, f)) ]

    framed_s : frame_of r (transfer.cylinder / 8) ≡ Some old.frame
    framed_s = ap (λ (z : RowValue). frame_of z (transfer.cylinder / 8)) (sym row_is_s) ∙ framed_by (row_in_list v.rows) old.frame old.victim wanted transfer its_s

    pub stage_ready : tells → IsReady v.config.frames (Staged transfer.cylinder) r (content s)
    stage_ready tl =
        let are = served_now S tells s v whole open_ tl n old at transfer r copies there in
        elim kind [
          | inl blank ↦ subst (λ (k : TransferKind). AreCopied k old.touched (content s) r transfer.cylinder 19) blank (subst (λ (m : ℕ). AreCopied transfer.kind old.touched (content s) r transfer.cylinder m) all_ are)
          | inr copied_ ↦ subst (λ (k : TransferKind). AreCopied k old.touched (content s) r transfer.cylinder 19) copied_ (subst (λ (m : ℕ). AreCopied transfer.kind old.touched (content s) r transfer.cylinder m) all_ are)
        ]

    -- the frame's blocks, once the copies are firm
    pub stage_firm : (tells → AreFirm transfer s) → tells → IsFirmFor (Staged transfer.cylinder) r s
    stage_firm firm tl =
        let is : IsFirmFor (change_by transfer.kind transfer.cylinder) r s = firm_for transfer r s (subst (λ (z : RowValue). IsDue transfer z) row_is_s its_s.due) (firm tl) in
        elim kind [
          | inl blank ↦ subst (λ (k : TransferKind). IsFirmFor (change_by k transfer.cylinder) r s) blank is
          | inr copied_ ↦ subst (λ (k : TransferKind). IsFirmFor (change_by k transfer.cylinder) r s) copied_ is
        ]

    pub stage_allowed : IsAllowed (Staged transfer.cylinder) r
    stage_allowed = (unstaged_, ap is_some framed_s)

    asked_volume : transfer.volume ≡ wanted.volume
    asked_volume = by_kind transfer.kind kind its_s.cylinder_
      where
        by_kind : (k : TransferKind) → (k ≡ StageBlank) ⊎ (k ≡ StageCartridge) → IsChosen k old.victim wanted transfer.volume transfer.cylinder → transfer.volume ≡ wanted.volume
        by_kind StageBlank is due = due.1
        by_kind StageCartridge is due = due.1
        by_kind Destage (inl is) due = absurd cc
        by_kind Destage (inr is) due = absurd cc

    low_s : transfer.volume < 32
    low_s = listed_low S v core transfer.volume r there

    abbrev staged_row : RowValue
    staged_row = with_state transfer.cylinder (state_of r transfer.cylinder + 2) r

    differs_s : (m : ℕ) (task : Task) → m ≢ n → task_at v.tasks m ≡ Some task → (u : Transfer) → task.transfer ≡ Some u → u.volume ≡ transfer.volume → u.cylinder ≢ transfer.cylinder
    differs_s m task other is u e same cylinder = cylinders_apart S v core n old at transfer.volume transfer.cylinder r there framed_s m task other is u e same (ap (λ (k : ℕ). k / 8) cylinder)

    -- no other host has a request on this volume
    not_asked : (h : ℕ) (q : Request) → request_of v.requests h ≡ Some q → h ≢ old.host → q.volume ≢ transfer.volume
    not_asked h q asked other same = other (requests_once S v core h old.host q wanted asked wants (same ∙ asked_volume))

    other_task_s : (m : ℕ) (task : Task) → m ≢ n → task_at v.tasks m ≡ Some task
        → IsTask v.config.frames (row_in_list (slice_set v.rows transfer.volume (Some (with_state transfer.cylinder (state_of r transfer.cylinder + 2) r)))) (slice_set v.moving old.frame false) (put_request v.requests old.host (Some (record wanted { state = Ready }))) v.hosts task
    other_task_s m task other is =
        let ended = ended_task S v core n old at wanted wants Ready m task other is in
        state_task S v core transfer.volume transfer.cylinder (state_of r transfer.cylinder + 2) r there low_s (slice_set v.moving old.frame false) (slice_set v.moving old.frame false)
        (put_request v.requests old.host (Some (record wanted { state = Ready }))) (put_request v.requests old.host (Some (record wanted { state = Ready }))) task ended ended.moves refl
        (λ same waits. absurd (requests_apart S v core n old at m task other is ended.request wanted
        (sym (request_other v.requests old.host task.host (Some (record wanted { state = Ready })) core.requests_ (hosts_apart S v core n old at m task other is)) ∙ ended.asked) wants (same ∙ asked_volume)))
        (differs_s m task other is)

    waiting_s : AreWaiting (row_in_list (slice_set v.rows transfer.volume (Some (with_state transfer.cylinder (state_of r transfer.cylinder + 2) r)))) v.requests
    waiting_s = state_waiting S v core transfer.volume transfer.cylinder (state_of r transfer.cylinder + 2) r there low_s (λ h q asked queued same waits cylinder.
        let h_is : h ≡ old.host = requests_once S v core h old.host q wanted asked wants (same ∙ asked_volume) in
        let q_is : q ≡ wanted = some_is q wanted (sym asked ∙ ap (request_of v.requests) h_is ∙ wants) in
        let e : Queued ≡ Moving = sym queued ∙ ap (λ (z : Request). z.state) q_is ∙ (own_moving S v core n old at wanted wants) in
        cc)

    asked_cylinder : transfer.cylinder ≡ wanted.cylinder
    asked_cylinder = by_kind transfer.kind kind its_s.cylinder_
      where
        by_kind : (k : TransferKind) → (k ≡ StageBlank) ⊎ (k ≡ StageCartridge) → IsChosen k old.victim wanted transfer.volume transfer.cylinder → transfer.cylinder ≡ wanted.cylinder
        by_kind StageBlank is due = due.2
        by_kind StageCartridge is due = due.2
        by_kind Destage (inl is) due = absurd cc
        by_kind Destage (inr is) due = absurd cc

    in_states_s : transfer.cylinder < length r.states
    in_states_s = let l = (core.are_rows transfer.volume r there).states in let y = its_s.due.cylinder_in in omega (arith, l, y)

    -- no other task takes the page that is asked for
    none_takes : (m : ℕ) (task : Task) → m ≢ n → task_at v.tasks m ≡ Some task → task.victim ≡ Some (transfer.volume, transfer.cylinder / 8) → ⊥
    none_takes m task other is victim =
        let its_ = core.tasks_.each m task is in
        let has = subst (λ (o : Option (ℕ × ℕ)). HasFrame (row_in_list v.rows) task.frame o its_.request.volume (its_.request.cylinder / 8)) victim its_.frame_ in
        let mine_has = page_names (row_in_list v.rows) transfer.volume (transfer.cylinder / 8) old.frame r there framed_s in
        let e : Some task.frame ≡ Some old.frame = sym has.0 ∙ mine_has in
        frames_apart S v core n old at m task other is (some_is task.frame old.frame e)

    fit_staged : IsFit v.config.recorders (slice_set v.rows transfer.volume (Some staged_row)) (put_request v.requests old.host (Some (record wanted { state = Ready }))) v.hosts (slice_set v.tasks n None)
    fit_staged = fit_put v.config.recorders v.rows (slice_set v.rows transfer.volume (Some staged_row)) v.requests v.hosts v.tasks (slice_set v.tasks n None) core.fit (length-set v.tasks n None)
        (row_still v.rows transfer.volume r staged_row there (place_in S v core n old at wanted wants transfer.volume low_s))
        (λ k q asked ready is. ready_row v.rows transfer.volume r staged_row there (place_in S v core n old at wanted wants transfer.volume low_s) (slice_set v.tasks n None) q
        (λ same two. staged_still transfer.cylinder (state_of r transfer.cylinder + 2) r q.cylinder in_states_s (omega arith) two) (ready_ended (row_in_list v.rows) v.tasks q n (fits_n S v core n old at wanted wants) is))
        old.host (Some (record wanted { state = Ready })) core.requests_
        (λ q is ready. subst (IsReadyOn (row_in_list (slice_set v.rows transfer.volume (Some staged_row))) (slice_set v.tasks n None)) (some_is (record wanted { state = Ready }) q is) own_ready)
      where
        own_ready : IsReadyOn (row_in_list (slice_set v.rows transfer.volume (Some staged_row))) (slice_set v.tasks n None) (record wanted { state = Ready })
        own_ready = record {
          staged = λ k is.
              let o : Some staged_row ≡ Some k = sym (ap (row_in_list (slice_set v.rows transfer.volume (Some staged_row))) (sym asked_volume) ∙ row_put v.rows transfer.volume staged_row (place_in S v core n old at wanted wants transfer.volume low_s)) ∙ is in
              let a = state-with_state transfer.cylinder (state_of r transfer.cylinder + 2) r transfer.cylinder in_states_s
              ∙ cond-true (transfer.cylinder == transfer.cylinder) (state_of r transfer.cylinder + 2) (state_of r transfer.cylinder) (eq-eqb transfer.cylinder transfer.cylinder refl) in
              subst (λ (z : RowValue). 2 ≤ state_of z wanted.cylinder) (some_is staged_row k o) (subst (λ (y : ℕ). 2 ≤ state_of staged_row y) asked_cylinder (omega (arith, a)));
          touched_ = λ m task is victim. elim (task_was v.tasks n None (fits_n S v core n old at wanted wants) m task is) [
            | inl e ↦ absurd (none_some task e.1)
            | inr e ↦ absurd (none_takes m task e.0 e.1 (victim ∙ (λ i. Some (sym asked_volume i, sym asked_cylinder i / 8))))
          ];
        }

    pub whole_staged : (tells → AreFirm transfer s) → (tells → HasRewritten s v transfer.volume (Staged transfer.cylinder) t mark r)
        → IsWhole tells t (core_after_work (with_slot transfer.volume v) x (slice_set v.rows transfer.volume (Some (with_state transfer.cylinder (state_of r transfer.cylinder + 2) r)))
        (v.console ++ message_of mark transfer.volume (Staged transfer.cylinder) (row_in_list v.rows) ∷ []) v.owners (slice_set v.moving old.frame false)
        (put_request v.requests old.host (Some (record wanted { state = Ready }))) (slice_set v.tasks n None))
    whole_staged firm changed = make_whole (core_work S (with_slot transfer.volume v) (core_slot S v core transfer.volume) x (slice_set v.rows transfer.volume (Some staged_row)) _ v.owners _ _ _
        (owned_states S v core transfer.volume transfer.cylinder (state_of r transfer.cylinder + 2) r there low_s
        (row-with_state transfer.cylinder (state_of r transfer.cylinder + 2) r (core.are_rows transfer.volume r there) its_s.due.cylinder_in (omega (arith, unstaged_)) (λ _. ap is_some framed_s))) (long_now S v core n old at wanted wants) (asked_now S v core n old at wanted wants Ready)
        (waiting_again (row_in_list (slice_set v.rows transfer.volume (Some staged_row))) v.requests old.host wanted Ready core.requests_ waiting_s (λ queued. let e : Ready ≡ Queued = queued in absurd cc))
        (tasks_ended v.config.frames (row_in_list v.rows) _ v.moving v.requests v.hosts v.tasks core.tasks_ n old at (record wanted { state = Ready }) (λ moves. let e : Ready ≡ Moving = moves in cc) core.requests_ other_task_s)
        fit_staged)
        (λ tl.
        let c = changed tl in
        let may = may_now S tells s v whole open_ transfer.volume (Staged transfer.cylinder) r there stage_allowed stage_ready (stage_firm firm) tl in
        told_by_change S s t v x core (whole.told tl) open_ transfer.volume mark (Staged transfer.cylinder) r there low_s (λ o. refl) refl (stage_allowed, tt) may c.writes c.changed c.at_end c.grows v.owners _ _ _
        (served_put S v core n old at wanted wants (content t) (row_in_list (slice_set v.rows transfer.volume (Some staged_row))) None (λ task e. absurd (none_some task e))
        (λ m task other is. state_served S v core transfer.volume transfer.cylinder (state_of r transfer.cylinder + 2) r there low_s (content s) (content t)
        (λ unit block none. blocks_stay S s t v x core (whole.told tl) open_ transfer.volume mark (Staged transfer.cylinder) r there low_s (λ o. refl) refl (stage_allowed, tt) may c.writes c.changed c.at_end c.grows v.owners v.moving v.requests [] (λ k z zz. absurd (none_some z zz)) unit block none)
        v.moving v.requests task (core.tasks_.each m task is) (differs_s m task other is) (served_now S tells s v whole open_ tl m task is))))

-- ---- the core that is left, and that it is the event's

abbrev pub staged : {S C : Type 0} → CoreValue S C → ℕ → Task → Transfer → S → ℕ → CoreValue S C
staged v n old transfer x mark = record v {
  site = x;
  rows = with_changed transfer.volume (Staged transfer.cylinder) v.rows;
  used = with_used_after transfer.volume v.used;
  console = v.console ++ message_of mark transfer.volume (Staged transfer.cylinder) (row_in_list v.rows) ∷ [];
  moving = slice_set v.moving old.frame false;
  requests = put_state old.host Ready v.requests;
  tasks = slice_set v.tasks n None;
  events = v.events ++ Work n ∷ [];
}

pub staged_does : {S C : Type 0} (g : Ghosts S) (may : List Candidate → ℕ → Type 0) (v w : CoreValue S C) (n : ℕ) (old : Task) (transfer : Transfer) (answer : WorkAnswer) → transfer.kind ≢ Destage
    → answer ≡ Did work.End → task_at v.tasks n ≡ Some old → (x : S) → SyncUnit g.tells (target_unit transfer) (seen_site g v.site) (seen_site g x)
    → HaveChanged g (record v { site = x }) transfer.volume (Staged transfer.cylinder) w.site → w ≡ staged v n old transfer w.site (g.writes w.site)
    → WorkDoes g.tells may (seen_core g v) n (Ends transfer) answer (seen_core g w)
staged_does {S} {C} g may v w n old transfer answer other is at x firm have path =
    subst (λ (a : WorkAnswer). WorkDoes g.tells may (seen_core g v) n (Ends transfer) a (seen_core g w)) (sym is)
    (subst (λ (o : Option Task). WithTask o (λ task. TaskDoes g.tells (seen_core g v) n (Ends transfer) task (Did work.End) (seen_core g w))) (sym at)
    (inl (seen_site g x, firm, by_kind transfer.kind refl)))
  where
    by_kind : (k : TransferKind) → transfer.kind ≡ k → TellsEnd g.tells (record (seen_core g v) { site = seen_site g x }) n old k transfer (Did work.End) (seen_core g w)
    by_kind StageBlank same = (have, refl, ap (λ (z : CoreValue S C). seen_core g z) path)
    by_kind StageCartridge same = (have, refl, ap (λ (z : CoreValue S C). seen_core g z) path)
    by_kind Destage same = absurd (other same)

-- the row wasn't written
pub unstaged_does : {S C : Type 0} (g : Ghosts S) (may : List Candidate → ℕ → Type 0) (v w : CoreValue S C) (n : ℕ) (old : Task) (transfer : Transfer) (answer : WorkAnswer) → transfer.kind ≢ Destage
    → answer ≡ Stopped (g.faults w.site) → task_at v.tasks n ≡ Some old → (x : S) → SyncUnit g.tells (target_unit transfer) (seen_site g v.site) (seen_site g x)
    → FailsChange g (record v { site = x }) transfer.volume (Staged transfer.cylinder) w.site → w ≡ with_row_stopped v n transfer.volume (Staged transfer.cylinder) w.site (g.faults w.site)
    → WorkDoes g.tells may (seen_core g v) n (Ends transfer) answer (seen_core g w)
unstaged_does {S} {C} g may v w n old transfer answer other is at x firm fails path =
    subst (λ (a : WorkAnswer). WorkDoes g.tells may (seen_core g v) n (Ends transfer) a (seen_core g w)) (sym is)
    (subst (λ (o : Option Task). WithTask o (λ task. TaskDoes g.tells (seen_core g v) n (Ends transfer) task (Stopped (g.faults w.site)) (seen_core g w))) (sym at)
    (inl (seen_site g x, firm, by_kind transfer.kind refl)))
  where
    by_kind : (k : TransferKind) → transfer.kind ≡ k → TellsEnd g.tells (record (seen_core g v) { site = seen_site g x }) n old k transfer (Stopped (g.faults w.site)) (seen_core g w)
    by_kind StageBlank same = (fails, ap (λ (z : CoreValue S C). seen_core g z) path)
    by_kind StageCartridge same = (fails, ap (λ (z : CoreValue S C). seen_core g z) path)
    by_kind Destage same = absurd (other same)

-- ---- the change is due, and with it the core is kept

module _ (S : Type 0) {C : Type 0} (tells : Type 0) (s : SiteLog) (v : CoreValue S C) (whole : IsWhole tells s v) (open_ : v.stopped ≡ None) (n : ℕ) (old : Task) (q : Request) (serves : Serves v n old q)
    (transfer : Transfer) (may : MayEndStage v old transfer) (firm : tells → AreFirm transfer s) where
  its_k : IsTransfer (row_in_list v.rows) old.frame old.victim q transfer
  its_k = own_transfer S v (whole.kept open_) n old serves.at q serves.asked transfer may.copies

  pub due_staged : IsDueChange tells s v transfer.volume (Staged transfer.cylinder)
  due_staged = record {
    r = its_k.row;
    there = its_k.there;
    allowed = stage_allowed S tells s v whole open_ n old serves.at q serves.asked s v.site 0 transfer may.copies may.kind may.all_ its_k.row its_k.there;
    ready = stage_ready S tells s v whole open_ n old serves.at q serves.asked s v.site 0 transfer may.copies may.kind may.all_ its_k.row its_k.there;
    firm = stage_firm S tells s v whole open_ n old serves.at q serves.asked s v.site 0 transfer may.copies may.kind may.all_ its_k.row its_k.there firm;
  }

module _ (S : Type 0) {C : Type 0} (tells : Type 0) (s t : SiteLog) (writes faults later_writes later : ℕ) (v : CoreValue S C) (kept : IsKept tells s writes faults v) (open_ : v.stopped ≡ None) (n : ℕ) (old : Task) (q : Request) (serves : Serves v n old q)
    (x : S) (more : writes ≤ later_writes) (le : faults ≤ later)
    (transfer : Transfer) (may : MayEndStage v old transfer) (firm : tells → AreFirm transfer s) where
  due : IsDueChange tells s v transfer.volume (Staged transfer.cylinder)
  due = due_staged S tells s v kept.whole open_ n old q serves transfer may firm

  pub kept_staged : IsDone tells s v transfer.volume (Staged transfer.cylinder) t later_writes
      → IsKept tells t later_writes later (staged v n old transfer x later_writes)
  kept_staged done_ =
      let put : put_state old.host Ready v.requests ≡ put_request v.requests old.host (Some (record q { state = Ready })) = with_state_is v.requests old.host q Ready serves.asked in
      let message = message_of later_writes transfer.volume (Staged transfer.cylinder) (row_in_list v.rows) in
      subst (λ (z : RequestsData). IsKept tells t later_writes later (record (core_after_work (with_slot transfer.volume v) x (with_changed transfer.volume (Staged transfer.cylinder) v.rows) (v.console ++ message ∷ []) v.owners (slice_set v.moving old.frame false) z (slice_set v.tasks n None)) { events = v.events ++ Work n ∷ [] })) (sym put)
      (kept_changed S tells s t writes faults later_writes later v kept open_ n x transfer.volume (Staged transfer.cylinder) more le due.r due.there v.owners (slice_set v.moving old.frame false) (put_request v.requests old.host (Some (record q { state = Ready }))) (slice_set v.tasks n None)
      (whole_staged S tells s v kept.whole open_ n old serves.at q serves.asked t x later_writes transfer may.copies may.kind may.all_ due.r due.there firm (λ tl. done_ tl due.r due.there))
      (counted_request later_writes later later_writes later v.requests (with_last_message message (data_of v))
      (counted_message writes faults later_writes later v.requests (data_of v) kept.counted more le message (omega arith)) (omega arith) (omega arith)
      old.host (Some (record q { state = Ready })) (kept.whole.kept open_).requests_ (λ fault e. absurd (none_some fault e))))

-- what ends a transfer of another kind
pub may_stage : {S C : Type 0} (v : CoreValue S C) (task : Task) (t : Transfer) → t.kind ≢ Destage → MayEnd v t.kind task t → MayEndStage v task t
may_stage v task t other may = by_kind t.kind refl may
  where
    by_kind : (k : TransferKind) → t.kind ≡ k → MayEnd v k task t → MayEndStage v task t
    by_kind StageBlank is at = at
    by_kind StageCartridge is at = at
    by_kind Destage is at = absurd (other is)
