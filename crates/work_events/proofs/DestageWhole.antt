-- A core stays whole where a cylinder that was destaged is no longer changed.
use Rattle.std.proofs.Common.{◌≡◌, ◌≢◌, inl, ℕ, ◌/◌, ◌≤◌, ◌<◌, Bool, false, List, [], ◌∷◌, ◌++◌, Option, Some, None, refl, sym, ◌∙◌, ap, subst, arith}
use Rattle.std.specs.Prelude.{slice_set, is_some}
use Rattle.mss_base.specs.Content.{SiteLog, content}
use Rattle.volume_table.specs.Row.{RowValue, frame_of, state_of}
use Rattle.volume_table.specs.Listed.{row_in_list, with_changed}
use Rattle.volume_table.specs.Changes.{IsAllowed, with_state}
use Rattle.volume_table.specs.declared.changes.Change.TheVariants.{Destaged}
use Rattle.volume_table.proofs.RowLemmas.{row-with_state}
use Rattle.table_pair.specs.Slots.{with_used_after}
use Rattle.shown_volumes.specs.Changing.{IsFirmFor, IsReady}
use Rattle.fault_queue.specs.declared.queue.Request.{Request}
use Rattle.fault_queue.specs.Requests.{request_of}
use Rattle.transfers.specs.declared.transfer.Transfer.{Transfer}
use Rattle.transfers.specs.declared.transfer.TransferKind.{TransferKind}
use Rattle.transfers.specs.declared.transfer.TransferKind.TheVariants.{Destage}
use Rattle.transfers.specs.Copies.{AreFirm, target_unit}
use Rattle.transfers.specs.Dues.{IsDue, change_by, due_state}
use Rattle.transfers.proofs.DueFacts.{firm_for}
use Rattle.core_state.specs.declared.task.Task.{Task}
use Rattle.core_state.specs.declared.session.Event.TheVariants.{Work}
use Rattle.core_state.specs.Agrees.{message_of}
use Rattle.mss_base.specs.declared.site.Site.{Ghosts}
use Rattle.victim_choice.specs.declared.choose.Candidate.{Candidate}
use Rattle.core_state.specs.declared.rule.WorkAnswer.{WorkAnswer}
use Rattle.core_state.specs.declared.rule.WorkAnswer.TheVariants.{Did, Stopped}
use Rattle.core_state.specs.declared.rule.WorkKind.TheVariants as work
use Rattle.core_state.specs.declared.rule.WorkRule.TheVariants.{Ends}
use Rattle.core_state.specs.CoreValue.{CoreValue, seen_core, seen_site}
use Rattle.core_state.specs.Devices.{SyncUnit}
use Rattle.core_state.specs.WorkEvents.{TellsEnd, WithTask, TaskDoes, WorkDoes}
use Rattle.core_state.specs.SessionData.{data_of}
use Rattle.core_state.specs.Pins.{task_at}
use Rattle.core_state.specs.Tasks.{IsTask, IsTransfer}
use Rattle.core_state.specs.Served.{AreCopied}
use Rattle.core_state.specs.IsCore.{IsCore}
use Rattle.core_state.specs.TheCore.{IsWhole, IsKept}
use Rattle.core_state.specs.Entered.{core_after_work}
use Rattle.core_state.specs.Working.{Serves, MayEndDestage}
use Rattle.core_state.proofs.Making.{make_whole}
use Rattle.core_state.proofs.RuleWalks.{some_is, none_some}
use Rattle.core_state.proofs.TaskLists.{tasks_go_on}
use Rattle.core_state.proofs.TaskRows.{framed_by}
use Rattle.core_state.proofs.CoreWork.{asked_of, core_work}
use Rattle.core_state.proofs.RowOwners.{owned_states, listed_low}
use Rattle.core_state.proofs.RowEvents.{told_by_change, blocks_stay}
use Rattle.core_state.proofs.CountedFacts.{counted_message}
use Rattle.core_state.proofs.Others.{state_waiting, cylinders_apart, state_task, state_served}
use Rattle.core_state.proofs.Fitting.{ready_row, row_still, staged_still}
use Rattle.work_events.proofs.OwnTask.{own_moving, own_waits, own_frame, own_transfer, fit_on, served_put, place_in, served_now}
use Rattle.work_events.proofs.ChangedRows.{FailsChange, HasRewritten, HaveChanged, IsDueChange, IsDone, with_row_stopped, with_slot, core_slot, may_now, kept_changed}

module _ (S : Type 0) {C : Type 0} (tells : Type 0) (s : SiteLog) (v : CoreValue S C) (whole : IsWhole tells s v) (open_ : v.stopped ≡ None) (n : ℕ) (old : Task) (at : task_at v.tasks n ≡ Some old) (wanted : Request) (wants : request_of v.requests old.host ≡ Some wanted) where
  core : IsCore v
  core = whole.kept open_

  found : IsTask v.config.frames (row_in_list v.rows) v.moving v.requests v.hosts old
  found = core.tasks_.each n old at

  -- ---- End of what was destaged
  module _ (t : SiteLog) (x : S) (mark : ℕ) (transfer : Transfer) (copies : old.transfer ≡ Some transfer) (kind : transfer.kind ≡ Destage) (all_ : transfer.next ≡ 19) (untouched : old.touched ≡ false)
      (r : RowValue) (there : row_in_list v.rows transfer.volume ≡ Some r) where
    its : IsTransfer (row_in_list v.rows) old.frame old.victim wanted transfer
    its = own_transfer S v core n old at wanted wants transfer copies

    row_is : its.row ≡ r
    row_is = some_is its.row r (sym its.there ∙ there)

    four : state_of r transfer.cylinder ≡ 4
    four = ap (λ (z : RowValue). state_of z transfer.cylinder) (sym row_is) ∙ its.due.state ∙ ap due_state kind

    framed : frame_of r (transfer.cylinder / 8) ≡ Some old.frame
    framed = ap (λ (z : RowValue). frame_of z (transfer.cylinder / 8)) (sym row_is) ∙ framed_by (row_in_list v.rows) old.frame old.victim wanted transfer its

    pub destage_allowed : IsAllowed (Destaged transfer.cylinder) r
    destage_allowed = four

    pub destage_ready : tells → IsReady v.config.frames (Destaged transfer.cylinder) r (content s)
    destage_ready tl =
        let are = served_now S tells s v whole open_ tl n old at transfer r copies there in
        let both : AreCopied Destage false (content s) r transfer.cylinder 19 = subst (λ (b : Bool). AreCopied Destage b (content s) r transfer.cylinder 19) untouched
        (subst (λ (k : TransferKind). AreCopied k old.touched (content s) r transfer.cylinder 19) kind (subst (λ (m : ℕ). AreCopied transfer.kind old.touched (content s) r transfer.cylinder m) all_ are)) in
        both refl

    -- the cartridge's blocks, once the copies are firm
    pub destage_firm : (tells → AreFirm transfer s) → tells → IsFirmFor (Destaged transfer.cylinder) r s
    destage_firm firm tl =
        subst (λ (k : TransferKind). IsFirmFor (change_by k transfer.cylinder) r s) kind
        (firm_for transfer r s (subst (λ (z : RowValue). IsDue transfer z) row_is its.due) (firm tl))

    abbrev done_task : Task
    done_task = record old { transfer = None }

    low : transfer.volume < 32
    low = listed_low S v core transfer.volume r there

    not_waiting : (q : RowValue) (y : ℕ) → state_of r y < 2 → y ≢ transfer.cylinder
    not_waiting q y waits same = let e = ap (state_of r) same in let f = four in absurd (omega (arith, waits, e, f))

    own_task : IsTask v.config.frames (row_in_list (slice_set v.rows transfer.volume (Some (with_state transfer.cylinder 3 r)))) v.moving v.requests v.hosts done_task
    own_task =
        let bare : IsTask v.config.frames (row_in_list v.rows) v.moving v.requests v.hosts done_task = record {
          low = found.low;
          moves = found.moves;
          request = wanted;
          asked = wants;
          is_moving_ = (own_moving S v core n old at wanted wants);
          waits = (own_waits S v core n old at wanted wants);
          frame_ = (own_frame S v core n old at wanted wants);
          unbound = found.unbound;
          transfer_ = λ u e. absurd (none_is u e);
        } in
        state_task S v core transfer.volume transfer.cylinder 3 r there low v.moving v.moving v.requests v.requests done_task bare found.moves refl (λ same waits. not_waiting r _ waits) (λ u e. absurd (none_is u e))
      where
        none_is : (u : Transfer) → ◌≡◌ {A = Option Transfer} None (Some u) → ⊥
        none_is u e = cc

    differs : (m : ℕ) (task : Task) → m ≢ n → task_at v.tasks m ≡ Some task → (u : Transfer) → task.transfer ≡ Some u → u.volume ≡ transfer.volume → u.cylinder ≢ transfer.cylinder
    differs m task other is u e same cylinder = cylinders_apart S v core n old at transfer.volume transfer.cylinder r there framed m task other is u e same (ap (λ (k : ℕ). k / 8) cylinder)

    other_task : (m : ℕ) (task : Task) → m ≢ n → task_at v.tasks m ≡ Some task → IsTask v.config.frames (row_in_list (slice_set v.rows transfer.volume (Some (with_state transfer.cylinder 3 r)))) v.moving v.requests v.hosts task
    other_task m task other is =
        let its_ = core.tasks_.each m task is in
        state_task S v core transfer.volume transfer.cylinder 3 r there low v.moving v.moving v.requests v.requests task its_ its_.moves refl (λ same waits. not_waiting r _ waits) (differs m task other is)

    pub whole_destaged : (tells → AreFirm transfer s) → (tells → HasRewritten s v transfer.volume (Destaged transfer.cylinder) t mark r)
        → IsWhole tells t (core_after_work (with_slot transfer.volume v) x (slice_set v.rows transfer.volume (Some (with_state transfer.cylinder 3 r)))
        (v.console ++ message_of mark transfer.volume (Destaged transfer.cylinder) (row_in_list v.rows) ∷ []) v.owners v.moving v.requests (slice_set v.tasks n (Some (record old { transfer = None }))))
    whole_destaged firm changed = make_whole (core_work S (with_slot transfer.volume v) (core_slot S v core transfer.volume) x (slice_set v.rows transfer.volume (Some (with_state transfer.cylinder 3 r))) _ v.owners v.moving v.requests _
        (owned_states S v core transfer.volume transfer.cylinder 3 r there low (row-with_state transfer.cylinder 3 r (core.are_rows transfer.volume r there) its.due.cylinder_in (omega arith) (λ _. ap is_some framed))) core.moving_ (asked_of S v core)
        (state_waiting S v core transfer.volume transfer.cylinder 3 r there low (λ h q asked queued same waits. not_waiting r _ waits))
        (tasks_go_on v.config.frames (row_in_list v.rows) _ v.moving v.requests v.hosts v.tasks core.tasks_ n old done_task at refl refl own_task other_task)
        (fit_on S v core n old at wanted wants done_task (inl refl) refl _ (row_still v.rows transfer.volume r (with_state transfer.cylinder 3 r) there (place_in S v core n old at wanted wants transfer.volume low))
        (λ k q asked ready tasks is. ready_row v.rows transfer.volume r (with_state transfer.cylinder 3 r) there (place_in S v core n old at wanted wants transfer.volume low) tasks q
        (λ same two. staged_still transfer.cylinder 3 r q.cylinder (let l = (core.are_rows transfer.volume r there).states in let y = its.due.cylinder_in in omega (arith, l, y)) (omega arith) two) is)))
        (λ tl.
        let c = changed tl in
        let may = may_now S tells s v whole open_ transfer.volume (Destaged transfer.cylinder) r there four destage_ready (destage_firm firm) tl in
        told_by_change S s t v x core (whole.told tl) open_ transfer.volume mark (Destaged transfer.cylinder) r there low (λ o. refl) refl (four, tt) may c.writes c.changed c.at_end c.grows v.owners v.moving v.requests _
        (served_put S v core n old at wanted wants (content t) (row_in_list (slice_set v.rows transfer.volume (Some (with_state transfer.cylinder 3 r)))) (Some done_task)
        (λ task e u k copies_ there_. let e' : ◌≡◌ {A = Option Transfer} None (Some u) = ap (λ (z : Task). z.transfer) (some_is done_task task e) ∙ copies_ in absurd cc)
        (λ m task other is. state_served S v core transfer.volume transfer.cylinder 3 r there low (content s) (content t)
        (λ unit block none. blocks_stay S s t v x core (whole.told tl) open_ transfer.volume mark (Destaged transfer.cylinder) r there low (λ o. refl) refl (four, tt) may c.writes c.changed c.at_end c.grows v.owners v.moving v.requests [] (λ k z zz. absurd (none_some z zz)) unit block none)
        v.moving v.requests task (core.tasks_.each m task is) (differs m task other is) (served_now S tells s v whole open_ tl m task is))))

-- ---- the core that is left, and that it is the event's

abbrev pub destaged : {S C : Type 0} → CoreValue S C → ℕ → Task → Transfer → S → ℕ → CoreValue S C
destaged v n old transfer x mark = record v {
  site = x;
  rows = with_changed transfer.volume (Destaged transfer.cylinder) v.rows;
  used = with_used_after transfer.volume v.used;
  console = v.console ++ message_of mark transfer.volume (Destaged transfer.cylinder) (row_in_list v.rows) ∷ [];
  tasks = slice_set v.tasks n (Some (record old { transfer = None }));
  events = v.events ++ Work n ∷ [];
}

pub destaged_does : {S C : Type 0} (g : Ghosts S) (may : List Candidate → ℕ → Type 0) (v w : CoreValue S C) (n : ℕ) (old : Task) (transfer : Transfer) (answer : WorkAnswer) → transfer.kind ≡ Destage
    → answer ≡ Did work.End → task_at v.tasks n ≡ Some old → (x : S) → SyncUnit g.tells (target_unit transfer) (seen_site g v.site) (seen_site g x)
    → HaveChanged g (record v { site = x }) transfer.volume (Destaged transfer.cylinder) w.site → w ≡ destaged v n old transfer w.site (g.writes w.site)
    → WorkDoes g.tells may (seen_core g v) n (Ends transfer) answer (seen_core g w)
destaged_does {S} {C} g may v w n old transfer answer destages is at x firm have path =
    subst (λ (a : WorkAnswer). WorkDoes g.tells may (seen_core g v) n (Ends transfer) a (seen_core g w)) (sym is)
    (subst (λ (o : Option Task). WithTask o (λ task. TaskDoes g.tells (seen_core g v) n (Ends transfer) task (Did work.End) (seen_core g w))) (sym at)
    (inl (
      seen_site g x,
      firm,
      subst (λ (k : TransferKind). TellsEnd g.tells (record (seen_core g v) { site = seen_site g x }) n old k transfer (Did work.End) (seen_core g w)) (sym destages)
          (have, refl, ap (λ (z : CoreValue S C). seen_core g z) path),
    )))

-- the row wasn't written
pub undestaged_does : {S C : Type 0} (g : Ghosts S) (may : List Candidate → ℕ → Type 0) (v w : CoreValue S C) (n : ℕ) (old : Task) (transfer : Transfer) (answer : WorkAnswer) → transfer.kind ≡ Destage
    → answer ≡ Stopped (g.faults w.site) → task_at v.tasks n ≡ Some old → (x : S) → SyncUnit g.tells (target_unit transfer) (seen_site g v.site) (seen_site g x)
    → FailsChange g (record v { site = x }) transfer.volume (Destaged transfer.cylinder) w.site → w ≡ with_row_stopped v n transfer.volume (Destaged transfer.cylinder) w.site (g.faults w.site)
    → WorkDoes g.tells may (seen_core g v) n (Ends transfer) answer (seen_core g w)
undestaged_does {S} {C} g may v w n old transfer answer destages is at x firm fails path =
    subst (λ (a : WorkAnswer). WorkDoes g.tells may (seen_core g v) n (Ends transfer) a (seen_core g w)) (sym is)
    (subst (λ (o : Option Task). WithTask o (λ task. TaskDoes g.tells (seen_core g v) n (Ends transfer) task (Stopped (g.faults w.site)) (seen_core g w))) (sym at)
    (inl (
      seen_site g x,
      firm,
      subst (λ (k : TransferKind). TellsEnd g.tells (record (seen_core g v) { site = seen_site g x }) n old k transfer (Stopped (g.faults w.site)) (seen_core g w)) (sym destages)
          (fails, ap (λ (z : CoreValue S C). seen_core g z) path),
    )))

-- ---- the change is due, and with it the core is kept

module _ (S : Type 0) {C : Type 0} (tells : Type 0) (s : SiteLog) (v : CoreValue S C) (whole : IsWhole tells s v) (open_ : v.stopped ≡ None) (n : ℕ) (old : Task) (q : Request) (serves : Serves v n old q)
    (transfer : Transfer) (may : MayEndDestage v old transfer) (firm : tells → AreFirm transfer s) where
  its_d : IsTransfer (row_in_list v.rows) old.frame old.victim q transfer
  its_d = own_transfer S v (whole.kept open_) n old serves.at q serves.asked transfer may.copies

  pub due_destaged : IsDueChange tells s v transfer.volume (Destaged transfer.cylinder)
  due_destaged = record {
    r = its_d.row;
    there = its_d.there;
    allowed = destage_allowed S tells s v whole open_ n old serves.at q serves.asked s v.site 0 transfer may.copies may.kind may.all_ may.untouched its_d.row its_d.there;
    ready = destage_ready S tells s v whole open_ n old serves.at q serves.asked s v.site 0 transfer may.copies may.kind may.all_ may.untouched its_d.row its_d.there;
    firm = destage_firm S tells s v whole open_ n old serves.at q serves.asked s v.site 0 transfer may.copies may.kind may.all_ may.untouched its_d.row its_d.there firm;
  }

module _ (S : Type 0) {C : Type 0} (tells : Type 0) (s t : SiteLog) (writes faults later_writes later : ℕ) (v : CoreValue S C) (kept : IsKept tells s writes faults v) (open_ : v.stopped ≡ None) (n : ℕ) (old : Task) (q : Request) (serves : Serves v n old q)
    (x : S) (more : writes ≤ later_writes) (le : faults ≤ later)
    (transfer : Transfer) (may : MayEndDestage v old transfer) (firm : tells → AreFirm transfer s) where
  due : IsDueChange tells s v transfer.volume (Destaged transfer.cylinder)
  due = due_destaged S tells s v kept.whole open_ n old q serves transfer may firm

  pub kept_destaged : IsDone tells s v transfer.volume (Destaged transfer.cylinder) t later_writes
      → IsKept tells t later_writes later (destaged v n old transfer x later_writes)
  kept_destaged done_ =
      kept_changed S tells s t writes faults later_writes later v kept open_ n x transfer.volume (Destaged transfer.cylinder) more le due.r due.there v.owners v.moving v.requests (slice_set v.tasks n (Some (record old { transfer = None })))
      (whole_destaged S tells s v kept.whole open_ n old serves.at q serves.asked t x later_writes transfer may.copies may.kind may.all_ may.untouched due.r due.there firm (λ tl. done_ tl due.r due.there))
      (counted_message writes faults later_writes later v.requests (data_of v) kept.counted more le (message_of later_writes transfer.volume (Destaged transfer.cylinder) (row_in_list v.rows)) (omega arith))
