-- A core stays whole where a track is copied, and where the copy fails.
use Rattle.std.proofs.Common.{◌≡◌, ◌≢◌, inl, inr, ℕ, ◌+◌, ◌≤◌, Bool, [], ◌∷◌, ◌++◌, Some, None, refl, sym, ◌∙◌, ap, subst, arith}
use Rattle.std.specs.Prelude.{slice_set}
use Rattle.mss_base.specs.Content.{Content, SiteLog, content, Writes}
use Rattle.mss_base.specs.Counts.{IsFaultSince}
use Rattle.volume_table.specs.Row.{RowValue, cartridge_with}
use Rattle.volume_table.specs.Listed.{row_in_list}
use Rattle.shown_volumes.specs.Shown.{volumes_shown, block_at}
use Rattle.shown_volumes.specs.Changing.{IsQuiet, StillShows}
use Rattle.fault_queue.specs.declared.queue.Request.{Request}
use Rattle.transfers.specs.declared.transfer.Transfer.{Transfer}
use Rattle.transfers.specs.declared.transfer.TransferKind.{TransferKind}
use Rattle.transfers.specs.declared.transfer.TransferKind.TheVariants.{StageBlank, StageCartridge, Destage}
use Rattle.transfers.specs.Copies.{target, source, moved_on, AddsAtMost}
use Rattle.transfers.proofs.CopyFacts.{leaves_table}
use Rattle.core_state.specs.declared.task.Task.{Task}
use Rattle.core_state.specs.declared.session.Event.TheVariants.{Work}
use Rattle.core_state.specs.CoreValue.{CoreValue}
use Rattle.core_state.specs.Entered.{core_after_work}
use Rattle.core_state.specs.Pins.{task_at}
use Rattle.core_state.specs.Served.{IsServed, AreCopied}
use Rattle.core_state.specs.Tasks.{IsTask, IsTransfer}
use Rattle.core_state.specs.IsCore.{IsCore}
use Rattle.core_state.specs.TheCore.{IsWhole, IsKept}
use Rattle.core_state.specs.SessionData.{data_of}
use Rattle.core_state.specs.Working.{Serves, MayCopy}
use Rattle.core_state.proofs.Making.{make_whole}
use Rattle.core_state.proofs.CountedFacts.{counted_later}
use Rattle.core_state.proofs.RuleWalks.{some_is}
use Rattle.core_state.proofs.ChangeLemmas.{told_outside}
use Rattle.core_state.proofs.CoreWork.{owned_of, asked_of, core_work}
use Rattle.core_state.proofs.Others.{frames_apart}
use Rattle.core_state.proofs.TaskLists.{tasks_go_on}
use Rattle.core_state.proofs.TaskRows.{framed_by}
use Rattle.work_events.proofs.KeptFacts.{kept_noted}
use Rattle.work_events.proofs.TrackCopies.{SameBut, copied_to, copied_from, same_but, copy_quiet, copy_shows, copied_more, others_served}
use Rattle.work_events.proofs.FailedWhole.{LeavesShown, failed, kept_failed}
use Rattle.work_events.proofs.OwnTask.{own_moving, own_waits, own_frame, fit_on, served_put, sound_now, quiet_now, rows_now, served_now, once_now}

-- nothing is copied yet
nothing_yet : (kind : TransferKind) (touched : Bool) (c : Content) (r : RowValue) (cylinder n : ℕ) → n ≡ 0 → AreCopied kind touched c r cylinder n
nothing_yet StageBlank touched c r cylinder n none = λ head lt. absurd (omega (arith, none, lt))
nothing_yet StageCartridge touched c r cylinder n none = λ head lt. absurd (omega (arith, none, lt))
nothing_yet Destage touched c r cylinder n none = λ _ head lt. absurd (omega (arith, none, lt))

module _ (S : Type 0) {C : Type 0} (tells : Type 0) (s t : SiteLog) (v : CoreValue S C) (whole : IsWhole tells s v) (open_ : v.stopped ≡ None) (n : ℕ) (old : Task) (q : Request) (serves : Serves v n old q)
    (x : S) (transfer : Transfer) (may : MayCopy v old q transfer) (logged : tells → AddsAtMost (target transfer transfer.next) s t) where
  core : IsCore v
  core = whole.kept open_

  abbrev new : Task
  new = record old { transfer = Some (moved_on transfer) }

  new_transfer : IsTransfer (row_in_list v.rows) old.frame old.victim q (moved_on transfer)
  new_transfer = record {
    row = may.is.row;
    there = may.is.there;
    due = record { cylinder_in = may.is.due.cylinder_in; frame_ = may.is.due.frame_; cartridge_ = may.is.due.cartridge_; state = may.is.due.state };
    frame_ = may.is.frame_;
    upto = (let m = may.more in omega (arith, m));
    cylinder_ = may.is.cylinder_;
  }

  new_task : IsTask v.config.frames (row_in_list v.rows) v.moving v.requests v.hosts new
  new_task =
      let found = core.tasks_.each n old serves.at in
      record {
        low = found.low;
        moves = found.moves;
        request = q;
        asked = serves.asked;
        is_moving_ = own_moving S v core n old serves.at q serves.asked;
        waits = own_waits S v core n old serves.at q serves.asked;
        frame_ = own_frame S v core n old serves.at q serves.asked;
        unbound = found.unbound;
        transfer_ = λ u e. subst (IsTransfer (row_in_list v.rows) old.frame old.victim q) (some_is (moved_on transfer) u e) new_transfer;
      }

  target_is : target transfer transfer.next ≡ copied_to transfer.kind old.frame (cartridge_with may.is.row transfer.cylinder) transfer.cylinder transfer.next
  target_is = λ i. copied_to transfer.kind (may.is.frame_ i) (may.is.due.cartridge_ i) transfer.cylinder transfer.next

  others_same : tells → SameBut (copied_to transfer.kind old.frame (cartridge_with may.is.row transfer.cylinder) transfer.cylinder transfer.next) (content s) (content t)
  others_same tl = subst (λ p. SameBut p (content s) (content t)) target_is (same_but (target transfer transfer.next) s t (logged tl))

  others_are_served : tells → (m : ℕ) (task : Task) → m ≢ n → task_at v.tasks m ≡ Some task → IsServed (content t) (row_in_list v.rows) task
  others_are_served tl m task other there =
      let its = core.tasks_.each m task there in
      others_served (row_in_list v.rows) (once_now S tells s v whole open_ tl) (content s) (content t) transfer.kind transfer.volume may.is.row old.frame transfer.cylinder transfer.next may.is.there
      (framed_by (row_in_list v.rows) old.frame old.victim q transfer may.is) may.is.due.cylinder_in may.more task its.request its.transfer_
      (frames_apart S v core n old serves.at m task other there) (others_same tl) (served_now S tells s v whole open_ tl m task there)

  moments : tells → Writes (StillShows v.config.frames (volumes_shown (content s)) s) s t
  moments tl = copy_shows v.config.frames s t (row_in_list v.rows) (rows_now S tells s v whole open_ tl) (sound_now S tells s v whole open_ tl) (quiet_now S tells s v whole open_ tl) old.frame old.victim q transfer may.is may.more (logged tl)

  quiet_then : tells → IsQuiet t
  quiet_then tl = copy_quiet v.config.frames s t (row_in_list v.rows) (rows_now S tells s v whole open_ tl) (sound_now S tells s v whole open_ tl) (quiet_now S tells s v whole open_ tl) old.frame old.victim q transfer may.is may.more (logged tl)

  pub whole_copied : (tells → block_at (content t) (target transfer transfer.next) ≡ source transfer transfer.next (content s))
      → IsWhole tells t (core_after_work v x v.rows v.console v.owners v.moving v.requests (slice_set v.tasks n (Some (record old { transfer = Some (moved_on transfer) }))))
  whole_copied done_ = make_whole (core_work S v core x v.rows v.console v.owners v.moving v.requests _ (owned_of S v core) core.moving_ (asked_of S v core) core.waiting
      (tasks_go_on v.config.frames (row_in_list v.rows) (row_in_list v.rows) v.moving v.requests v.hosts v.tasks core.tasks_ n old new serves.at refl refl new_task (λ m task other there. core.tasks_.each m task there))
      (fit_on S v core n old serves.at q serves.asked new (inl refl) refl v.rows (λ w some. some) (λ k p asked ready tasks kept. kept)))
      (λ tl. told_outside S s t v x (whole.told tl) open_ core.marked (moments tl) (leaves_table transfer transfer.next s t (logged tl)) (quiet_then tl) v.owners v.moving v.requests _
      (served_put S v core n old serves.at q serves.asked (content t) (row_in_list v.rows) (Some new) (λ task e. subst (IsServed (content t) (row_in_list v.rows)) (some_is new task e) (own tl)) (others_are_served tl)))
    where
      before_ : tells → AreCopied transfer.kind old.touched (content s) may.is.row transfer.cylinder transfer.next
      before_ tl = elim may.begun [
        | inl same ↦ served_now S tells s v whole open_ tl n old serves.at transfer may.is.row same may.is.there
        | inr zero_ ↦ nothing_yet transfer.kind old.touched (content s) may.is.row transfer.cylinder transfer.next zero_
      ]

      own : tells → IsServed (content t) (row_in_list v.rows) new
      own tl u k e there =
          let u_is : moved_on transfer ≡ u = some_is (moved_on transfer) u e in
          let k_is : may.is.row ≡ k = some_is may.is.row k (sym may.is.there ∙ ap (λ (z : Transfer). row_in_list v.rows z.volume) u_is ∙ there) in
          subst (λ (z : Transfer). AreCopied z.kind old.touched (content t) k z.cylinder z.next) u_is
          (subst (λ (z : RowValue). AreCopied transfer.kind old.touched (content t) z transfer.cylinder (transfer.next + 1)) k_is
          (copied_more (row_in_list v.rows) (once_now S tells s v whole open_ tl) (content s) (content t) transfer.kind old.touched transfer.volume may.is.row old.frame transfer.cylinder transfer.next may.is.there
          (framed_by (row_in_list v.rows) old.frame old.victim q transfer may.is) may.is.due.state may.is.due.cylinder_in may.more (others_same tl)
          (ap (block_at (content t)) (sym target_is) ∙ done_ tl ∙ (λ i. copied_from transfer.kind (content s) (may.is.frame_ i) (may.is.due.cartridge_ i) transfer.cylinder transfer.next)) (before_ tl)))

  -- what a copy that failed leaves
  pub uncopied_shows : tells → LeavesShown s t v n
  uncopied_shows tl = record {
    moments = moments tl;
    tables = leaves_table transfer transfer.next s t (logged tl);
    quiet = quiet_then tl;
    others = others_are_served tl;
  }

-- ---- with the counts, and the event told

module _ (S : Type 0) {C : Type 0} (tells : Type 0) (s t : SiteLog) (writes faults later_writes later : ℕ) (v : CoreValue S C) (kept : IsKept tells s writes faults v) (open_ : v.stopped ≡ None)
    (n : ℕ) (old : Task) (q : Request) (serves : Serves v n old q) (x : S) (transfer : Transfer) (may : MayCopy v old q transfer) (logged : tells → AddsAtMost (target transfer transfer.next) s t)
    (more : writes ≤ later_writes) (le : faults ≤ later) where
  pub kept_copied : (tells → block_at (content t) (target transfer transfer.next) ≡ source transfer transfer.next (content s))
      → IsKept tells t later_writes later (record v { site = x; tasks = slice_set v.tasks n (Some (record old { transfer = Some (moved_on transfer) })); events = v.events ++ Work n ∷ [] })
  kept_copied done_ =
      kept_noted tells t later_writes later (core_after_work v x v.rows v.console v.owners v.moving v.requests (slice_set v.tasks n (Some (record old { transfer = Some (moved_on transfer) })))) (v.events ++ Work n ∷ [])
      (whole_copied S tells s t v kept.whole open_ n old q serves x transfer may logged done_)
      (counted_later writes faults later_writes later v.requests (data_of v) kept.counted more le)

  -- a copy that failed ends the task
  pub kept_uncopied : (fault : ℕ) → IsFaultSince faults later fault → IsKept tells t later_writes later (failed v n old x fault)
  kept_uncopied = kept_failed S tells s t writes faults later_writes later v kept open_ n old q serves x (uncopied_shows S tells s t v kept.whole open_ n old q serves x transfer may logged) more le
