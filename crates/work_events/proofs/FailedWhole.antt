-- A core stays whole where a copy of a task fails, or the sync of its copies: the task ends, and its request has failed.
use Rattle.std.proofs.Common.{◌≡◌, ◌≢◌, ℕ, ◌≤◌, false, [], ◌∷◌, ◌++◌, Some, None, sym, subst}
use Rattle.std.specs.Prelude.{slice_set}
use Rattle.mss_base.specs.Content.{SiteLog, content, Writes}
use Rattle.mss_base.specs.Counts.{IsFaultSince}
use Rattle.volume_table.specs.Listed.{row_in_list}
use Rattle.shown_volumes.specs.Shown.{volumes_shown, SameTables}
use Rattle.shown_volumes.specs.Changing.{IsQuiet, StillShows}
use Rattle.fault_queue.specs.declared.queue.Request.{Request}
use Rattle.fault_queue.specs.declared.queue.RequestState.TheVariants.{Queued, Moving, Ready, Failed}
use Rattle.fault_queue.specs.Requests.{RequestsData, put_request, with_state}
use Rattle.fault_queue.proofs.RequestFacts.{with_state_is}
use Rattle.core_state.specs.declared.task.Task.{Task}
use Rattle.core_state.specs.declared.session.Event.TheVariants.{Work}
use Rattle.core_state.specs.CoreValue.{CoreValue}
use Rattle.core_state.specs.Entered.{core_after_work}
use Rattle.core_state.specs.Pins.{task_at}
use Rattle.core_state.specs.Served.{IsServed}
use Rattle.core_state.specs.IsCore.{IsCore}
use Rattle.core_state.specs.TheCore.{IsWhole, IsKept}
use Rattle.core_state.specs.Counted.{IsCounted}
use Rattle.core_state.specs.SessionData.{data_of}
use Rattle.core_state.specs.Working.{Serves}
use Rattle.core_state.proofs.Making.{make_whole}
use Rattle.core_state.proofs.CountedFacts.{counted_request}
use Rattle.core_state.proofs.RuleWalks.{some_is, none_some}
use Rattle.core_state.proofs.ChangeLemmas.{told_outside}
use Rattle.core_state.proofs.CoreWork.{owned_of, core_work}
use Rattle.core_state.proofs.TaskLists.{tasks_ended}
use Rattle.work_events.proofs.KeptFacts.{kept_noted}
use Rattle.work_events.proofs.OwnTask.{asked_now, waiting_now, long_now, ended_task, fit_ended, served_put}

-- what a failed call leaves of the devices: the same is shown, the tables stay, what is loose lies outside, and so do the blocks of
-- which the other tasks speak
pub record LeavesShown {S C : Type 0} (s t : SiteLog) (v : CoreValue S C) (n : ℕ) : Type 0 where
  pub moments : Writes (StillShows v.config.frames (volumes_shown (content s)) s) s t
  pub tables : SameTables (content s) (content t)
  pub quiet : IsQuiet t
  pub others : (m : ℕ) (task : Task) → m ≢ n → task_at v.tasks m ≡ Some task → IsServed (content t) (row_in_list v.rows) task

module _ (S : Type 0) {C : Type 0} (tells : Type 0) (s t : SiteLog) (v : CoreValue S C) (whole : IsWhole tells s v) (open_ : v.stopped ≡ None) (n : ℕ) (old : Task) (q : Request) (serves : Serves v n old q)
    (x : S) (leaves : tells → LeavesShown s t v n) (fault : ℕ) where
  core : IsCore v
  core = whole.kept open_

  whole_failed : IsWhole tells t (core_after_work v x v.rows v.console v.owners (slice_set v.moving old.frame false) (put_request v.requests old.host (Some (record q { state = Failed fault }))) (slice_set v.tasks n None))
  whole_failed = make_whole (core_work S v core x v.rows v.console v.owners _ _ _ (owned_of S v core) (long_now S v core n old serves.at q serves.asked) (asked_now S v core n old serves.at q serves.asked (Failed fault))
      (waiting_now S v core n old serves.at q serves.asked (Failed fault) (λ queued. let e : Failed fault ≡ Queued = queued in absurd cc))
      (tasks_ended v.config.frames (row_in_list v.rows) (row_in_list v.rows) v.moving v.requests v.hosts v.tasks core.tasks_ n old serves.at (record q { state = Failed fault }) (λ moves. let e : Failed fault ≡ Moving = moves in cc) core.requests_
      (ended_task S v core n old serves.at q serves.asked (Failed fault)))
      (fit_ended S v core n old serves.at q serves.asked (Failed fault) (λ ready. let e : Failed fault ≡ Ready = ready in cc)))
      (λ tl. told_outside S s t v x (whole.told tl) open_ core.marked (leaves tl).moments (leaves tl).tables (leaves tl).quiet v.owners _ _ _
      (served_put S v core n old serves.at q serves.asked (content t) (row_in_list v.rows) None (λ task e. absurd (none_some task e)) (leaves tl).others))

-- ---- the core that is left, with the counts, and the event told

abbrev pub failed : {S C : Type 0} → CoreValue S C → ℕ → Task → S → ℕ → CoreValue S C
failed v n old x fault = record v {
  site = x;
  moving = slice_set v.moving old.frame false;
  requests = with_state old.host (Failed fault) v.requests;
  tasks = slice_set v.tasks n None;
  events = v.events ++ Work n ∷ [];
}

pub kept_failed : (S : Type 0) {C : Type 0} (tells : Type 0) (s t : SiteLog) (writes faults later_writes later : ℕ) (v : CoreValue S C) (kept : IsKept tells s writes faults v) (open_ : v.stopped ≡ None)
    (n : ℕ) (old : Task) (q : Request) (serves : Serves v n old q) (x : S) → (tells → LeavesShown s t v n) → writes ≤ later_writes → faults ≤ later
    → (fault : ℕ) → IsFaultSince faults later fault → IsKept tells t later_writes later (failed v n old x fault)
kept_failed S tells s t writes faults later_writes later v kept open_ n old q serves x leaves more le fault since =
    let put : with_state old.host (Failed fault) v.requests ≡ put_request v.requests old.host (Some (record q { state = Failed fault })) = with_state_is v.requests old.host q (Failed fault) serves.asked in
    kept_noted tells t later_writes later (core_after_work v x v.rows v.console v.owners (slice_set v.moving old.frame false) (with_state old.host (Failed fault) v.requests) (slice_set v.tasks n None)) (v.events ++ Work n ∷ [])
    (subst (λ (z : RequestsData). IsWhole tells t (core_after_work v x v.rows v.console v.owners (slice_set v.moving old.frame false) z (slice_set v.tasks n None))) (sym put)
    (whole_failed S tells s t v kept.whole open_ n old q serves x leaves fault))
    (subst (λ (z : RequestsData). IsCounted later_writes later z (data_of v)) (sym put)
    (counted_request writes faults later_writes later v.requests (data_of v) kept.counted more le old.host (Some (record q { state = Failed fault })) (kept.whole.kept open_).requests_
    (λ other e. subst (IsFaultSince faults later) (some_is fault other e) since)))
