-- The end of a transfer: the core behind the sync of its copies, and what comes of a sync that fails.
use Rattle.std.proofs.Common.{◌≡◌, inl, inr, ℕ, ◌≤◌, false, List, [], ◌∷◌, Option, Some, None, Result, refl, sym, ◌∙◌, ap, subst, arith}
use Rattle.std.specs.Prelude.{is_err, OnOk}
use Rattle.mss_base.specs.Content.{Content, SiteLog, Got, content, synced, unsynced}
use Rattle.mss_base.specs.Counts.{Rises}
use Rattle.mss_base.specs.Sites.{MayWrite}
use Rattle.mss_base.specs.declared.site.Site.{Ghosts}
use Rattle.volume_table.specs.Listed.{row_in_list}
use Rattle.shown_volumes.proofs.QuietFacts.{sync_moments, sync_quiet, sync_same}
use Rattle.fault_queue.specs.declared.queue.Request.{Request}
use Rattle.transfers.specs.Copies.{AreFirm, target_unit}
use Rattle.transfers.specs.declared.transfer.Transfer.{Transfer}
use Rattle.transfers.proofs.CopyFacts.{synced_copies}
use Rattle.victim_choice.specs.declared.choose.Candidate.{Candidate}
use Rattle.core_state.specs.declared.task.Task.{Task}
use Rattle.core_state.specs.declared.rule.WorkAnswer.{WorkAnswer}
use Rattle.core_state.specs.declared.rule.WorkAnswer.TheVariants.{Did}
use Rattle.core_state.specs.declared.rule.WorkKind.TheVariants as kind
use Rattle.core_state.specs.declared.rule.WorkRule.TheVariants.{Ends}
use Rattle.core_state.specs.CoreValue.{CoreValue, seen_core, seen_site}
use Rattle.core_state.specs.Devices.{FailSync, SyncUnit}
use Rattle.core_state.specs.Pins.{task_at}
use Rattle.core_state.specs.Served.{IsServed}
use Rattle.core_state.specs.SessionData.{SessionData}
use Rattle.core_state.specs.WorkEvents.{WithTask, TaskDoes, WorkDoes}
use Rattle.core_state.specs.Working.{Serves, MayEndDestage, MayEndStage}
use Rattle.core_state.proofs.Synced.{kept_synced}
use Rattle.work_events.proofs.FailedWhole.{LeavesShown, failed, kept_failed}
use Rattle.work_events.proofs.OwnTask.{quiet_now, served_now, sound_now}
use Rattle.work_events.proofs.RoomFacts.{when_ok}
use Rattle.work_events.proofs.RowSteps.{HasRoom, IsKeptOn}

module _ {S C : Type 0} (g : Ghosts S) {inside v : CoreValue S C} {site : S} {session : SessionData} (has : HasRoom g inside v site session) (open_ : v.stopped ≡ None) (t : Transfer) (x : S) where
  later_ : g.writes site ≤ g.writes x → g.writes v.site ≤ g.writes x
  later_ later = let u = has.reserves.unwritten in omega (arith, u, later)

  -- ---- the unit was synced

  module _ (sync : SyncUnit g.tells (target_unit t) (seen_site g site) (seen_site g x)) where
    pub sync_since : SyncUnit g.tells (target_unit t) (seen_site g v.site) (seen_site g x)
    sync_since = record {
      told = λ tl. subst (λ (s : SiteLog). Got (synced (target_unit t) ∷ []) s (g.told x)) (has.reserves.log tl) (sync.told tl);
      later = later_ sync.later;
      sound = sync.sound ∙ has.reserves.same;
    }

    -- the copies are firm
    pub copies_firm : g.tells → AreFirm t (g.told x)
    copies_firm tl = synced_copies t (g.told site) (g.told x) (sync.told tl)

    -- the core on that site, as if room had been made there
    pub room_synced : HasRoom g (record inside { site = x }) (record v { site = x }) x session
    room_synced = record {
      is = ap (λ (z : CoreValue S C). record z { site = x }) has.is;
      kept =
          kept_synced g.tells (g.told v.site) (g.told x) (target_unit t) (g.writes v.site) (g.faults v.site) (g.writes x) (g.faults x) v x open_ (λ tl. inl (sync_since.told tl)) sync_since.later
          (let f = sync_since.sound in omega (arith, f)) has.kept;
      same = has.same;
      reserves = record { log = λ _. refl; room = omega arith; unwritten = refl; same = refl; sound = λ but never. never };
    }

  -- ---- the sync failed

  module _ (loose : FailSync g.tells (seen_site g site) (seen_site g x)) where
    pub loose_since : FailSync g.tells (seen_site g v.site) (seen_site g x)
    loose_since = record {
      told = λ tl. subst (λ (s : SiteLog). Got (unsynced ∷ []) s (g.told x)) (has.reserves.log tl) (loose.told tl);
      tried = subst (λ (k : ℕ). Rises k (g.writes x)) has.reserves.unwritten loose.tried;
      later = later_ loose.later;
      failed = subst (λ (k : ℕ). Rises k (g.faults x)) has.reserves.same loose.failed;
    }

    unsynced_shows : (n : ℕ) → g.tells → LeavesShown (g.told v.site) (g.told x) v n
    unsynced_shows n tl =
        let quiet = quiet_now S g.tells (g.told v.site) v has.kept.whole open_ tl in
        let same : content (g.told x) ≡ content (g.told v.site) = sync_same (g.told v.site) (g.told x) (target_unit t) (inr (loose_since.told tl)) in
        record {
          moments = sync_moments v.config.frames (g.told v.site) (g.told x) (target_unit t) quiet (sound_now S g.tells (g.told v.site) v has.kept.whole open_ tl) (inr (loose_since.told tl));
          tables = λ unit block table. ap (λ (c : Content). c unit block) same;
          quiet = sync_quiet (g.told v.site) (g.told x) (target_unit t) quiet (inr (loose_since.told tl));
          others = λ m task other at. subst (λ (c : Content). IsServed c (row_in_list v.rows) task) (sym same) (served_now S g.tells (g.told v.site) v has.kept.whole open_ tl m task at);
        }

    -- the task ends
    pub kept_unsynced : {most : ℕ} → MayWrite g most site x → (n : ℕ) (old : Task) (q : Request) → Serves v n old q → IsKeptOn g x (failed v n old x (g.faults x))
    kept_unsynced devices n old q serves =
        kept_failed S g.tells (g.told v.site) (g.told x) (g.writes v.site) (g.faults v.site) (g.writes x) (g.faults x) v has.kept open_ n old q serves x (unsynced_shows n)
        loose_since.later (let f = devices.later in let u = has.reserves.same in omega (arith, f, u)) (g.faults x) (record { count = refl; rises = loose_since.failed })

-- ---- a task on another site

pub serves_on : {S C : Type 0} (v : CoreValue S C) (x : S) (n : ℕ) (task : Task) (q : Request) → Serves v n task q → Serves (record v { site = x }) n task q
serves_on v x n task q serves = record { at = serves.at; asked = serves.asked }

pub destages_on : {S C : Type 0} (v : CoreValue S C) (x : S) (task : Task) (t : Transfer) → MayEndDestage v task t → MayEndDestage (record v { site = x }) task t
destages_on v x task t may = record { copies = may.copies; kind = may.kind; all_ = may.all_; untouched = may.untouched }

pub stages_on : {S C : Type 0} (v : CoreValue S C) (x : S) (task : Task) (t : Transfer) → MayEndStage v task t → MayEndStage (record v { site = x }) task t
stages_on v x task t may = record { copies = may.copies; kind = may.kind; all_ = may.all_ }

-- ---- a task whose transfer may end, behind the sync of its copies

pub record IsSynced {S C : Type 0} (g : Ghosts S) (inside v : CoreValue S C) (x : S) (session : SessionData) (n : ℕ) (task : Task) (q : Request) (t : Transfer) : Type 0 where
  pub has : HasRoom g (record inside { site = x }) (record v { site = x }) x session
  pub serves : Serves (record v { site = x }) n task q
  pub since : SyncUnit g.tells (target_unit t) (seen_site g v.site) (seen_site g x)
  pub firm : g.tells → AreFirm t (g.told x)

pub is_synced : {S C : Type 0} (g : Ghosts S) {inside v : CoreValue S C} {site : S} {session : SessionData} → HasRoom g inside v site session → v.stopped ≡ None
    → (n : ℕ) (task : Task) (q : Request) → Serves v n task q → (t : Transfer) (x : S) {T E : Type 0} (result : Result T E) → is_err result ≡ false
    → OnOk result (SyncUnit g.tells (target_unit t) (seen_site g site) (seen_site g x)) → IsSynced g inside v x session n task q t
is_synced g {v = v} has open_ n task q serves t x result ok firm =
    let sync = when_ok result ok firm in
    record { has = room_synced g has open_ t x sync; serves = serves_on v x n task q serves; since = sync_since g has open_ t x sync; firm = copies_firm g has open_ t x sync }

-- ---- the event

pub unsynced_does : {S C : Type 0} (g : Ghosts S) (may : List Candidate → ℕ → Type 0) (v w : CoreValue S C) (n : ℕ) (old : Task) (t : Transfer) (answer : WorkAnswer)
    → answer ≡ Did kind.End → task_at v.tasks n ≡ Some old → FailSync g.tells (seen_site g v.site) (seen_site g w.site) → w ≡ failed v n old w.site (g.faults w.site)
    → WorkDoes g.tells may (seen_core g v) n (Ends t) answer (seen_core g w)
unsynced_does {S} {C} g may v w n old t answer is at loose path =
    subst (λ (a : WorkAnswer). WorkDoes g.tells may (seen_core g v) n (Ends t) a (seen_core g w)) (sym is)
    (subst (λ (o : Option Task). WithTask o (λ task. TaskDoes g.tells (seen_core g v) n (Ends t) task (Did kind.End) (seen_core g w))) (sym at)
    (inr (loose, refl, ap (λ (z : CoreValue S C). seen_core g z) path)))
