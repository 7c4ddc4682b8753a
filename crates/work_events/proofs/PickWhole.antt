-- A core is kept where a recorder begins a task, and where it gives one up.
use Rattle.std.proofs.Common.{◌≡◌, ◌≢◌, inl, inr, ℕ, ◌/◌, ◌<◌, Bool, true, false, List, [], ◌∷◌, ◌++◌, length, Option, Some, None, refl, sym, ◌∙◌, ap, subst, arith, get_or-set_same}
use Rattle.std.specs.Prelude.{slice_set}
use Rattle.std.proofs.lemmas.List.{length-set}
use Rattle.mss_base.specs.Content.{SiteLog, content}
use Rattle.volume_table.specs.Listed.{row_in_list}
use Rattle.fault_queue.specs.declared.queue.Request.{Request}
use Rattle.fault_queue.specs.declared.queue.RequestState.TheVariants.{Queued, Moving, Ready}
use Rattle.fault_queue.specs.Requests.{request_of, RequestsData, put_request, with_state as put_state, IsOnce}
use Rattle.fault_queue.proofs.RequestFacts.{request_same, with_state_is}
use Rattle.transfers.specs.declared.transfer.Transfer.{Transfer}
use Rattle.core_state.specs.declared.task.Task.{Task}
use Rattle.core_state.specs.declared.session.Event.TheVariants.{Work}
use Rattle.core_state.specs.CoreValue.{CoreValue}
use Rattle.core_state.specs.SessionData.{data_of}
use Rattle.core_state.specs.Pins.{task_at, moves_at}
use Rattle.core_state.specs.Tasks.{IsTask, HasFrame, IsUnbound}
use Rattle.core_state.specs.Served.{AreServed}
use Rattle.core_state.specs.IsCore.{IsCore}
use Rattle.core_state.specs.TheCore.{IsWhole, IsKept}
use Rattle.core_state.specs.Entered.{core_after_work}
use Rattle.core_state.specs.Working.{Serves, MayPick}
use Rattle.core_state.proofs.Making.{make_whole}
use Rattle.core_state.proofs.RuleWalks.{some_is, none_some}
use Rattle.core_state.proofs.TaskLists.{task_was, tasks_ended, tasks_begun}
use Rattle.core_state.proofs.CoreWork.{owned_of, asked_again, core_work, told_same, waiting_again}
use Rattle.core_state.proofs.CountedFacts.{counted_request}
use Rattle.core_state.proofs.Fitting.{ready_put, fit_put}
use Rattle.work_events.proofs.KeptFacts.{kept_noted}
use Rattle.work_events.proofs.OwnTask.{own_waits, asked_now, waiting_now, long_now, ended_task, fit_ended, served_put, served_now}

-- ---- a task begins

module _ (S : Type 0) {C : Type 0} (tells : Type 0) (s : SiteLog) (v : CoreValue S C) (whole : IsWhole tells s v) (open_ : v.stopped ≡ None) (n : ℕ) (fits : n < length v.tasks) (idle : task_at v.tasks n ≡ None)
    (new : Task) (bare : new.transfer ≡ None) (rests : moves_at v.moving new.frame ≡ false) (known : new.frame < v.config.frames)
    (request : Request) (asked : request_of v.requests new.host ≡ Some request) (queued : request.state ≡ Queued)
    (has : HasFrame (row_in_list v.rows) new.frame new.victim request.volume (request.cylinder / 8)) (unbound : (victim : ℕ × ℕ) → new.victim ≡ Some victim → IsUnbound v.hosts victim.0)
    (unheld : (h : ℕ) (q : Request) → request_of v.requests h ≡ Some q → q.state ≡ Ready → new.victim ≢ Some (q.volume, q.cylinder / 8)) where
  core_p : IsCore v
  core_p = whole.kept open_

  abbrev moving_p : List Bool
  moving_p = slice_set v.moving new.frame true

  abbrev requests_p : RequestsData
  requests_p = put_request v.requests new.host (Some (record request { state = Moving }))

  within_p : IsOnce v.requests
  within_p = core_p.requests_

  own_p : IsTask v.config.frames (row_in_list v.rows) (slice_set v.moving new.frame true) (put_request v.requests new.host (Some (record request { state = Moving }))) v.hosts new
  own_p = record {
    low = known;
    moves = get_or-set_same v.moving new.frame true false (let l = core_p.moving_ in omega (arith, l, known));
    request = record request { state = Moving };
    asked = request_same v.requests new.host (Some (record request { state = Moving })) within_p;
    is_moving_ = refl;
    waits = core_p.waiting new.host request asked queued;
    frame_ = has;
    unbound = unbound;
    transfer_ = λ u e. absurd (let o : ◌≡◌ {A = Option Transfer} None (Some u) = sym bare ∙ e in cc);
  }

  none_begun : (task : Task) (u : Transfer) → Some new ≡ Some task → task.transfer ≡ Some u → ⊥
  none_begun task u is copies = let o : ◌≡◌ {A = Option Transfer} None (Some u) = sym bare ∙ ap (λ (z : Task). z.transfer) (some_is new task is) ∙ copies in cc

  served_p : AreServed (content s) (row_in_list v.rows) v.tasks → AreServed (content s) (row_in_list v.rows) (slice_set v.tasks n (Some new))
  served_p were m task is u k copies there = elim (task_was v.tasks n (Some new) fits m task is) [
    | inl e ↦ absurd (none_begun task u e.1 copies)
    | inr e ↦ were m task e.1 u k copies there
  ]

  pub whole_picked : IsWhole tells s (core_after_work v v.site v.rows v.console v.owners (slice_set v.moving new.frame true) (put_request v.requests new.host (Some (record request { state = Moving }))) (slice_set v.tasks n (Some new)))
  whole_picked = make_whole (core_work S v core_p v.site v.rows v.console v.owners _ _ _ (owned_of S v core_p) (length-set v.moving new.frame true ∙ core_p.moving_) (asked_again S v core_p new.host request asked Moving)
      (waiting_again (row_in_list v.rows) v.requests new.host request Moving within_p core_p.waiting (λ e. let o : Moving ≡ Queued = e in absurd cc))
      (tasks_begun v.config.frames (row_in_list v.rows) v.moving v.requests v.hosts v.tasks core_p.tasks_ n fits idle new rests (let l = core_p.moving_ in omega (arith, l, known)) request asked (λ moves. let o : Queued ≡ Moving = sym queued ∙ moves in cc) within_p own_p)
      (fit_put v.config.recorders v.rows v.rows v.requests v.hosts v.tasks (slice_set v.tasks n (Some new)) core_p.fit (length-set v.tasks n (Some new)) (λ w is. is)
      (λ k q asked_ ready is. ready_put (row_in_list v.rows) v.tasks q n new fits (λ victim. absurd (unheld k q asked_ ready victim)) is) new.host (Some (record request { state = Moving })) core_p.requests_
      (λ q is ready. absurd (let a : Moving ≡ q.state = ap (λ (z : Request). z.state) (some_is (record request { state = Moving }) q is) in let b : Moving ≡ Ready = a ∙ ready in cc))))
      (λ tl. told_same S s v v.site v.owners _ _ _ (whole.told tl) (λ going_. served_p ((whole.told tl).going going_).served))

module _ (S : Type 0) {C : Type 0} (tells : Type 0) (s : SiteLog) (writes faults : ℕ) (v : CoreValue S C) (kept : IsKept tells s writes faults v) (open_ : v.stopped ≡ None) (n : ℕ) (new : Task) (q : Request) (may : MayPick v n new q) where
  pub kept_picked : IsKept tells s writes faults (record v {
    moving = slice_set v.moving new.frame true;
    requests = put_state new.host Moving v.requests;
    tasks = slice_set v.tasks n (Some new);
    events = v.events ++ Work n ∷ [];
  })
  kept_picked =
      let put : put_state new.host Moving v.requests ≡ put_request v.requests new.host (Some (record q { state = Moving })) = with_state_is v.requests new.host q Moving may.asked in
      subst (λ (z : RequestsData). IsKept tells s writes faults (record v { moving = slice_set v.moving new.frame true; requests = z; tasks = slice_set v.tasks n (Some new); events = v.events ++ Work n ∷ [] })) (sym put)
      (kept_noted tells s writes faults (core_after_work v v.site v.rows v.console v.owners (slice_set v.moving new.frame true) (put_request v.requests new.host (Some (record q { state = Moving }))) (slice_set v.tasks n (Some new))) (v.events ++ Work n ∷ [])
      (whole_picked S tells s v kept.whole open_ n may.fits may.idle new may.bare may.rests may.known q may.asked may.queued may.has may.unbound may.unheld)
      (counted_request writes faults writes faults v.requests (data_of v) kept.counted (omega arith) (omega arith) new.host (Some (record q { state = Moving })) (kept.whole.kept open_).requests_ (λ fault e. absurd (none_some fault e))))

-- ---- a task is given up

module _ (S : Type 0) {C : Type 0} (tells : Type 0) (s : SiteLog) (v : CoreValue S C) (whole : IsWhole tells s v) (open_ : v.stopped ≡ None) (n : ℕ) (old : Task) (at : task_at v.tasks n ≡ Some old) (wanted : Request) (wants : request_of v.requests old.host ≡ Some wanted) where
  core : IsCore v
  core = whole.kept open_

  found : IsTask v.config.frames (row_in_list v.rows) v.moving v.requests v.hosts old
  found = core.tasks_.each n old at

  pub whole_abandoned : IsWhole tells s (core_after_work v v.site v.rows v.console v.owners (slice_set v.moving old.frame false)
      (put_request v.requests old.host (Some (record wanted { state = Queued }))) (slice_set v.tasks n None))
  whole_abandoned = make_whole (core_work S v core v.site v.rows v.console v.owners _ _ _ (owned_of S v core) (long_now S v core n old at wanted wants) (asked_now S v core n old at wanted wants Queued) (waiting_now S v core n old at wanted wants Queued (λ _. (own_waits S v core n old at wanted wants)))
      (tasks_ended v.config.frames (row_in_list v.rows) (row_in_list v.rows) v.moving v.requests v.hosts v.tasks core.tasks_ n old at (record wanted { state = Queued }) (λ moves. let e : Queued ≡ Moving = moves in cc) core.requests_ (ended_task S v core n old at wanted wants Queued))
      (fit_ended S v core n old at wanted wants Queued (λ ready. let e : Queued ≡ Ready = ready in cc)))
      (λ tl. told_same S s v v.site v.owners _ _ _ (whole.told tl)
      (λ _. served_put S v core n old at wanted wants (content s) (row_in_list v.rows) None (λ task e. absurd (none_some task e)) (λ m task other is. served_now S tells s v whole open_ tl m task is)))

module _ (S : Type 0) {C : Type 0} (tells : Type 0) (s : SiteLog) (writes faults : ℕ) (v : CoreValue S C) (kept : IsKept tells s writes faults v) (open_ : v.stopped ≡ None) (n : ℕ) (old : Task) (q : Request) (serves : Serves v n old q) where
  pub kept_abandoned : IsKept tells s writes faults (record v {
    moving = slice_set v.moving old.frame false;
    requests = put_state old.host Queued v.requests;
    tasks = slice_set v.tasks n None;
    events = v.events ++ Work n ∷ [];
  })
  kept_abandoned =
      let put : put_state old.host Queued v.requests ≡ put_request v.requests old.host (Some (record q { state = Queued })) = with_state_is v.requests old.host q Queued serves.asked in
      subst (λ (z : RequestsData). IsKept tells s writes faults (record v { moving = slice_set v.moving old.frame false; requests = z; tasks = slice_set v.tasks n None; events = v.events ++ Work n ∷ [] })) (sym put)
      (kept_noted tells s writes faults (core_after_work v v.site v.rows v.console v.owners (slice_set v.moving old.frame false) (put_request v.requests old.host (Some (record q { state = Queued }))) (slice_set v.tasks n None)) (v.events ++ Work n ∷ [])
      (whole_abandoned S tells s v kept.whole open_ n old serves.at q serves.asked)
      (counted_request writes faults writes faults v.requests (data_of v) kept.counted (omega arith) (omega arith) old.host (Some (record q { state = Queued })) (kept.whole.kept open_).requests_ (λ fault e. absurd (none_some fault e))))
