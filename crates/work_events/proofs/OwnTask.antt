-- One recorder's task of a core, with its host's request: what it has, and what the others keep while it goes on or ends.
use Rattle.std.proofs.Common.{◌≡◌, ◌≢◌, ◌⊎◌, inl, inr, ℕ, ◌/◌, ◌<◌, false, List, length, Option, Some, None, sym, ◌∙◌, ap, subst, arith, get_or-set_other}
use Rattle.std.specs.Prelude.{slice_set, IsSome}
use Rattle.std.specs.Option.{ForSome}
use Rattle.std.proofs.lemmas.List.{length-set}
use Rattle.mss_base.specs.Content.{Content, SiteLog, content}
use Rattle.volume_table.specs.Row.{RowValue, state_of}
use Rattle.volume_table.specs.Listed.{row_in_list}
use Rattle.shown_volumes.specs.Shown.{RowsOf, rows_of}
use Rattle.shown_volumes.specs.Sound.{IsSound, HasCartridgesOnce}
use Rattle.shown_volumes.specs.Changing.{IsQuiet}
use Rattle.fault_queue.specs.declared.queue.Request.{Request}
use Rattle.fault_queue.specs.declared.queue.RequestState.{RequestState}
use Rattle.fault_queue.specs.declared.queue.RequestState.TheVariants.{Queued, Moving, Ready}
use Rattle.fault_queue.specs.Requests.{request_of, put_request}
use Rattle.fault_queue.proofs.RequestFacts.{request_other}
use Rattle.transfers.specs.declared.transfer.Transfer.{Transfer}
use Rattle.core_state.specs.declared.task.Task.{Task}
use Rattle.core_state.specs.CoreValue.{CoreValue}
use Rattle.core_state.specs.Pins.{task_at}
use Rattle.core_state.specs.Tasks.{AreWaiting, IsTask, IsTransfer, HasFrame}
use Rattle.core_state.specs.Served.{IsServed, AreServed}
use Rattle.core_state.specs.IsCore.{IsCore}
use Rattle.core_state.specs.TheCore.{IsWhole}
use Rattle.core_state.specs.Fitting.{IsReadyOn, IsFit}
use Rattle.core_state.proofs.RuleWalks.{some_is, none_some}
use Rattle.core_state.proofs.TaskLists.{task_fits, task_was}
use Rattle.core_state.proofs.CoreFacts.{sound_of}
use Rattle.core_state.proofs.CoreWork.{AreAsked, asked_again, waiting_again}
use Rattle.core_state.proofs.Others.{frames_apart, hosts_apart}
use Rattle.core_state.proofs.Fitting.{ready_ended, ready_put, fit_put, fit_same}

module _ (S : Type 0) {C : Type 0} (v : CoreValue S C) (core : IsCore v) (n : ℕ) (old : Task) (at : task_at v.tasks n ≡ Some old) (q : Request) (asked : request_of v.requests old.host ≡ Some q) where
  found : IsTask v.config.frames (row_in_list v.rows) v.moving v.requests v.hosts old
  found = core.tasks_.each n old at

  same : found.request ≡ q
  same = some_is found.request q (sym found.asked ∙ asked)

  -- ---- what it has

  pub own_moving : q.state ≡ Moving
  own_moving = ap (λ (z : Request). z.state) (sym same) ∙ found.is_moving_

  pub own_waits : ForSome (row_in_list v.rows q.volume) (λ r. state_of r q.cylinder < 2)
  own_waits = subst (λ (z : Request). ForSome (row_in_list v.rows z.volume) (λ r. state_of r z.cylinder < 2)) same found.waits

  pub own_frame : HasFrame (row_in_list v.rows) old.frame old.victim q.volume (q.cylinder / 8)
  own_frame = subst (λ (z : Request). HasFrame (row_in_list v.rows) old.frame old.victim z.volume (z.cylinder / 8)) same found.frame_

  pub own_transfer : (t : Transfer) → old.transfer ≡ Some t → IsTransfer (row_in_list v.rows) old.frame old.victim q t
  own_transfer t is = subst (λ (z : Request). IsTransfer (row_in_list v.rows) old.frame old.victim z t) same (found.transfer_ t is)

  -- ---- its request in another state

  pub asked_now : (state : RequestState) → AreAsked v.hosts (put_request v.requests old.host (Some (record q { state = state })))
  asked_now state = asked_again S v core old.host q asked state

  pub waiting_now : (state : RequestState) → (state ≡ Queued → ForSome (row_in_list v.rows q.volume) (λ r. state_of r q.cylinder < 2))
      → AreWaiting (row_in_list v.rows) (put_request v.requests old.host (Some (record q { state = state })))
  waiting_now state own = waiting_again (row_in_list v.rows) v.requests old.host q state core.requests_ core.waiting own

  -- ---- it ends

  pub long_now : length (slice_set v.moving old.frame false) ≡ v.config.frames
  long_now = length-set v.moving old.frame false ∙ core.moving_

  -- the tasks of the others then
  pub ended_task : (state : RequestState) (m : ℕ) (task : Task) → m ≢ n → task_at v.tasks m ≡ Some task
      → IsTask v.config.frames (row_in_list v.rows) (slice_set v.moving old.frame false) (put_request v.requests old.host (Some (record q { state = state }))) v.hosts task
  ended_task state m task other is =
      let its = core.tasks_.each m task is in
      record {
        low = its.low;
        moves = get_or-set_other v.moving old.frame task.frame false false (frames_apart S v core n old at m task other is) ∙ its.moves;
        request = its.request;
        asked = request_other v.requests old.host task.host (Some (record q { state = state })) core.requests_ (hosts_apart S v core n old at m task other is) ∙ its.asked;
        is_moving_ = its.is_moving_;
        waits = its.waits;
        frame_ = its.frame_;
        unbound = its.unbound;
        transfer_ = its.transfer_;
      }

  pub fits_n : n < length v.tasks
  fits_n = task_fits v.tasks n old at

  length_put_ : (o : Option Task) → length (slice_set v.tasks n o) ≡ length v.tasks
  length_put_ o = length-set v.tasks n o

  -- its request isn't Ready then
  pub fit_ended : (state : RequestState) → (state ≡ Ready → ⊥) → IsFit v.config.recorders v.rows (put_request v.requests old.host (Some (record q { state = state }))) v.hosts (slice_set v.tasks n None)
  fit_ended state unready = fit_put v.config.recorders v.rows v.rows v.requests v.hosts v.tasks (slice_set v.tasks n None) core.fit (length_put_ None) (λ w is. is) (λ k p its ready is. ready_ended (row_in_list v.rows) v.tasks p n fits_n is)
      old.host (Some (record q { state = state })) core.requests_ (λ p is ready. absurd (unready (ap (λ (z : Request). z.state) (some_is (record q { state = state }) p is) ∙ ready)))

  -- ---- it goes on, with the victim that it has, or none

  kept_on : (new : Task) → (new.victim ≡ old.victim) ⊎ (new.victim ≡ None) → new.touched ≡ old.touched → (p : Request) → IsReadyOn (row_in_list v.rows) v.tasks p → IsReadyOn (row_in_list v.rows) (slice_set v.tasks n (Some new)) p
  kept_on new which touches p is = ready_put (row_in_list v.rows) v.tasks p n new fits_n
      (λ victim. elim which [
        | inl e ↦ touches ∙ is.touched_ n old at (sym e ∙ victim)
        | inr e ↦ absurd (none_some (p.volume, p.cylinder / 8) (sym e ∙ victim))
      ]) is

  pub fit_on : (new : Task) → (new.victim ≡ old.victim) ⊎ (new.victim ≡ None) → new.touched ≡ old.touched → (rows : List (Option RowValue)) → ((volume : ℕ) → IsSome (row_in_list v.rows volume) → IsSome (row_in_list rows volume))
      → ((k : ℕ) (p : Request) → request_of v.requests k ≡ Some p → p.state ≡ Ready → (tasks : List (Option Task)) → IsReadyOn (row_in_list v.rows) tasks p → IsReadyOn (row_in_list rows) tasks p)
      → IsFit v.config.recorders rows v.requests v.hosts (slice_set v.tasks n (Some new))
  fit_on new which touches rows still keeps = fit_same v.config.recorders v.rows rows v.requests v.hosts v.tasks (slice_set v.tasks n (Some new)) core.fit (length_put_ (Some new)) still
      (λ k p its ready is. keeps k p its ready (slice_set v.tasks n (Some new)) (kept_on new which touches p is))

  -- ---- what the tasks say of blocks, where the others' claims stay

  pub served_put : (c : Content) (rows : RowsOf) (o : Option Task) → ((task : Task) → o ≡ Some task → IsServed c rows task) → ((m : ℕ) (task : Task) → m ≢ n → task_at v.tasks m ≡ Some task → IsServed c rows task)
      → AreServed c rows (slice_set v.tasks n o)
  served_put c rows o own others m task is = elim (task_was v.tasks n o fits_n m task is) [
    | inl x ↦ own task x.1
    | inr x ↦ others m task x.0 x.1
  ]

  pub place_in : (volume : ℕ) → volume < 32 → volume < length v.rows
  place_in volume low = let p = core.places in omega (arith, p, low)

-- ---- what a core that tells holds

module _ (S : Type 0) {C : Type 0} (tells : Type 0) (s : SiteLog) (v : CoreValue S C) (whole : IsWhole tells s v) (open_ : v.stopped ≡ None) where
  pub sound_now : tells → IsSound v.config.frames (content s)
  sound_now tl = sound_of S s v (whole.told tl)

  pub quiet_now : tells → IsQuiet s
  quiet_now tl = ((whole.told tl).going open_).quiet

  pub rows_now : tells → rows_of (content s) ≡ row_in_list v.rows
  rows_now tl = ((whole.told tl).going open_).rows_

  pub served_now : tells → AreServed (content s) (row_in_list v.rows) v.tasks
  served_now tl = ((whole.told tl).going open_).served

  pub once_now : tells → HasCartridgesOnce (row_in_list v.rows)
  once_now tl = subst HasCartridgesOnce (rows_now tl) (sound_now tl).agree.cartridges_once
