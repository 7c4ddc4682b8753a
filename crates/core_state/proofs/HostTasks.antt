-- Tasks stay whole when a host's state and request change, and when pages are used.
use Rattle.std.proofs.Common.{◌≡◌, ◌≢◌, ◌⊎◌, inl, inr, ℕ, zero, suc, Bool, true, ◌||◌, List, [], ◌∷◌, Option, Some, None, refl, sym, ◌∙◌, ap, subst}
use Rattle.std.proofs.lemmas.Bool.Decides.{eqb_tells}
use Rattle.ckd_plain.specs.declared.host.HostState.{HostState}
use Rattle.shown_volumes.specs.Shown.{RowsOf}
use Rattle.fault_queue.specs.declared.queue.Request.{Request}
use Rattle.fault_queue.specs.declared.queue.RequestState.TheVariants.{Moving}
use Rattle.core_state.specs.declared.task.Task.{Task}
use Rattle.core_state.specs.Pins.{host_at, task_at, put_host}
use Rattle.fault_queue.specs.Requests.{request_of, RequestsData, put_request, IsOnce}
use Rattle.core_state.specs.Tasks.{IsTask, AreTasks, IsUnbound, takes, touched_by}
use Rattle.core_state.specs.Tasks.{touched_all}
use Rattle.core_state.proofs.RuleWalks.{some_is}
use Rattle.fault_queue.proofs.RequestFacts.{request_same, request_other}
use Rattle.core_state.proofs.HostFacts.{host_same, host_other, IsHostOf}

-- no task takes a frame from a volume
abbrev pub IsNotTaken : List (Option Task) → ℕ → Type 0
IsNotTaken tasks volume = (recorder : ℕ) (task : Task) (victim : ℕ × ℕ) → task_at tasks recorder ≡ Some task → task.victim ≡ Some victim → victim.0 ≢ volume

module _ (frames : ℕ) (rows : RowsOf) (moving : List Bool) (requests : RequestsData) (hosts : List HostState) (tasks : List (Option Task)) (are : AreTasks frames rows moving requests hosts tasks)
    (h : ℕ) (host : HostState) (request : Option Request) (fits : IsHostOf hosts h) (also : IsOnce requests)
    (quiet : (q : Request) → request_of requests h ≡ Some q → q.state ≡ Moving → ⊥)
    (still : (q : Request) → request ≡ Some q → q.state ≡ Moving → ⊥)
    (binds : (volume : ℕ) → host.mounted ≡ Some (volume, true) → ((host_at hosts h).mounted ≡ Some (volume, true)) ⊎ IsNotTaken tasks volume) where
  other_host : (recorder : ℕ) (task : Task) → task_at tasks recorder ≡ Some task → task.host ≢ h
  other_host recorder task at same =
      let is = are.each recorder task at in
      quiet is.request (ap (request_of requests) (sym same) ∙ is.asked) is.is_moving_

  unbound_now : (recorder : ℕ) (task : Task) (victim : ℕ × ℕ) → task_at tasks recorder ≡ Some task → task.victim ≡ Some victim → IsUnbound (put_host hosts h host) victim.0
  unbound_now recorder task victim at takes_ other bound = elim (eqb_tells other h) [
    | inl e ↦
        let now : host.mounted ≡ Some (victim.0, true) = ap (λ (x : HostState). x.mounted) (sym (ap (host_at (put_host hosts h host)) e.1 ∙ host_same hosts h host fits)) ∙ bound in
        elim (binds victim.0 now) [
          | inl old ↦ (are.each recorder task at).unbound victim takes_ h old
          | inr none ↦ none recorder task victim at takes_ refl
        ]
    | inr e ↦ (are.each recorder task at).unbound victim takes_ other (ap (λ (x : HostState). x.mounted) (sym (host_other hosts h other host fits e.1)) ∙ bound)
  ]

  pub tasks_with_host : AreTasks frames rows moving (put_request requests h request) (put_host hosts h host) tasks
  tasks_with_host = record {
    each = λ recorder task at.
        let is = are.each recorder task at in
        record {
          low = is.low;
          moves = is.moves;
          request = is.request;
          asked = request_other requests h task.host request also (other_host recorder task at) ∙ is.asked;
          is_moving_ = is.is_moving_;
          waits = is.waits;
          frame_ = is.frame_;
          unbound = λ victim takes_. unbound_now recorder task victim at takes_;
          transfer_ = is.transfer_;
        };
    frames_once = are.frames_once;
    hosts_once = are.hosts_once;
    moved = are.moved;
    awaited = λ other q asked moves. elim (eqb_tells other h) [
      | inl e ↦ absurd (still q (sym (ap (request_of (put_request requests h request)) e.1 ∙ request_same requests h request also) ∙ asked) moves)
      | inr e ↦ are.awaited other q (sym (request_other requests h other request also e.1) ∙ asked) moves
    ];
  }

-- ---- touching

pub touched_at : (volume page : ℕ) (tasks : List (Option Task)) (n : ℕ) → task_at (touched_all volume page tasks) n ≡ touched_by volume page (task_at tasks n)
touched_at volume page [] n = refl
touched_at volume page (o ∷ tasks) zero = refl
touched_at volume page (o ∷ tasks) (suc n) = touched_at volume page tasks n

-- the task that was touched
pub record WasTouched (volume page : ℕ) (tasks : List (Option Task)) (n : ℕ) (now : Task) : Type 0 where
  pub task : Task
  pub at : task_at tasks n ≡ Some task
  pub is : now ≡ record task { touched = task.touched || takes volume page task.victim }

touched_from : (volume page : ℕ) (tasks : List (Option Task)) (n : ℕ) (now : Task) (o : Option Task) → task_at tasks n ≡ o → touched_by volume page o ≡ Some now → WasTouched volume page tasks n now
touched_from volume page tasks n now None at is = absurd cc
touched_from volume page tasks n now (Some task) at is = record { task = task; at = at; is = sym (some_is (record task { touched = task.touched || takes volume page task.victim }) now is) }

pub was_touched : (volume page : ℕ) (tasks : List (Option Task)) (n : ℕ) (now : Task) → task_at (touched_all volume page tasks) n ≡ Some now → WasTouched volume page tasks n now
was_touched volume page tasks n now at = touched_from volume page tasks n now (task_at tasks n) refl (sym (touched_at volume page tasks n) ∙ at)

module _ (frames : ℕ) (rows : RowsOf) (moving : List Bool) (requests : RequestsData) (hosts : List HostState) (tasks : List (Option Task)) (are : AreTasks frames rows moving requests hosts tasks) (volume page : ℕ) where
  is_task : (task : Task) (b : Bool) → IsTask frames rows moving requests hosts task → IsTask frames rows moving requests hosts (record task { touched = b })
  is_task task b is = record {
    low = is.low;
    moves = is.moves;
    request = is.request;
    asked = is.asked;
    is_moving_ = is.is_moving_;
    waits = is.waits;
    frame_ = is.frame_;
    unbound = is.unbound;
    transfer_ = is.transfer_;
  }

  put : (n : ℕ) (task : Task) → task_at tasks n ≡ Some task → task_at (touched_all volume page tasks) n ≡ Some (record task { touched = task.touched || takes volume page task.victim })
  put n task at = touched_at volume page tasks n ∙ ap (touched_by volume page) at

  pub tasks_touched : AreTasks frames rows moving requests hosts (touched_all volume page tasks)
  tasks_touched = record {
    each = λ n now at.
        let w = was_touched volume page tasks n now at in
        subst (IsTask frames rows moving requests hosts) (sym w.is) (is_task w.task (w.task.touched || takes volume page w.task.victim) (are.each n w.task w.at));
    frames_once = λ n m a b at bt same.
        let p = was_touched volume page tasks n a at in
        let q = was_touched volume page tasks m b bt in
        are.frames_once n m p.task q.task p.at q.at (sym (ap (λ (t : Task). t.frame) p.is) ∙ same ∙ ap (λ (t : Task). t.frame) q.is);
    hosts_once = λ n m a b at bt same.
        let p = was_touched volume page tasks n a at in
        let q = was_touched volume page tasks m b bt in
        are.hosts_once n m p.task q.task p.at q.at (sym (ap (λ (t : Task). t.host) p.is) ∙ same ∙ ap (λ (t : Task). t.host) q.is);
    moved = λ frame moves. let one = are.moved frame moves in (one.0, record one.1 { touched = one.1.touched || takes volume page one.1.victim }, put one.0 one.1 one.2, one.3);
    awaited = λ h q asked moves. let one = are.awaited h q asked moves in (one.0, record one.1 { touched = one.1.touched || takes volume page one.1.victim }, put one.0 one.1 one.2, one.3);
  }
