-- A whole core after an entry, and after work that changes no row: what an event owes is said here once.
-- Layers above cite these lemmas.
use Rattle.std.proofs.Common.{◌≡◌, ◌⊎◌, inl, inr, ℕ, ◌<◌, Bool, true, cond, ◌&&◌, ◌||◌, ◌==◌, List, [], ◌∷◌, length, Option, Some, None, sym, ◌∙◌, ap, subst, arith, length-append}
use Rattle.std.specs.Prelude.{IsSome}
use Rattle.std.specs.Option.{ForSome}
use Rattle.std.proofs.lemmas.Bool.{cond-true, cond-false}
use Rattle.std.proofs.lemmas.Bool.Decides.{eqb_tells}
use Rattle.mss_base.specs.Content.{SiteLog, content, Writes}
use Rattle.ckd_plain.specs.declared.host.HostState.{HostState}
use Rattle.ckd_plain.specs.History.{EntryData, IsStopped}
use Rattle.volume_table.specs.Listed.{row_in_list}
use Rattle.volume_table.specs.Row.{RowValue, state_of}
use Rattle.shown_volumes.specs.Shown.{volumes_shown}
use Rattle.shown_volumes.specs.Changing.{StillShows}
use Rattle.fault_queue.specs.declared.queue.Request.{Request}
use Rattle.fault_queue.specs.declared.queue.RequestState.TheVariants.{Queued, Ready}
use Rattle.fault_queue.specs.Requests.{RequestsData, request_of, put_request}
use Rattle.fault_queue.proofs.RequestFacts.{request_same, request_other, once_put}
use Rattle.core_state.specs.declared.task.Task.{Task}
use Rattle.core_state.specs.CoreValue.{CoreValue}
use Rattle.core_state.specs.Entered.{core_with_entry, core_after_work, plain_of, Enters}
use Rattle.core_state.specs.Fitting.{IsReadyOn, IsFit}
use Rattle.core_state.specs.IsCore.{IsCore, IsPlaced}
use Rattle.core_state.specs.Pins.{host_at, put_host, is_on, asks_for, owns}
use Rattle.core_state.specs.Served.{AreServed}
use Rattle.core_state.specs.Tasks.{AreTasks, AreWaiting}
use Rattle.core_state.specs.TheCore.{IsWhole}
use Rattle.core_state.proofs.CoreWork.{AreOwned, AreAsked, core_work, told_same, told_stopped}
use Rattle.core_state.proofs.EntryLemmas.{told_entry}
use Rattle.core_state.proofs.Fitting.{fit_replied}
use Rattle.core_state.proofs.HostFacts.{IsHost, host_same, host_other, host_fits, length_put}
use Rattle.core_state.proofs.Making.{make_whole, shaped_of}

-- ---- a host is replied: its state and its request are others

module _ (S : Type 0) {C : Type 0} (v : CoreValue S C) (core : IsCore v) (h : ℕ) (low : IsHost h) (host : HostState) (request : Option Request)
    (mounts : (q : Request) → request ≡ Some q → IsPlaced host q)
    (waits : (q : Request) → request ≡ Some q → q.state ≡ Queued → ForSome (row_in_list v.rows q.volume) (λ r. state_of r q.cylinder < 2))
    (mine : (volume : ℕ) → (is_on volume host.mounted && (host.chain_open || asks_for volume request)) ≡ true → (other : ℕ) → owns v.hosts v.requests other volume ≡ true → other ≡ h) where
  owns_is : (other volume : ℕ) → owns (put_host v.hosts h host) (put_request v.requests h request) other volume
      ≡ cond (other == h) (is_on volume host.mounted && (host.chain_open || asks_for volume request)) (owns v.hosts v.requests other volume)
  owns_is other volume = elim (eqb_tells other h) [
    | inl t ↦
        let a : host_at (put_host v.hosts h host) other ≡ host = ap (host_at (put_host v.hosts h host)) t.1 ∙ host_same v.hosts h host (host_fits v.hosts h low core.hosts_) in
        let b : request_of (put_request v.requests h request) other ≡ request = ap (request_of (put_request v.requests h request)) t.1 ∙ request_same v.requests h request core.requests_ in
        (λ i. is_on volume (a i).mounted && ((a i).chain_open || asks_for volume (b i))) ∙ sym (cond-true _ _ _ t.0)
    | inr t ↦
        let a : host_at (put_host v.hosts h host) other ≡ host_at v.hosts other = host_other v.hosts h other host (host_fits v.hosts h low core.hosts_) t.1 in
        let b : request_of (put_request v.requests h request) other ≡ request_of v.requests other = request_other v.requests h other request core.requests_ t.1 in
        (λ i. is_on volume (a i).mounted && ((a i).chain_open || asks_for volume (b i))) ∙ sym (cond-false _ _ _ t.0)
  ]

  owner_was : (other volume : ℕ) → owns (put_host v.hosts h host) (put_request v.requests h request) other volume ≡ true
      → ((other ≡ h) × ((is_on volume host.mounted && (host.chain_open || asks_for volume request)) ≡ true)) ⊎ (owns v.hosts v.requests other volume ≡ true)
  owner_was other volume is = elim (eqb_tells other h) [
    | inl t ↦ inl (t.1, sym (cond-true _ _ _ t.0) ∙ sym (owns_is other volume) ∙ is)
    | inr t ↦ inr (sym (cond-false _ _ _ t.0) ∙ sym (owns_is other volume) ∙ is)
  ]

  still_alone : (volume one other : ℕ) → owns (put_host v.hosts h host) (put_request v.requests h request) one volume ≡ true → owns (put_host v.hosts h host) (put_request v.requests h request) other volume ≡ true → one ≡ other
  still_alone volume one other a b = elim (owner_was one volume a) [
    | inl x ↦ elim (owner_was other volume b) [
      | inl y ↦ x.0 ∙ sym y.0
      | inr y ↦ x.0 ∙ sym (mine volume x.1 other y)
    ]
    | inr x ↦ elim (owner_was other volume b) [
      | inl y ↦ mine volume y.1 one x ∙ sym y.0
      | inr y ↦ core.alone volume one other x y
    ]
  ]

  on_mounted_now : (other : ℕ) (q : Request) → request_of (put_request v.requests h request) other ≡ Some q → IsPlaced (host_at (put_host v.hosts h host) other) q
  on_mounted_now other q is = elim (eqb_tells other h) [
    | inl t ↦
        let a : host_at (put_host v.hosts h host) other ≡ host = ap (host_at (put_host v.hosts h host)) t.1 ∙ host_same v.hosts h host (host_fits v.hosts h low core.hosts_) in
        let b : request_of (put_request v.requests h request) other ≡ request = ap (request_of (put_request v.requests h request)) t.1 ∙ request_same v.requests h request core.requests_ in
        subst (λ (x : HostState). IsPlaced x q) (sym a) (mounts q (sym b ∙ is))
    | inr t ↦
        subst (λ (x : HostState). IsPlaced x q) (sym (host_other v.hosts h other host (host_fits v.hosts h low core.hosts_) t.1)) (core.on_mounted other q (sym (request_other v.requests h other request core.requests_ t.1) ∙ is))
  ]

  waiting_now : AreWaiting (row_in_list v.rows) (put_request v.requests h request)
  waiting_now other q is queued = elim (eqb_tells other h) [
    | inl t ↦ waits q (sym (ap (request_of (put_request v.requests h request)) t.1 ∙ request_same v.requests h request core.requests_) ∙ is) queued
    | inr t ↦ core.waiting other q (sym (request_other v.requests h other request core.requests_ t.1) ∙ is) queued
  ]

  pub core_entry : (x : S) (e : EntryData) (m : ℕ) (tasks : List (Option Task)) (fault : Option ℕ) → length v.history < 4096
      → AreTasks v.config.frames (row_in_list v.rows) v.moving (put_request v.requests h request) (put_host v.hosts h host) tasks
      → length tasks ≡ length v.tasks → ((q : Request) → IsReadyOn (row_in_list v.rows) v.tasks q → IsReadyOn (row_in_list v.rows) tasks q) → ((volume : ℕ) → is_on volume host.mounted ≡ true → IsSome (row_in_list v.rows volume))
      → ((q : Request) → request ≡ Some q → q.state ≡ Ready → ⊥)
      → IsCore (core_with_entry v x e m (put_host v.hosts h host) (put_request v.requests h request) tasks fault)
  core_entry x e m tasks fault few are long kept has unready = record {
    places = core.places;
    are_rows = core.are_rows;
    used_ = core.used_;
    hosts_ = length_put v.hosts h host ∙ core.hosts_;
    requests_ = once_put v.requests h request core.requests_;
    owners_ = core.owners_;
    moving_ = core.moving_;
    few = let a = length-append v.history (e ∷ []) in omega (arith, a);
    marked = let a = length-append v.history (e ∷ []) in let b = length-append v.marks (m ∷ []) in let c = core.marked in omega (arith, a, b, c);
    alone = still_alone;
    on_mounted = on_mounted_now;
    framed = core.framed;
    owned = core.owned;
    waiting = waiting_now;
    fit = fit_replied v.config.recorders v.rows v.requests v.hosts v.tasks tasks core.fit long kept h host request (host_fits v.hosts h low core.hosts_) core.requests_ has unready;
    beside = core.beside;
    tasks_ = are;
  }

  -- what an entry brings makes the core whole again
  pub whole_entry : (tells : Type 0) (s t : SiteLog) (x : S) (e : EntryData) (m : ℕ) (tasks : List (Option Task)) → IsWhole tells s v → v.stopped ≡ None → length v.history < 4096
      → AreTasks v.config.frames (row_in_list v.rows) v.moving (put_request v.requests h request) (put_host v.hosts h host) tasks
      → length tasks ≡ length v.tasks → ((q : Request) → IsReadyOn (row_in_list v.rows) v.tasks q → IsReadyOn (row_in_list v.rows) tasks q) → ((volume : ℕ) → is_on volume host.mounted ≡ true → IsSome (row_in_list v.rows volume))
      → ((q : Request) → request ≡ Some q → q.state ≡ Ready → ⊥)
      → (tells → Enters v.config.frames v.rows (plain_of s v) v.history e (put_host v.hosts h host) tasks s t) → (tells → m ≡ length t.log) → (IsStopped e.reply → ⊥)
      → IsWhole tells t (core_with_entry v x e m (put_host v.hosts h host) (put_request v.requests h request) tasks v.stopped)
  whole_entry tells s t x e m tasks whole open_ few are long kept has unready enters mark goes =
      make_whole (core_entry x e m tasks v.stopped few are long kept has unready)
      (λ tl. told_entry S s t v x e m (put_host v.hosts h host) (put_request v.requests h request) tasks v.stopped (whole.told tl) open_ core.marked (enters tl) (mark tl) (λ is _. goes is))

-- ---- a write failed: the entry is the last

-- a core that a stopped entry ends
pub core_stop_entry : (S : Type 0) {C : Type 0} (v : CoreValue S C) → IsCore v → (x : S) (e : EntryData) (m : ℕ) (fault : Option ℕ) → length v.history < 4096 → IsCore (core_with_entry v x e m v.hosts v.requests v.tasks fault)
core_stop_entry S v core x e m fault few = record {
  places = core.places;
  are_rows = core.are_rows;
  used_ = core.used_;
  hosts_ = core.hosts_;
  requests_ = core.requests_;
  owners_ = core.owners_;
  moving_ = core.moving_;
  few = (let a = length-append v.history (e ∷ []) in omega (arith, a));
  marked = (let a = length-append v.history (e ∷ []) in let b = length-append v.marks (m ∷ []) in let d = core.marked in omega (arith, a, b, d));
  alone = core.alone;
  on_mounted = core.on_mounted;
  framed = core.framed;
  owned = core.owned;
  waiting = core.waiting;
  fit = core.fit;
  beside = core.beside;
  tasks_ = core.tasks_;
}

pub whole_halt : (S : Type 0) {C : Type 0} (tells : Type 0) (s t : SiteLog) (v : CoreValue S C) (x : S) (e : EntryData) (m fault : ℕ) → IsWhole tells s v → v.stopped ≡ None → length v.history < 4096
    → (tells → Enters v.config.frames v.rows (plain_of s v) v.history e v.hosts v.tasks s t) → (tells → m ≡ length t.log)
    → IsWhole tells t (core_with_entry v x e m v.hosts v.requests v.tasks (Some fault))
whole_halt S tells s t v x e m fault whole open_ few enters mark =
    make_whole (core_stop_entry S v (whole.kept open_) x e m (Some fault) few)
    (λ tl. told_entry S s t v x e m v.hosts v.requests v.tasks (Some fault) (whole.told tl) open_ (whole.kept open_).marked (enters tl) (mark tl) (λ is none. absurd cc))

-- ---- work that changes no row and writes nothing

pub whole_work : (S : Type 0) {C : Type 0} (tells : Type 0) (s : SiteLog) (v : CoreValue S C) (x : S) (owners : List (Option (ℕ × ℕ))) (moving : List Bool) (requests : RequestsData) (tasks : List (Option Task))
    → IsWhole tells s v → v.stopped ≡ None
    → AreOwned v.config.frames v.rows owners → length moving ≡ v.config.frames → AreAsked v.hosts requests → AreWaiting (row_in_list v.rows) requests → AreTasks v.config.frames (row_in_list v.rows) moving requests v.hosts tasks
    → IsFit v.config.recorders v.rows requests v.hosts tasks → (tells → AreServed (content s) (row_in_list v.rows) tasks)
    → IsWhole tells s (core_after_work v x v.rows v.console owners moving requests tasks)
whole_work S tells s v x owners moving requests tasks whole open_ owned long asked waits are fit served =
    make_whole (core_work S v (whole.kept open_) x v.rows v.console owners moving requests tasks owned long asked waits are fit)
    (λ tl. told_same S s v x owners moving requests tasks (whole.told tl) (λ _. served tl))

-- ---- a change of a row of which a write failed: whichever rows the list has then

pub whole_change_failed : (S : Type 0) {C : Type 0} (tells : Type 0) (s t : SiteLog) (v : CoreValue S C) (x : S) (fault : ℕ) (rows : List (Option RowValue)) → IsWhole tells s v → v.stopped ≡ None → length rows ≡ 32
    → (tells → Writes (StillShows v.config.frames (volumes_shown (content s)) s) s t) → IsWhole tells t (record v { site = x; rows = rows; stopped = Some fault })
whole_change_failed S tells s t v x fault rows whole open_ long_rows writes = record {
  shaped = let k = shaped_of (whole.kept open_) in record { rows_ = long_rows; used_ = k.used_; hosts_ = k.hosts_; owners_ = k.owners_; moving_ = k.moving_; tasks_ = k.tasks_; recorders_ = k.recorders_; few = k.few; marked = k.marked };
  kept = λ none. absurd (let z : Some fault ≡ None = none in cc);
  told = λ tl.
      let d = told_stopped S s t v x (whole.told tl) open_ (whole.kept open_).marked (writes tl) fault in
      record { began = d.began; entries = d.entries; messages = d.messages; legal = d.legal; stops = d.stops; agrees = d.agrees; going = λ none. absurd (let z : Some fault ≡ None = none in cc) };
}
