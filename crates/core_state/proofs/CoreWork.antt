-- A core after work: what it keeps whatever its devices tell, and what it is told where its rows stay.
use Rattle.std.proofs.Common.{◌≡◌, inl, inr, ℕ, ◌≤◌, ◌<◌, Bool, true, ◌&&◌, ◌||◌, List, length, take, Option, Some, None, sym, ◌∙◌, ap, subst, arith, length-append}
use Rattle.std.specs.Prelude.{◌↔◌}
use Rattle.std.proofs.lemmas.Bool.Decides.{eqb_tells}
use Rattle.mss_base.specs.Content.{Content, SiteLog, content, Writes, after as written_after}
use Rattle.ckd_track.specs.Data.{Volumes}
use Rattle.ckd_plain.specs.declared.host.HostState.{HostState}
use Rattle.ckd_plain.specs.Data.{State}
use Rattle.ckd_plain.specs.History.{IsLegal}
use Rattle.volume_table.specs.Row.{RowValue, IsRow, state_of}
use Rattle.table_pair.specs.declared.copy.SlotsUsed.{SlotsUsed}
use Rattle.std.specs.Option.{ForSome}
use Rattle.shown_volumes.specs.Shown.{RowsOf, rows_of, volumes_shown}
use Rattle.shown_volumes.specs.Sound.{frame_in}
use Rattle.shown_volumes.specs.Changing.{StillShows}
use Rattle.core_state.specs.declared.session.Message.{Message}
use Rattle.fault_queue.specs.declared.queue.Request.{Request}
use Rattle.fault_queue.specs.declared.queue.RequestState.{RequestState}
use Rattle.core_state.specs.declared.task.Task.{Task}
use Rattle.core_state.specs.CoreValue.{CoreValue}
use Rattle.core_state.specs.Pins.{host_at, owner_at, is_on, asks_for, owns}
use Rattle.volume_table.specs.Listed.{row_in_list}
use Rattle.fault_queue.specs.Requests.{request_of, RequestsData, put_request, IsOnce}
use Rattle.core_state.specs.Tasks.{AreTasks, AreWaiting}
use Rattle.fault_queue.specs.declared.queue.RequestState.TheVariants.{Queued}
use Rattle.core_state.specs.Served.{AreServed}
use Rattle.core_state.specs.StopRule.{opening, StopsWell}
use Rattle.core_state.specs.Agrees.{AllAllowed, AllAgree, rows_at, handed_rows}
use Rattle.core_state.specs.IsCore.{IsCore, IsPlaced, IsTold, IsGoing, opening_of, handed_to}
use Rattle.core_state.specs.Fitting.{IsFit}
use Rattle.core_state.specs.Entered.{with_used, core_after_work}
use Rattle.core_state.proofs.StopsLemmas.{stops_again}
use Rattle.core_state.proofs.EntryLemmas.{up_to-more, done-more, start_same, opening_same}
use Rattle.fault_queue.proofs.RequestFacts.{request_same, request_other, once_put}

-- ---- a request in another state

module _ (S : Type 0) {C : Type 0} (v : CoreValue S C) (core : IsCore v) (h : ℕ) (q : Request) (asked : request_of v.requests h ≡ Some q) (state : RequestState) where
  abbrev q' : Request
  q' = record q { state = state }

  fits : IsOnce v.requests
  fits = core.requests_

  asks_same : (volume k : ℕ) → asks_for volume (request_of (put_request v.requests h (Some (record q { state = state }))) k) ≡ asks_for volume (request_of v.requests k)
  asks_same volume k = elim (eqb_tells k h) [
    | inl e ↦ ap (asks_for volume) (ap (request_of (put_request v.requests h (Some q'))) e.1 ∙ request_same v.requests h (Some q') fits) ∙ sym (ap (asks_for volume) (ap (request_of v.requests) e.1 ∙ asked))
    | inr e ↦ ap (asks_for volume) (request_other v.requests h k (Some q') core.requests_ e.1)
  ]

  owns_same : (k volume : ℕ) → owns v.hosts (put_request v.requests h (Some (record q { state = state }))) k volume ≡ owns v.hosts v.requests k volume
  owns_same k volume = λ i. is_on volume (host_at v.hosts k).mounted && ((host_at v.hosts k).chain_open || asks_same volume k i)

  pub alone_still : (volume k other : ℕ) → owns v.hosts (put_request v.requests h (Some (record q { state = state }))) k volume ≡ true
      → owns v.hosts (put_request v.requests h (Some (record q { state = state }))) other volume ≡ true → k ≡ other
  alone_still volume k other a b = core.alone volume k other (sym (owns_same k volume) ∙ a) (sym (owns_same other volume) ∙ b)

  pub mounted_still : (k : ℕ) (p : Request) → request_of (put_request v.requests h (Some (record q { state = state }))) k ≡ Some p → IsPlaced (host_at v.hosts k) p
  mounted_still k p is = elim (eqb_tells k h) [
    | inl e ↦
        let o : Some q' ≡ Some p = sym (ap (request_of (put_request v.requests h (Some q'))) e.1 ∙ request_same v.requests h (Some q') fits) ∙ is in
        let same : q' ≡ p = cc in
        subst (IsPlaced (host_at v.hosts k)) same (subst (λ (x : ℕ). IsPlaced (host_at v.hosts x) q') (sym e.1) (core.on_mounted h q asked))
    | inr e ↦ core.on_mounted k p (sym (request_other v.requests h k (Some q') core.requests_ e.1) ∙ is)
  ]

-- requests wait still where one of them gets another state
pub waiting_again : (rows : RowsOf) (requests : RequestsData) (h : ℕ) (q : Request) (state : RequestState) → IsOnce requests → AreWaiting rows requests
    → (state ≡ Queued → ForSome (rows q.volume) (λ r. state_of r q.cylinder < 2)) → AreWaiting rows (put_request requests h (Some (record q { state = state })))
waiting_again rows requests h q state fits are mine k p is queued = elim (eqb_tells k h) [
  | inl e ↦
      let o : Some (record q { state = state }) ≡ Some p = sym (ap (request_of (put_request requests h (Some (record q { state = state })))) e.1 ∙ request_same requests h (Some (record q { state = state })) fits) ∙ is in
      let same : record q { state = state } ≡ p = cc in
      subst (λ (z : Request). ForSome (rows z.volume) (λ r. state_of r z.cylinder < 2)) same (mine (ap (λ (z : Request). z.state) same ∙ queued))
  | inr e ↦ are k p (sym (request_other requests h k (Some (record q { state = state })) fits e.1) ∙ is) queued
]

-- ---- what every core keeps

-- the rows and the owners of frames agree
pub record AreOwned (frames : ℕ) (rows : List (Option RowValue)) (owners : List (Option (ℕ × ℕ))) : Type 0 where
  pub places : length rows ≡ 32
  pub are_rows : (volume : ℕ) (r : RowValue) → row_in_list rows volume ≡ Some r → IsRow r
  pub owners_ : length owners ≡ frames
  pub framed : (volume page frame : ℕ) → frame_in (row_in_list rows) volume page ≡ Some frame → frame < frames
  pub owned : (frame volume page : ℕ) → frame < frames → (owner_at owners frame ≡ Some (volume, page)) ↔ (frame_in (row_in_list rows) volume page ≡ Some frame)

pub owned_of : (S : Type 0) {C : Type 0} (v : CoreValue S C) → IsCore v → AreOwned v.config.frames v.rows v.owners
owned_of S v core = record { places = core.places; are_rows = core.are_rows; owners_ = core.owners_; framed = core.framed; owned = core.owned }

-- requests that are as they were, or one of them in another state
pub record AreAsked (hosts : List HostState) (requests : RequestsData) : Type 0 where
  pub once : IsOnce requests
  pub alone : (volume h other : ℕ) → owns hosts requests h volume ≡ true → owns hosts requests other volume ≡ true → h ≡ other
  pub on_mounted : (h : ℕ) (q : Request) → request_of requests h ≡ Some q → IsPlaced (host_at hosts h) q

pub asked_of : (S : Type 0) {C : Type 0} (v : CoreValue S C) → IsCore v → AreAsked v.hosts v.requests
asked_of S v core = record { once = core.requests_; alone = core.alone; on_mounted = core.on_mounted }

pub asked_again : (S : Type 0) {C : Type 0} (v : CoreValue S C) (core : IsCore v) (h : ℕ) (q : Request) → request_of v.requests h ≡ Some q → (state : RequestState) → AreAsked v.hosts (put_request v.requests h (Some (record q { state = state })))
asked_again S v core h q asked state = record {
  once = once_put v.requests h (Some (record q { state = state })) core.requests_;
  alone = alone_still S v core h q asked state;
  on_mounted = mounted_still S v core h q asked state;
}

-- other slots are in use
pub core_used : (S : Type 0) {C : Type 0} (v : CoreValue S C) → IsCore v → (used : List SlotsUsed) → length used ≡ 32 → IsCore (with_used used v)
core_used S v core used places = record {
  places = core.places;
  are_rows = core.are_rows;
  used_ = places;
  hosts_ = core.hosts_;
  requests_ = core.requests_;
  owners_ = core.owners_;
  moving_ = core.moving_;
  few = core.few;
  marked = core.marked;
  alone = core.alone;
  on_mounted = core.on_mounted;
  framed = core.framed;
  owned = core.owned;
  waiting = core.waiting;
  fit = core.fit;
  beside = core.beside;
  tasks_ = core.tasks_;
}

pub core_work : (S : Type 0) {C : Type 0} (v : CoreValue S C) → IsCore v → (x : S) (rows : List (Option RowValue)) (console : List Message) (owners : List (Option (ℕ × ℕ))) (moving : List Bool) (requests : RequestsData) (tasks : List (Option Task))
    → AreOwned v.config.frames rows owners → length moving ≡ v.config.frames → AreAsked v.hosts requests → AreWaiting (row_in_list rows) requests → AreTasks v.config.frames (row_in_list rows) moving requests v.hosts tasks
    → IsFit v.config.recorders rows requests v.hosts tasks → IsCore (core_after_work v x rows console owners moving requests tasks)
core_work S v core x rows console owners moving requests tasks owned long asked waits are fit = record {
  places = owned.places;
  are_rows = owned.are_rows;
  used_ = core.used_;
  hosts_ = core.hosts_;
  requests_ = asked.once;
  owners_ = owned.owners_;
  moving_ = long;
  few = core.few;
  marked = core.marked;
  alone = asked.alone;
  on_mounted = asked.on_mounted;
  framed = owned.framed;
  owned = owned.owned;
  waiting = waits;
  fit = fit;
  beside = core.beside;
  tasks_ = are;
}

-- ---- what it is told, where nothing is written

pub told_same : (S : Type 0) {C : Type 0} (s : SiteLog) (v : CoreValue S C) (x : S) (owners : List (Option (ℕ × ℕ))) (moving : List Bool) (requests : RequestsData) (tasks : List (Option Task))
    → IsTold s v → (v.stopped ≡ None → AreServed (content s) (row_in_list v.rows) tasks) → IsTold s (core_after_work v x v.rows v.console owners moving requests tasks)
told_same S s v x owners moving requests tasks told served = record {
  began = told.began;
  entries = told.entries;
  messages = told.messages;
  legal = told.legal;
  stops = told.stops;
  agrees = told.agrees;
  going = λ none. let g = told.going none in record { no_stop = g.no_stop; hosts_ = g.hosts_; shows = g.shows; rows_ = g.rows_; copies = g.copies; slots_ = g.slots_; told = g.told; served = served none; quiet = g.quiet; without = g.without };
}

-- ---- a core that a failed write stops in work: the change wasn't made, and no more is said of what its devices hold

module _ (S : Type 0) {C : Type 0} (s t : SiteLog) (v : CoreValue S C) (x : S) (told : IsTold s v) (open_ : v.stopped ≡ None) (long : length v.marks ≡ length v.history)
    (writes : Writes (StillShows v.config.frames (volumes_shown (content s)) s) s t) (fault : ℕ) where
  going : IsGoing s v
  going = told.going open_

  began : opening v.first_write t ≡ opening v.first_write s
  began = opening_same v.first_write s t writes.items writes.grown told.began

  handed : handed_rows (rows_of (written_after t.start (take v.first_write t.log))) v.console ≡ handed_to s v
  handed = ap (λ (c : Content). handed_rows (rows_of c) v.console) (start_same v.first_write s t writes.items writes.grown told.began)

  longer : length s.log ≤ length t.log
  longer = let e1 = ap (λ (y : SiteLog). length y.log) writes.grown ∙ length-append s.log writes.items in omega (arith, e1)

  pub told_stopped : IsTold t (record v { site = x; stopped = Some fault })
  told_stopped = record {
    began = omega (arith, told.began, longer);
    entries = up_to-more (length s.log) (length t.log) v.marks longer told.entries;
    messages = done-more (length s.log) (length t.log) v.console longer told.messages;
    legal = subst (λ (y : State). IsLegal y v.history) (sym began) told.legal;
    stops = subst (λ (y : State). StopsWell v.config.frames v.first_write y v.history v.marks t) (sym began)
        (stops_again v.config.frames v.first_write (opening_of s v) v.history v.marks s told.stops long told.entries going.no_stop told.began going.shows t
        (subst (λ (V : Volumes). Writes (StillShows v.config.frames V s) s t) going.shows writes));
    agrees = record {
      early = told.agrees.early;
      allowed = subst (λ (rows : RowsOf). AllAllowed rows v.console) (sym handed) told.agrees.allowed;
      entries = subst (λ (y : State). AllAgree v.config.frames (rows_at (handed_rows (rows_of (written_after t.start (take v.first_write t.log))) v.console) v.console) y v.history v.marks) (sym began)
          (subst (λ (q : RowsOf). AllAgree v.config.frames (rows_at q v.console) (opening_of s v) v.history v.marks) (sym handed) told.agrees.entries);
    };
    going = λ none. absurd cc;
  }

pub core_stopped : (S : Type 0) {C : Type 0} (v : CoreValue S C) → IsCore v → (x : S) (fault : ℕ) → IsCore (record v { site = x; stopped = Some fault })
core_stopped S v core x fault = record {
  places = core.places;
  are_rows = core.are_rows;
  used_ = core.used_;
  hosts_ = core.hosts_;
  requests_ = core.requests_;
  owners_ = core.owners_;
  moving_ = core.moving_;
  few = core.few;
  marked = core.marked;
  alone = core.alone;
  on_mounted = core.on_mounted;
  framed = core.framed;
  owned = core.owned;
  waiting = core.waiting;
  fit = core.fit;
  beside = core.beside;
  tasks_ = core.tasks_;
}
