-- What the rule that a recorder meets says of the core. The event functions cite these lemmas.
use Rattle.std.proofs.Common.{◌≡◌, ◌≢◌, inl, inr, ℕ, zero, suc, ◌+◌, ◌*◌, ◌/◌, ◌<◌, ◌≤◌, Bool, true, false, not, ◌&&◌, ◌==◌, nat_lt, List, [], ◌∷◌, length, Option, Some, None, refl, sym, ◌∙◌, ap, subst, arith}
use Rattle.std.specs.Prelude.{cond, filter, slice_get, is_some, IsSome}
use Rattle.std.specs.Option.{ForSome, option_map, option_and_then, unwrap_or}
use Rattle.std.specs.List.{range_with_len}
use Rattle.std.proofs.lemmas.Bool.{and_parts, and_from, eq-eqb, cases_lt, false≢true, lt-ltb, ltb-true, ltb-false}
use Rattle.std.proofs.lemmas.List.{get_or_past}
use Rattle.mss_base.specs.Firsts.{◌or◌, where_so}
use Rattle.mss_base.proofs.FirstFacts.{or_none, none_where, none_is, map_none}
use Rattle.volume_table.specs.Listed.{row_in_list}
use Rattle.shown_volumes.specs.Sound.{frame_in}
use Rattle.volume_table.specs.Row.{RowValue, IsRow, frame_of, state_of}
use Rattle.volume_table.proofs.RowLemmas.{row-with_frame}
use Rattle.mss_base.specs.Content.{SiteLog}
use Rattle.mss_base.specs.declared.site.Site.{Ghosts}
use Rattle.fault_queue.specs.declared.queue.Request.{Request}
use Rattle.fault_queue.specs.declared.queue.RequestState.{RequestState}
use Rattle.fault_queue.specs.declared.queue.RequestState.TheVariants as request
use Rattle.fault_queue.specs.Requests.{RequestsData, request_of}
use Rattle.transfers.specs.declared.transfer.Transfer.{Transfer}
use Rattle.transfers.specs.declared.transfer.TransferKind.{TransferKind}
use Rattle.transfers.specs.declared.transfer.TransferKind.TheVariants.{StageBlank, StageCartridge, Destage}
use Rattle.victim_choice.specs.declared.choose.Candidate.{Candidate}
use Rattle.cartridge_store.specs.declared.store.TheConstants.{CARTRIDGES}
use Rattle.cartridge_store.specs.declared.store.Place.{Place}
use Rattle.cartridge_store.specs.declared.store.Place.TheVariants.{Recorder}
use Rattle.cartridge_store.specs.Places.{place_of, home_of}
use Rattle.core_state.specs.declared.task.Task.{Task}
use Rattle.core_state.specs.declared.rule.WorkRule.{WorkRule}
use Rattle.core_state.specs.declared.rule.WorkRule.TheVariants.{IsStopped, IsIdle, GivesBack, Picks, PicksVictim, Abandons, Fetches, Copies, Ends, Frees, Assigns}
use Rattle.core_state.specs.declared.rule.WorkAnswer.{WorkAnswer}
use Rattle.core_state.specs.Beside.{held_at}
use Rattle.core_state.specs.CoreValue.{CoreValue, CoreData, seen_core}
use Rattle.core_state.specs.IsCore.{IsCore}
use Rattle.core_state.specs.Pins.{task_at, state_in, state_of_row, changed_in, is_changed, is_moving, free_frame, candidates, page_of}
use Rattle.core_state.specs.Tasks.{IsTask, IsChosen, HasFrame, IsUnbound}
use Rattle.core_state.specs.WorkEvents.{WorkDoes, WorkEvent}
use Rattle.core_state.specs.WorkRules.{task_of, held_in, transfer_of, staging, next_transfer, return_rule, pick_on, pick_for, first_pick, pick_rule, is_within, abandon_rule, needs_cartridge, is_in_cell, carry_for, carry_rule, copy_rule, end_rule, free_rule, assign_rule, task_rule, work_rule}
use Rattle.core_state.specs.Working.{Serves, MayCopy, MayEndDestage, MayEndStage, MayFree, MayAssign, MayPick}
use Rattle.core_state.proofs.RuleWalks.{some_is, none_some, nothing, this, either, where_test, found, either_then, if_so, mapped_at, chained_at, never_begun}
use Rattle.work_events.proofs.DueFacts.{next_by, own, is_due, is_begun, is_known, row_of_frame}
use Rattle.work_events.proofs.PickFacts.{asked_at, of_candidates, of_free, candidate_has, candidate_unbound, candidate_unheld}

-- ---- what the rules say

-- the recorder holds the cartridge
pub record HoldsCartridge {S C : Type 0} (v : CoreValue S C) (recorder cartridge : ℕ) : Type 0 where
  pub going : v.stopped ≡ None
  pub held : held_at v.recorders recorder ≡ Some cartridge
  pub lies : place_of v.store cartridge ≡ Recorder recorder

-- the recorder holds none, and the cartridge is in its cell
pub record MayFetch {S C : Type 0} (v : CoreValue S C) (recorder cartridge : ℕ) : Type 0 where
  pub going : v.stopped ≡ None
  pub empty : held_at v.recorders recorder ≡ None
  pub in_cell : is_in_cell (place_of v.store cartridge) ≡ true
  pub lies : place_of v.store cartridge ≡ home_of cartridge
  pub known : cartridge < CARTRIDGES

-- a recorder's task as it begins
abbrev pub task_for : ℕ → ℕ → Option (ℕ × ℕ) → Task
task_for h frame victim =
    record { host = h; frame = frame; victim = victim; touched = false; transfer = None }

-- the host's request may be taken with this frame
pub record MayTake {S C : Type 0} (v : CoreValue S C) (recorder h frame : ℕ) : Type 0 where
  pub going : v.stopped ≡ None
  pub request : Request
  pub may : MayPick v recorder (task_for h frame None) request

-- the host's request may be taken with the frame of each candidate, and there is one
pub record MayTakeVictim {S C : Type 0} (v : CoreValue S C) (recorder h : ℕ) : Type 0 where
  pub going : v.stopped ≡ None
  pub request : Request
  pub some : 0 < length (candidates v)
  pub may : (place : ℕ) (c : Candidate) → slice_get (candidates v) place ≡ Some c
      → MayPick v recorder (task_for h c.frame (Some (c.volume, c.page))) request

-- the recorder serves a task's request, and P holds of these two
pub record OfTask {S C : Type 0} (v : CoreValue S C) (recorder : ℕ) (P : Task → Request → Type 0)
    : Type 0 where
  pub going : v.stopped ≡ None
  pub task : Task
  pub request : Request
  pub serves : Serves v recorder task request
  pub may : (k : Task) (q : Request) → Serves v recorder k q → P k q

abbrev pub MayEnd : {S C : Type 0} → CoreValue S C → TransferKind → Task → Transfer → Type 0
MayEnd v Destage task t = MayEndDestage v task t
MayEnd v _ task t = MayEndStage v task t

-- the victim was used since the pick
abbrev pub IsAbandoned : Task → Type 0
IsAbandoned task = IsSome task.victim × (task.touched ≡ true)

-- it is the page that is asked for
abbrev pub MayAssignPage : {S C : Type 0} → CoreValue S C → ℕ → ℕ → Task → Request → Type 0
MayAssignPage v volume page task q =
    (volume ≡ q.volume) × (page ≡ q.cylinder / 8) × MayAssign v task q

-- what a rule says of the core; what only the code's types know of numbers is asked for
abbrev pub RuleSays : {S C : Type 0} → CoreValue S C → ℕ → WorkRule → Type 0
RuleSays v recorder (IsStopped fault) = v.stopped ≡ Some fault
RuleSays v recorder IsIdle = v.stopped ≡ None
RuleSays v recorder (GivesBack cartridge) = HoldsCartridge v recorder cartridge
RuleSays v recorder (Fetches cartridge) = MayFetch v recorder cartridge
RuleSays v recorder (Picks h frame) = MayTake v recorder h frame
RuleSays v recorder (PicksVictim h) = MayTakeVictim v recorder h
RuleSays v recorder Abandons = OfTask v recorder (λ task q. IsAbandoned task)
RuleSays v recorder (Copies t) =
    OfTask v recorder
    (λ task q. (transfer_of v task ≡ Some t) × (q.cylinder < 404 → MayCopy v task q t))
RuleSays v recorder (Ends t) = OfTask v recorder (λ task q. MayEnd v t.kind task t)
RuleSays v recorder (Frees volume page) = OfTask v recorder (λ task q. MayFree v task volume page)
RuleSays v recorder (Assigns volume page) =
    IsSome (row_in_list v.rows volume) × OfTask v recorder
    (λ task q. q.cylinder < 404 → task.frame < 200 → MayAssignPage v volume page task q)

-- ---- what else is known on the way to a rule

not_lent : (place : Place) (recorder : ℕ) → is_in_cell place ≡ true → place ≡ Recorder recorder → ⊥
not_lent place recorder cell lent = false≢true (sym (ap is_in_cell lent) ∙ cell)

untouched_by : (takes touched within : Bool) → (takes && touched && not within) ≡ false → takes ≡ true → within ≡ false → touched ≡ false
untouched_by takes false within is some out = refl
untouched_by true true false is some out = is
untouched_by true true true is some out = out
untouched_by false true within is some out = absurd (false≢true some)

-- none of some numbers in a row passes where the first that does isn't there
none_kept : (test : ℕ → Bool) (n from y : ℕ) → slice_get (filter test (range_with_len from n)) 0 ≡ None → from ≤ y → y < from + n → test y ≡ false
none_kept test zero from y none low high = absurd (omega arith)
none_kept test (suc n) from y none low high = by (none_kept test n (from + 1) y) (test from) refl none
  where
    by : (slice_get (filter test (range_with_len (from + 1) n)) 0 ≡ None → from + 1 ≤ y → y < from + 1 + n → test y ≡ false) → (b : Bool) → test from ≡ b → slice_get (cond b (from ∷ filter test (range_with_len (from + 1) n)) (filter test (range_with_len (from + 1) n))) 0 ≡ None → test y ≡ false
    by more true is at = absurd (none_some from (sym at))
    by more false is at = elim (cases_lt from y) [
      | inl later ↦ more at (omega arith) (omega arith)
      | inr until ↦ let e : y ≡ from = omega arith in ap test e ∙ is
    ]

-- a page without a changed cylinder
none_changed : (rows : List (Option RowValue)) (volume page : ℕ) (r : RowValue) → row_in_list rows volume ≡ Some r → IsRow r → slice_get (changed_in rows (volume, page)) 0 ≡ None → (y : ℕ) → y / 8 ≡ page → state_of r y ≢ 4
none_changed rows volume page r there row none y on four =
    let fails = none_kept (is_changed rows volume) 8 (page * 8) y none (omega (arith, on)) (omega (arith, on)) in
    let so : (state_in rows volume y == 4) ≡ true = eq-eqb (state_in rows volume y) 4 (ap (λ (o : Option RowValue). state_of_row o y) there ∙ four) in
    false≢true (sym fails ∙ and_from (nat_lt y 404) (state_in rows volume y == 4) (lt-ltb y 404 below) so)
  where
    below : y < 404
    below = elim (cases_lt y 404) [
      | inl low ↦ low
      | inr past ↦ let long = row.states in let zero_ : state_of r y ≡ 0 = get_or_past r.states y 0 (omega (arith, past, long)) in absurd (omega (arith, zero_, four))
    ]

module _ {S C : Type 0} (v : CoreValue S C) (recorder : ℕ) (fits : recorder < v.config.recorders) (core : IsCore v) (going : v.stopped ≡ None) where
  abbrev Says : WorkRule → Type 0
  Says = RuleSays v recorder

  -- ---- a recorder with a task

  module _ (task : Task) (at : task_at v.tasks recorder ≡ Some task) where
    abbrev mine : IsTask v.config.frames (row_in_list v.rows) v.moving v.requests v.hosts task
    mine = own v core recorder task at

    abbrev asked : Request
    asked = mine.request

    of_task : (P : Task → Request → Type 0) → P task mine.request → OfTask v recorder P
    of_task P is = record {
      going = going;
      task = task;
      request = mine.request;
      serves = record { at = at; asked = mine.asked };
      may = λ k q serves.
          let task_is : task ≡ k = some_is task k (sym at ∙ serves.at) in
          let request_is : mine.request ≡ q = some_is mine.request q (sym mine.asked ∙ ap (λ (x : Task). request_of v.requests x.host) task_is ∙ serves.asked) in
          subst (λ (x : Request). P k x) request_is (subst (λ (x : Task). P x mine.request) task_is is);
    }

    gives_back : (cartridge : ℕ) → held_at v.recorders recorder ≡ Some cartridge → HoldsCartridge v recorder cartridge
    gives_back cartridge held = record { going = going; held = held; lies = core.beside.holds recorder cartridge held }

    module _ (kept_on : abandon_rule task ≡ None) where
      untouched : is_some task.victim ≡ true → is_within task.transfer ≡ false → task.touched ≡ false
      untouched takes out = untouched_by (is_some task.victim) task.touched (is_within task.transfer) (none_where (is_some task.victim && task.touched && not (is_within task.transfer)) Abandons kept_on) takes out

      module _ (t : Transfer) (of : transfer_of v task ≡ Some t) where
        carries : (o : Option ℕ) → held_in v recorder ≡ o → ForSome (carry_for v t.cartridge o) Says
        carries (Some other) held = where_test Says (not (other == t.cartridge)) (GivesBack other) (λ _. gives_back other held)
        carries None held = this Says (cond (is_in_cell (place_of v.store t.cartridge)) (Fetches t.cartridge) IsIdle) (by (is_in_cell (place_of v.store t.cartridge)) refl)
          where
            by : (b : Bool) → is_in_cell (place_of v.store t.cartridge) ≡ b → Says (cond b (Fetches t.cartridge) IsIdle)
            by false is = going
            by true is = record {
              going = going;
              empty = held;
              in_cell = is;
              lies = elim (core.beside.lies t.cartridge) [
                | inl home ↦ home
                | inr lent ↦ absurd (not_lent (place_of v.store t.cartridge) lent.0 is lent.1)
              ];
              known = is_known v core recorder task at t of;
            }

        copies : nat_lt t.next 19 ≡ true → Says (Copies t)
        copies more = of_task (λ k q. (transfer_of v k ≡ Some t) × (q.cylinder < 404 → MayCopy v k q t)) (
          of,
          λ low. record {
            is = is_due v core recorder task at low t of;
            begun = is_begun v core recorder task at t of;
            more = ltb-true t.next 19 more;
          },
        )

        ends : copy_rule t ≡ None → Says (Ends t)
        ends none = of_task (λ k q. MayEnd v t.kind k t) (by t.kind refl)
          where
            past : 19 ≤ t.next
            past = ltb-false t.next 19 (none_where (nat_lt t.next 19) (Copies t) none)

            copied : task.transfer ≡ Some t
            copied = elim (is_begun v core recorder task at t of) [
              | inl is ↦ is
              | inr none_yet ↦ absurd (omega (arith, past, none_yet))
            ]

            all_ : t.next ≡ 19
            all_ = let upto = (mine.transfer_ t copied).upto in omega (arith, past, upto)

            victim_is : t.kind ≡ Destage → task.victim ≡ Some (t.volume, t.cylinder / 8)
            victim_is is = subst (λ (k : TransferKind). IsChosen k task.victim mine.request t.volume t.cylinder) is (mine.transfer_ t copied).cylinder_

            out : is_within task.transfer ≡ false
            out = ap is_within copied ∙ ap (λ (n : ℕ). nat_lt 0 n && nat_lt n 19) all_

            by : (kind : TransferKind) → t.kind ≡ kind → MayEnd v kind task t
            by Destage is = record { copies = copied; kind = is; all_ = all_; untouched = untouched (ap (λ (o : Option (ℕ × ℕ)). is_some o) (victim_is is)) out }
            by StageBlank is = record { copies = copied; kind = inl is; all_ = all_ }
            by StageCartridge is = record { copies = copied; kind = inr is; all_ = all_ }

        transfers : ForSome (carry_rule v recorder t or copy_rule t or end_rule t) Says
        transfers =
            either Says (carry_rule v recorder t) (copy_rule t or end_rule t)
            (if_so Says (nat_lt t.next 19 && needs_cartridge t.kind) (carry_for v t.cartridge (held_in v recorder)) None (λ _. carries (held_in v recorder) refl) (λ _. nothing Says None refl))
            (either_then Says (copy_rule t) (end_rule t) (where_test Says (nat_lt t.next 19) (Copies t) copies) (λ none. this Says (Ends t) (ends none)))

      module _ (none : transfer_of v task ≡ None) where
        bare : task.transfer ≡ None
        bare = (or_none task.transfer (next_transfer v.rows v.requests task) none).0

        no_next : next_transfer v.rows v.requests task ≡ None
        no_next = (or_none task.transfer (next_transfer v.rows v.requests task) none).1

        next_is : (victim : Option (ℕ × ℕ)) → task.victim ≡ victim → next_by v task victim ≡ None
        next_is victim is = subst (λ (o : Option (ℕ × ℕ)). next_by v task o ≡ None) is no_next

        frees : (page : ℕ × ℕ) → task.victim ≡ Some page → Says (Frees page.0 page.1)
        frees page is = of_task (λ k q. MayFree v k page.0 page.1) (
            let has = subst (λ (o : Option (ℕ × ℕ)). HasFrame (row_in_list v.rows) task.frame o mine.request.volume (mine.request.cylinder / 8)) is mine.frame_ in
            let row = row_of_frame (row_in_list v.rows page.0) page.1 task.frame has.0 in
            record {
              r = row.0;
              there = row.1;
              takes_ = is;
              bare = bare;
              unchanged = none_changed v.rows page.0 page.1 row.0 row.1 (core.are_rows page.0 row.0 row.1) (map_none _ (slice_get (changed_in v.rows page) 0) (next_is (Some page) is));
              untouched = untouched (ap (λ (o : Option (ℕ × ℕ)). is_some o) is) (ap is_within bare);
            })

        assigns : free_rule task ≡ None → (q : Request) → request_of v.requests task.host ≡ Some q → Says (Assigns q.volume (page_of q.cylinder))
        assigns no_victim q asked_ = (
          core.fit.mounted_ task.host q.volume (core.on_mounted task.host q asked_).0,
          of_task (λ k x. x.cylinder < 404 → k.frame < 200 → MayAssignPage v q.volume (page_of q.cylinder) k x) (λ low small.
              let same : q ≡ mine.request = some_is q mine.request (sym asked_ ∙ mine.asked) in
              let free : task.victim ≡ None = map_none _ task.victim no_victim in
              let row = listed_row (row_in_list v.rows mine.request.volume) (core.fit.mounted_ task.host mine.request.volume (core.on_mounted task.host mine.request mine.asked).0) in
              let no_frame : frame_in (row_in_list v.rows) mine.request.volume (page_of mine.request.cylinder) ≡ None = map_none _ (frame_in (row_in_list v.rows) mine.request.volume (page_of mine.request.cylinder)) (sym (ap (option_and_then (staging v.rows task.frame)) mine.asked) ∙ next_is None free) in
              let none_ : frame_of row.0 (mine.request.cylinder / 8) ≡ None = sym (ap (λ (o : Option RowValue). option_and_then (λ k. frame_of k (mine.request.cylinder / 8)) o) row.1) ∙ no_frame in (
                ap (λ (x : Request). x.volume) same,
                ap (λ (x : Request). x.cylinder / 8) same,
                record {
                  r = row.0;
                  there = row.1;
                  none = none_;
                  free = free;
                  bare = bare;
                  low = low;
                  row = row-with_frame (mine.request.cylinder / 8) task.frame row.0 (core.are_rows mine.request.volume row.0 row.1) (omega (arith, low)) small;
                },
              )),
        )
          where
            listed_row : (o : Option RowValue) → IsSome o → (r : RowValue) × (o ≡ Some r)
            listed_row None is = absurd (false≢true is)
            listed_row (Some r) is = (r, refl)

    works : ForSome (task_rule v recorder task) Says
    works =
        either_then Says (abandon_rule task) _
        (where_test Says (is_some task.victim && task.touched && not (is_within task.transfer)) Abandons abandons)
        (λ kept_on. either_then Says (option_and_then (λ t. carry_rule v recorder t or copy_rule t or end_rule t) (transfer_of v task)) _
        (chained_at Says (λ t. carry_rule v recorder t or copy_rule t or end_rule t) (transfer_of v task) (λ t of. transfers kept_on t of))
        (λ unmoved. let none = never_begun (carry_rule v recorder) copy_rule Ends (transfer_of v task) unmoved in
        either_then Says (free_rule task) (assign_rule v task)
        (mapped_at Says (λ page. Frees page.0 page.1) task.victim (λ page is. frees kept_on none page is))
        (λ no_victim. mapped_at Says (λ q. Assigns q.volume (page_of q.cylinder)) (request_of v.requests task.host) (λ q is. assigns kept_on none no_victim q is))))
      where
        abandons : (is_some task.victim && task.touched && not (is_within task.transfer)) ≡ true → Says Abandons
        abandons is =
            let parts = and_parts (is_some task.victim && task.touched) (not (is_within task.transfer)) is in
            let both = and_parts (is_some task.victim) task.touched parts.0 in
            of_task (λ k q. IsAbandoned k) (both.0, both.1)

  -- ---- a recorder without one

  module _ (idle : task_at v.tasks recorder ≡ None) where
    there : recorder < length v.tasks
    there = let long = core.fit.long in omega (arith, long, fits)

    module _ (h : ℕ) (q : Request) (asked_ : request_of v.requests h ≡ Some q) (queued : q.state ≡ request.Queued) where
      takes : (frame : ℕ) → is_moving v frame ≡ false → frame < v.config.frames → HasFrame (row_in_list v.rows) frame None q.volume (q.cylinder / 8) → MayTake v recorder h frame
      takes frame rests known has = record {
        going = going;
        request = q;
        may = record {
          fits = there;
          idle = idle;
          bare = refl;
          rests = rests;
          known = known;
          asked = asked_;
          queued = queued;
          has = has;
          unbound = λ victim is. absurd (none_some victim is);
          unheld = λ k r _ _ is. none_some (r.volume, r.cylinder / 8) is;
        };
      }

      -- the page has no frame, nor is one free
      takes_victim : frame_in (row_in_list v.rows) q.volume (page_of q.cylinder) ≡ None → nat_lt 0 (length (candidates v)) ≡ true → MayTakeVictim v recorder h
      takes_victim none some = record {
        going = going;
        request = q;
        some = ltb-true 0 (length (candidates v)) some;
        may = λ place c at.
            let it = of_candidates v core place c at in
            let frame_is = it.1.frame_ in
            record {
              fits = there;
              idle = idle;
              bare = refl;
              rests = ap (is_moving v) frame_is ∙ it.1.rests;
              known = subst (λ (f : ℕ). f < v.config.frames) (sym frame_is) it.2;
              asked = asked_;
              queued = queued;
              has = (candidate_has v core it.0 c it.1 it.2 ∙ ap (λ (f : ℕ). Some f) (sym frame_is), none);
              unbound = λ victim is. subst (λ (p : ℕ × ℕ). IsUnbound v.hosts p.0) (some_is (c.volume, c.page) victim is) (candidate_unbound v core it.0 c it.1 it.2);
              unheld = λ k r asked_k ready. candidate_unheld v core it.0 c it.1 it.2 k r asked_k ready;
            };
      }

      picks_on : (o : Option ℕ) → frame_in (row_in_list v.rows) q.volume (page_of q.cylinder) ≡ o → ForSome (pick_on v h o) Says
      picks_on (Some frame) has =
          where_test Says (not (is_moving v frame)) (Picks h frame) (λ rests. takes frame (is_not (is_moving v frame) rests) (core.framed q.volume (q.cylinder / 8) frame has) (inl has))
        where
          is_not : (b : Bool) → not b ≡ true → b ≡ false
          is_not true e = absurd (false≢true e)
          is_not false e = refl
      picks_on None none =
          either Says (option_map (Picks h) (free_frame v)) (where_so (nat_lt 0 (length (candidates v))) (PicksVictim h))
          (mapped_at Says (Picks h) (free_frame v) (λ frame is. let free = of_free v core frame is in takes frame free.1 free.0 (inr (none, free.2))))
          (where_test Says (nat_lt 0 (length (candidates v))) (PicksVictim h) (takes_victim none))

    picks_for : (h : ℕ) (q : Request) → request_of v.requests h ≡ Some q → (state : RequestState) → q.state ≡ state → ForSome (pick_for v h q state) Says
    picks_for h q asked_ request.Queued is = picks_on h q asked_ is (frame_in (row_in_list v.rows) q.volume (page_of q.cylinder)) refl
    picks_for h q asked_ request.Moving is = nothing Says None refl
    picks_for h q asked_ request.Ready is = nothing Says None refl
    picks_for h q asked_ (request.Failed fault) is = nothing Says None refl

    picks : (requests : RequestsData) → ((place : ℕ) (e : ℕ × Request) → slice_get requests place ≡ Some e → request_of v.requests e.0 ≡ Some e.1) → ForSome (first_pick v requests) Says
    picks [] each = nothing Says None refl
    picks (e ∷ more) each = either Says (pick_for v e.0 e.1 e.1.state) (first_pick v more) (picks_for e.0 e.1 (each 0 e refl) e.1.state refl) (picks more (λ place x at. each (suc place) x at))

  -- ---- any

  goes : ForSome (return_rule v recorder or pick_rule v recorder or option_and_then (task_rule v recorder) (task_of v recorder)) Says
  goes =
      either Says (return_rule v recorder) _
      (chained_at Says (λ cartridge. where_so (not (is_some (task_of v recorder))) (GivesBack cartridge)) (held_in v recorder) (λ cartridge held. where_test Says (not (is_some (task_of v recorder))) (GivesBack cartridge) (λ _. record { going = going; held = held; lies = core.beside.holds recorder cartridge held })))
      (either Says (pick_rule v recorder) _
      (if_so Says (is_some (task_of v recorder)) None (first_pick v v.requests) (λ _. nothing Says None refl) (λ none. picks (none_is (task_of v recorder) none) v.requests (asked_at v.requests core.requests_)))
      (chained_at Says (task_rule v recorder) (task_of v recorder) (λ task at. works task at)))

module _ {S C : Type 0} (v : CoreValue S C) (recorder : ℕ) (fits : recorder < v.config.recorders) (kept : v.stopped ≡ None → IsCore v) where
  -- the rule that is met says so
  pub rule_says : RuleSays v recorder (work_rule v recorder)
  unfolding work_rule
  rule_says = by v.stopped refl
    where
      by : (o : Option ℕ) → v.stopped ≡ o → RuleSays v recorder (unwrap_or (option_map IsStopped o or return_rule v recorder or pick_rule v recorder or option_and_then (task_rule v recorder) (task_of v recorder)) IsIdle)
      by (Some fault) is = is
      by None is = found (RuleSays v recorder) (return_rule v recorder or pick_rule v recorder or option_and_then (task_rule v recorder) (task_of v recorder)) IsIdle (goes v recorder fits (kept is) is) is

  says : (rule : WorkRule) → work_rule v recorder ≡ rule → RuleSays v recorder rule
  says rule is = subst (RuleSays v recorder) is rule_says

  weaker : {P Q : Task → Request → Type 0} → ((k : Task) (q : Request) → P k q → Q k q) → OfTask v recorder P → OfTask v recorder Q
  weaker gives of = record { going = of.going; task = of.task; request = of.request; serves = of.serves; may = λ k q serves. gives k q (of.may k q serves) }

  pub rule_stopped : (fault : ℕ) → work_rule v recorder ≡ IsStopped fault → v.stopped ≡ Some fault
  rule_stopped fault is = says (IsStopped fault) is

  pub rule_idle : work_rule v recorder ≡ IsIdle → v.stopped ≡ None
  rule_idle is = says IsIdle is

  pub rule_returns : (cartridge : ℕ) → work_rule v recorder ≡ GivesBack cartridge → HoldsCartridge v recorder cartridge
  rule_returns cartridge is = says (GivesBack cartridge) is

  pub rule_fetches : (cartridge : ℕ) → work_rule v recorder ≡ Fetches cartridge → MayFetch v recorder cartridge
  rule_fetches cartridge is = says (Fetches cartridge) is

  pub rule_picks : (h frame : ℕ) → work_rule v recorder ≡ Picks h frame → MayTake v recorder h frame
  rule_picks h frame is = says (Picks h frame) is

  pub rule_picks_victim : (h : ℕ) → work_rule v recorder ≡ PicksVictim h → MayTakeVictim v recorder h
  rule_picks_victim h is = says (PicksVictim h) is

  pub rule_abandons : work_rule v recorder ≡ Abandons → OfTask v recorder (λ task q. IsAbandoned task)
  rule_abandons is = says Abandons is

  pub rule_copies : (t : Transfer) → work_rule v recorder ≡ Copies t → OfTask v recorder (λ task q. q.cylinder < 404 → MayCopy v task q t)
  rule_copies t is = weaker (λ k q p. p.1) (says (Copies t) is)

  -- the transfer that the task is at
  pub rule_transfer : (t : Transfer) → work_rule v recorder ≡ Copies t → OfTask v recorder (λ task q. transfer_of v task ≡ Some t)
  rule_transfer t is = weaker (λ k q p. p.0) (says (Copies t) is)

  pub rule_ends : (t : Transfer) → work_rule v recorder ≡ Ends t → OfTask v recorder (λ task q. MayEnd v t.kind task t)
  rule_ends t is = says (Ends t) is

  pub rule_frees : (volume page : ℕ) → work_rule v recorder ≡ Frees volume page → OfTask v recorder (λ task q. MayFree v task volume page)
  rule_frees volume page is = says (Frees volume page) is

  pub rule_assigns : (volume page : ℕ) → work_rule v recorder ≡ Assigns volume page
      → OfTask v recorder (λ task q. q.cylinder < 404 → task.frame < 200 → MayAssignPage v volume page task q)
  rule_assigns volume page is = (says (Assigns volume page) is).1

  -- the row of the asked volume is there
  pub rule_assigns_row : (volume page : ℕ) → work_rule v recorder ≡ Assigns volume page → IsSome (row_in_list v.rows volume)
  rule_assigns_row volume page is = (says (Assigns volume page) is).0

-- ---- from the rule to the event

-- the rule doesn't look at the devices
pub rule_seen : {S C : Type 0} (g : Ghosts S) (v : CoreValue S C) (n : ℕ) → work_rule (seen_core g v) n ≡ work_rule v n
unfolding work_rule
rule_seen g v n = refl

pub work_event_by : {S C : Type 0} (g : Ghosts S) (may : List Candidate → ℕ → Type 0) (v : CoreValue S C) (n : ℕ) (answer : WorkAnswer) (core' : CoreData) (rule : WorkRule)
    → work_rule v n ≡ rule → WorkDoes g.tells may (seen_core g v) n rule answer core' → WorkEvent g.tells may (seen_core g v) n answer core'
work_event_by g may v n answer core' rule is does =
    subst (λ (r : WorkRule). WorkDoes g.tells may (seen_core g v) n r answer core') (sym is ∙ sym (rule_seen g v n)) does
