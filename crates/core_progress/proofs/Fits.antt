-- What keeps the recorders and the hosts going follows from the invariant.
use Rattle.std.proofs.Common.{◌≡◌, ◌≢◌, ◌⊎◌, inl, inr, ℕ, zero, suc, ◌/◌, ◌≤◌, ◌<◌, Bool, true, false, ◌==◌, List, [], ◌∷◌, Option, Some, None, length, refl, sym, ◌∙◌, ap, subst, arith}
use Rattle.std.specs.Prelude.{IsSome, slice_index_or}
use Rattle.std.specs.Option.{ForSome, option_map, option_and_then, unwrap_or}
use Rattle.std.proofs.lemmas.Bool.{and_parts, cases_lt, eqb-true, false≢true, or_from, false_from_ne_true}
use Rattle.std.proofs.lemmas.List.{get_or_past}
use Rattle.ckd_plain.specs.declared.host.HostState.{HostState}
use Rattle.ckd_plain.specs.Plain.{fresh_host}
use Rattle.volume_table.specs.Row.{RowValue, state_of, frame_of, cartridge_with}
use Rattle.shown_volumes.specs.Sound.{frame_in}
use Rattle.fault_queue.specs.declared.queue.Request.{Request}
use Rattle.fault_queue.specs.Requests.{request_of}
use Rattle.transfers.specs.declared.transfer.Transfer.{Transfer}
use Rattle.transfers.specs.declared.transfer.TransferKind.{TransferKind}
use Rattle.transfers.specs.declared.transfer.TransferKind.TheVariants.{StageBlank, StageCartridge, Destage}
use Rattle.core_state.specs.declared.task.Task.{Task}
use Rattle.core_state.specs.CoreValue.{CoreValue}
use Rattle.volume_table.specs.Listed.{row_in_list}
use Rattle.core_state.specs.Pins.{owner_at, task_at, binds, is_volume_bound, state_of_row, state_in}
use Rattle.core_state.specs.WorkRules.{cartridge_of}
use Rattle.core_state.specs.Tasks.{IsTask, IsTransfer, IsChosen, HasFrame}
use Rattle.transfers.specs.Dues.{due_state}
use Rattle.core_state.specs.IsCore.{IsCore}
use Rattle.core_progress.specs.CoreFits.{RequestsFit, IsUnderWay, IsDestage, IsStaging, TasksFit, FramesFit, CartridgesFit, CoreFits}
use Rattle.victim_choice.proofs.OrderFacts.{order_there, order_once, order_below}
use Rattle.core_state.proofs.RuleWalks.{some_is, none_some}
use Rattle.core_state.proofs.MovingFacts.{moving_unstaged}

at_least : (o : Option RowValue) (y : ℕ) → IsSome o → ForSome o (λ r. 2 ≤ state_of r y) → 2 ≤ state_of_row o y
at_least None y is all_ = absurd (false≢true is)
at_least (Some r) y is all_ = all_ r refl

below : (o : Option RowValue) (y : ℕ) → ForSome o (λ r. state_of r y < 2) → state_of_row o y < 2
below None y all_ = omega arith
below (Some r) y all_ = all_ r refl

-- ---- a volume that no host has bound

bound_so : (volume : ℕ) (m : Option (ℕ × Bool)) → binds volume m ≡ true → m ≡ Some (volume, true)
bound_so volume None is = absurd (false≢true is)
bound_so volume (Some m) is =
    let parts = and_parts (m.0 == volume) m.1 is in
    let e = eqb-true m.0 volume parts.0 in
    λ i. Some (e i, parts.1 i)

none_bound : (hosts : List HostState) (volume : ℕ) → ((i : ℕ) → (slice_index_or hosts i fresh_host).mounted ≢ Some (volume, true)) → is_volume_bound hosts volume ≡ false
none_bound [] volume never = refl
none_bound (host ∷ hosts) volume never =
    or_from (binds volume host.mounted) (is_volume_bound hosts volume)
    (false_from_ne_true (binds volume host.mounted) (λ is. never zero (bound_so volume host.mounted is)))
    (none_bound hosts volume (λ i. never (suc i)))

-- ---- a list by number

beyond : {A : Type 0} (xs : List (Option A)) (i : ℕ) (x : A) → slice_index_or xs i None ≡ Some x → i < length xs
beyond xs i x is = elim (cases_lt i (length xs)) [
  | inl within ↦ within
  | inr past ↦ absurd (none_some x (sym (get_or_past xs i None past) ∙ is))
]

module _ {S C : Type 0} (v : CoreValue S C) (core : IsCore v) where
  row_there : (h : ℕ) (r : Request) → request_of v.requests h ≡ Some r → IsSome (row_in_list v.rows r.volume)
  row_there h r asked = core.fit.mounted_ h r.volume (core.on_mounted h r asked).0

  requests_fit : RequestsFit v
  requests_fit = record {
    single = core.requests_;
    placed = core.on_mounted;
    there = row_there;
    alone = core.alone;
    staged = λ h r asked ready. at_least (row_in_list v.rows r.volume) r.cylinder (row_there h r asked) (core.fit.ready h r asked ready).staged;
    unstaged = λ h r asked which. below (row_in_list v.rows r.volume) r.cylinder (elim which [
      | inl queued ↦ core.waiting h r asked queued
      | inr moves ↦ moving_unstaged S v core h r asked moves
    ]);
  }

  module _ (i : ℕ) (task : Task) (at : task_at v.tasks i ≡ Some task) where
    its : IsTask v.config.frames (row_in_list v.rows) v.moving v.requests v.hosts task
    its = core.tasks_.each i task at

    its_request : (r : Request) → request_of v.requests task.host ≡ Some r → its.request ≡ r
    its_request r asked = some_is its.request r (sym its.asked ∙ asked)

    frame_for : (r : Request) → request_of v.requests task.host ≡ Some r → (victim : Option (ℕ × ℕ)) → task.victim ≡ victim → HasFrame (row_in_list v.rows) task.frame victim r.volume (r.cylinder / 8)
    frame_for r asked victim is =
        subst (λ (o : Option (ℕ × ℕ)). HasFrame (row_in_list v.rows) task.frame o r.volume (r.cylinder / 8)) is
        (subst (λ (q : Request). HasFrame (row_in_list v.rows) task.frame task.victim q.volume (q.cylinder / 8)) (its_request r asked) its.frame_)

    no_owner : ((volume page : ℕ) → frame_in (row_in_list v.rows) volume page ≡ Some task.frame → ⊥) → (o : Option (ℕ × ℕ)) → owner_at v.owners task.frame ≡ o → o ≡ None
    no_owner none None is = refl
    no_owner none (Some p) is = absurd (none p.0 p.1 ((core.owned task.frame p.0 p.1 its.low).0 is))

    given_frame : (r : Request) → request_of v.requests task.host ≡ Some r → task.victim ≡ None
        → (frame_in (row_in_list v.rows) r.volume (r.cylinder / 8) ≡ Some task.frame) ⊎ ((owner_at v.owners task.frame ≡ None) × (frame_in (row_in_list v.rows) r.volume (r.cylinder / 8) ≡ None))
    given_frame r asked is = elim (frame_for r asked None is) [
      | inl has ↦ inl has
      | inr loose ↦ inr (no_owner loose.1 (owner_at v.owners task.frame) refl, loose.0)
    ]

    -- the transfer that it has
    module _ (t : Transfer) (copies : task.transfer ≡ Some t) where
      its_transfer : IsTransfer (row_in_list v.rows) task.frame task.victim its.request t
      its_transfer = its.transfer_ t copies

      state_is : state_in v.rows t.volume t.cylinder ≡ due_state t.kind
      state_is = ap (λ (o : Option RowValue). state_of_row o t.cylinder) its_transfer.there ∙ its_transfer.due.state

      cartridge_is : t.cartridge ≡ cartridge_of v.rows t.volume t.cylinder
      cartridge_is = its_transfer.due.cartridge_ ∙ sym (ap (λ (o : Option RowValue). unwrap_or (option_map (λ k. cartridge_with k t.cylinder) o) 0) its_transfer.there)

      under_way : IsUnderWay v task t
      under_way = record { frame_ = its_transfer.frame_; cartridge_ = cartridge_is; state = state_is; upto = its_transfer.upto }

      destage_due : (page : ℕ × ℕ) → task.victim ≡ Some page → (kind : TransferKind) → t.kind ≡ kind → IsChosen kind task.victim its.request t.volume t.cylinder → IsDestage v page t
      destage_due page is StageBlank kind_is due = absurd (none_some page (sym due.0 ∙ is))
      destage_due page is StageCartridge kind_is due = absurd (none_some page (sym due.0 ∙ is))
      destage_due page is Destage kind_is due =
          let e = some_is (t.volume, t.cylinder / 8) page (sym due ∙ is) in
          record { kind_ = kind_is; volume_ = ap (λ (p : ℕ × ℕ). p.0) e; page_ = ap (λ (p : ℕ × ℕ). p.1) e }

      stage_due : task.victim ≡ None → (kind : TransferKind) → IsChosen kind task.victim its.request t.volume t.cylinder
          → ((kind ≡ StageBlank) ⊎ (kind ≡ StageCartridge)) × (t.volume ≡ its.request.volume) × (t.cylinder ≡ its.request.cylinder)
      stage_due none StageBlank due = (inl refl, due.1, due.2)
      stage_due none StageCartridge due = (inr refl, due.1, due.2)
      stage_due none Destage due = absurd (none_some (t.volume, t.cylinder / 8) (sym none ∙ due))

      staging : (r : Request) → task.victim ≡ None → request_of v.requests task.host ≡ Some r → IsStaging v task r t
      staging r none asked =
          let due = stage_due none t.kind its_transfer.cylinder_ in
          let same = its_request r asked in
          let volume_is : t.volume ≡ r.volume = due.1 ∙ ap (λ (q : Request). q.volume) same in
          let cylinder_is : t.cylinder ≡ r.cylinder = due.2 ∙ ap (λ (q : Request). q.cylinder) same in
          let framed : frame_in (row_in_list v.rows) t.volume (t.cylinder / 8) ≡ Some task.frame = ap (λ (o : Option RowValue). option_and_then (λ k. frame_of k (t.cylinder / 8)) o) its_transfer.there ∙ its_transfer.due.frame_ ∙ ap (λ (k : ℕ). Some k) its_transfer.frame_ in
          record {
            kind_ = due.0;
            volume_ = volume_is;
            cylinder_ = cylinder_is;
            framed = (λ k. frame_in (row_in_list v.rows) (sym volume_is k) (sym cylinder_is k / 8)) ∙ framed;
          }

  tasks_fit : TasksFit v
  tasks_fit = record {
    low = λ i task at. subst (λ n. i < n) core.fit.long (beyond v.tasks i task at);
    serves = λ i task at. let is = its i task at in (is.request, is.asked, is.is_moving_);
    served = core.tasks_.awaited;
    hosts_apart = core.tasks_.hosts_once;
    frames_apart = core.tasks_.frames_once;
    uses = λ i task at. ((its i task at).low, (its i task at).moves);
    used = core.tasks_.moved;
    takes = λ i task page at victim.
        let is = its i task at in
        let has = frame_for i task at is.request is.asked (Some page) victim in
        ((core.owned task.frame page.0 page.1 is.low).1 has.0, none_bound v.hosts page.0 (λ k bound. is.unbound page victim (suc k) bound));
    bare = λ i task page r at victim asked. (frame_for i task at r asked (Some page) victim).1;
    touched_ = λ i task page h r at victim asked ready same. (core.fit.ready h r asked ready).touched_ i task at (victim ∙ (λ k. Some (sym same k)));
    given = λ i task r at none asked. given_frame i task at r asked none;
    transfers = λ i task t at copies. under_way i task at t copies;
    destages = λ i task t page at copies victim. destage_due i task at t copies page victim t.kind refl (its_transfer i task at t copies).cylinder_;
    stages = λ i task t r at copies none asked. staging i task at t copies r none asked;
  }

  owner_low : (frame : ℕ) (page : ℕ × ℕ) → owner_at v.owners frame ≡ Some page → frame < v.config.frames
  owner_low frame page is = subst (λ n. frame < n) core.owners_ (beyond v.owners frame page is)

  frames_fit : FramesFit v
  frames_fit = record {
    given = λ page frame is. let lt = core.framed page.0 page.1 frame is in (lt, (core.owned frame page.0 page.1 lt).1 is);
    owned = λ page frame is. (core.owned frame page.0 page.1 (owner_low frame page is)).0 is;
    ordered = order_there v.config.frames v.recency core.beside.order;
    once = order_once v.config.frames v.recency core.beside.order;
    known = order_below v.config.frames v.recency core.beside.order;
  }

  cartridges_fit : CartridgesFit v
  cartridges_fit = record {
    lies = core.beside.lies;
    holds = λ i cartridge is. (subst (λ n. i < n) core.beside.long (beyond v.recorders i cartridge is), core.beside.holds i cartridge is);
  }

  pub core_fits : CoreFits v
  core_fits = record { requests_ = requests_fit; tasks_ = tasks_fit; frames_ = frames_fit; cartridges_ = cartridges_fit }
