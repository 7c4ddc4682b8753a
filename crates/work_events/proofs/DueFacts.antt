-- The transfer that a task is at, or begins, is due by its row.
use Rattle.std.proofs.Common.{◌≡◌, ◌⊎◌, inl, inr, ℕ, zero, suc, ◌*◌, ◌/◌, ◌<◌, Bool, true, false, ◌==◌, nat_lt, List, [], ◌∷◌, length, get_or, Option, Some, None, refl, sym, ◌∙◌, ap, subst, arith}
use Rattle.std.specs.Prelude.{cond, filter, slice_get}
use Rattle.std.specs.Option.{ForSome, option_map, option_and_then, unwrap_or}
use Rattle.std.specs.List.{range_with_len}
use Rattle.std.proofs.lemmas.Bool.{and_parts, eqb-true, ltb-true}
use Rattle.std.proofs.lemmas.List.FromFn.{length-range_with_len, get_or-range_with_len}
use Rattle.volume_table.specs.Listed.{row_in_list}
use Rattle.volume_table.specs.Row.{RowValue, frame_of, state_of, cartridge_with}
use Rattle.shown_volumes.specs.Sound.{frame_in}
use Rattle.fault_queue.specs.declared.queue.Request.{Request}
use Rattle.fault_queue.specs.Requests.{request_of}
use Rattle.transfers.specs.Dues.{due_state}
use Rattle.transfers.specs.declared.transfer.Transfer.{Transfer}
use Rattle.transfers.specs.declared.transfer.TransferKind.{TransferKind}
use Rattle.transfers.specs.declared.transfer.TransferKind.TheVariants.{StageBlank, StageCartridge, Destage}
use Rattle.cartridge_store.specs.declared.store.TheConstants.{CARTRIDGES}
use Rattle.core_state.specs.declared.task.Task.{Task}
use Rattle.core_state.specs.CoreValue.{CoreValue}
use Rattle.core_state.specs.IsCore.{IsCore}
use Rattle.core_state.specs.Pins.{task_at, state_in, state_of_row, page_of, is_changed, changed_in}
use Rattle.core_state.specs.Tasks.{IsTask, IsTransfer, IsChosen, HasFrame}
use Rattle.core_state.specs.WorkRules.{cartridge_of, transfer, destaging, staging_kind, staging, next_transfer, transfer_of}
use Rattle.core_state.proofs.RuleWalks.{some_is, none_some, mapped, chained, either, mapped_at}

-- ---- rows

-- the first that passes is one of them
first_kept : (test : ℕ → Bool) (P : ℕ → Type 0) (xs : List ℕ) (y : ℕ) → ((i : ℕ) → i < length xs → P (get_or xs i 0)) → slice_get (filter test xs) 0 ≡ Some y → P y × (test y ≡ true)
first_kept test P [] y all_ is = absurd (none_some y is)
first_kept test P (x ∷ xs) y all_ is = by (first_kept test P xs y (λ i lt. all_ (suc i) (omega (arith, lt)))) (test x) refl is
  where
    by : (slice_get (filter test xs) 0 ≡ Some y → P y × (test y ≡ true)) → (b : Bool) → test x ≡ b → slice_get (cond b (x ∷ filter test xs) (filter test xs)) 0 ≡ Some y → P y × (test y ≡ true)
    by more true passes at = let e : x ≡ y = some_is x y at in (subst P e (all_ zero (omega arith)), ap test (sym e) ∙ passes)
    by more false passes at = more at

-- the first changed cylinder of a page
first_changed : (rows : List (Option RowValue)) (page : ℕ × ℕ) (y : ℕ) → slice_get (changed_in rows page) 0 ≡ Some y → (y / 8 ≡ page.1) × (y < 404) × (state_in rows page.0 y ≡ 4)
first_changed rows page y is =
    let kept = first_kept (is_changed rows page.0) (λ z. z / 8 ≡ page.1) (range_with_len (page.1 * 8) 8) y (λ i lt. inside i lt) is in
    let parts = and_parts (nat_lt y 404) (state_in rows page.0 y == 4) kept.1 in
    (kept.0, ltb-true y 404 parts.0, eqb-true (state_in rows page.0 y) 4 parts.1)
  where
    inside : (i : ℕ) → i < length (range_with_len (page.1 * 8) 8) → get_or (range_with_len (page.1 * 8) 8) i 0 / 8 ≡ page.1
    inside i lt =
        let long = length-range_with_len (page.1 * 8) 8 in
        let e = get_or-range_with_len (page.1 * 8) 8 i 0 (omega (arith, lt, long)) in
        omega (arith, e, lt, long)

-- a cylinder that has a state other than 0 has a row
row_of_four : (o : Option RowValue) (y : ℕ) → state_of_row o y ≡ 4 → (r : RowValue) × (o ≡ Some r) × (state_of r y ≡ 4)
row_of_four None y is = absurd (omega (arith, is))
row_of_four (Some r) y is = (r, refl, is)

-- so has a page with a frame
pub row_of_frame : (o : Option RowValue) (page f : ℕ) → option_and_then (λ r. frame_of r page) o ≡ Some f → (r : RowValue) × (o ≡ Some r) × (frame_of r page ≡ Some f)
row_of_frame None page f is = absurd (none_some f is)
row_of_frame (Some r) page f is = (r, refl, is)

-- ---- the cylinder that is asked for

kinds : (state : ℕ) → (staging_kind state ≡ StageBlank) ⊎ (staging_kind state ≡ StageCartridge)
kinds state = by (state == 0)
  where
    by : (b : Bool) → (cond b StageBlank StageCartridge ≡ StageBlank) ⊎ (cond b StageBlank StageCartridge ≡ StageCartridge)
    by true = inl refl
    by false = inr refl

due_states : (state : ℕ) → state < 2 → state ≡ due_state (staging_kind state)
due_states zero low = refl
due_states (suc zero) low = refl
due_states (suc (suc n)) low = absurd (omega (arith, low))

no_destage : (kind : TransferKind) → (kind ≡ StageBlank) ⊎ (kind ≡ StageCartridge) → kind ≡ Destage → ⊥
no_destage kind (inl blank) is = let e : StageBlank ≡ Destage = sym blank ∙ is in cc
no_destage kind (inr copied) is = let e : StageCartridge ≡ Destage = sym copied ∙ is in cc

chosen_by : (kind : TransferKind) → (kind ≡ StageBlank) ⊎ (kind ≡ StageCartridge) → (victim : Option (ℕ × ℕ)) → victim ≡ None → (q : Request) → IsChosen kind victim q q.volume q.cylinder
chosen_by kind (inl blank) victim none q = subst (λ (k : TransferKind). IsChosen k victim q q.volume q.cylinder) (sym blank) (none, refl, refl)
chosen_by kind (inr copied) victim none q = subst (λ (k : TransferKind). IsChosen k victim q q.volume q.cylinder) (sym copied) (none, refl, refl)

-- ---- a task's transfer

-- one that begins, by the page that the task takes
abbrev pub next_by : {S C : Type 0} → CoreValue S C → Task → Option (ℕ × ℕ) → Option Transfer
next_by v task (Some page) = destaging v.rows task.frame page
next_by v task None = option_and_then (staging v.rows task.frame) (request_of v.requests task.host)

module _ {S C : Type 0} (v : CoreValue S C) (core : IsCore v) (n : ℕ) (task : Task) (at : task_at v.tasks n ≡ Some task) where
  abbrev pub own : IsTask v.config.frames (row_in_list v.rows) v.moving v.requests v.hosts task
  own = core.tasks_.each n task at

  abbrev IsDueOwn : Transfer → Type 0
  IsDueOwn u = IsTransfer (row_in_list v.rows) task.frame task.victim own.request u

  has_frame : (victim : Option (ℕ × ℕ)) → task.victim ≡ victim → HasFrame (row_in_list v.rows) task.frame victim own.request.volume (own.request.cylinder / 8)
  has_frame victim is = subst (λ (o : Option (ℕ × ℕ)). HasFrame (row_in_list v.rows) task.frame o own.request.volume (own.request.cylinder / 8)) is own.frame_

  cartridge_is : (volume y : ℕ) (r : RowValue) → row_in_list v.rows volume ≡ Some r → cartridge_of v.rows volume y ≡ cartridge_with r y
  cartridge_is volume y r there = ap (λ (o : Option RowValue). unwrap_or (option_map (λ k. cartridge_with k y) o) 0) there

  -- the destaging of a victim's changed cylinder
  begins_destage : (page : ℕ × ℕ) → task.victim ≡ Some page → (y : ℕ) → slice_get (changed_in v.rows page) 0 ≡ Some y → IsDueOwn (transfer v.rows Destage page.0 y task.frame)
  begins_destage page is y found =
      let facts = first_changed v.rows page y found in
      let row = row_of_four (row_in_list v.rows page.0) y facts.2 in
      let has = has_frame (Some page) is in
      record {
        row = row.0;
        there = row.1;
        due = record {
          cylinder_in = facts.1;
          frame_ = sym (ap (λ (o : Option RowValue). option_and_then (λ k. frame_of k (y / 8)) o) row.1) ∙ ap (frame_in (row_in_list v.rows) page.0) facts.0 ∙ has.0;
          cartridge_ = cartridge_is page.0 y row.0 row.1;
          state = row.2;
        };
        frame_ = refl;
        upto = omega arith;
        cylinder_ = is ∙ (λ i. Some (page.0, sym facts.0 i));
      }

  -- the staging of the cylinder that is asked for, once its page has a frame
  begins_stage : task.victim ≡ None → own.request.cylinder < 404 → (f : ℕ) → frame_in (row_in_list v.rows) own.request.volume (page_of own.request.cylinder) ≡ Some f
      → IsDueOwn (transfer v.rows (staging_kind (state_in v.rows own.request.volume own.request.cylinder)) own.request.volume own.request.cylinder task.frame)
  begins_stage none low f found =
      let q = own.request in
      let row = row_of_frame (row_in_list v.rows own.request.volume) (own.request.cylinder / 8) f found in
      let state : state_in v.rows own.request.volume own.request.cylinder ≡ state_of row.0 own.request.cylinder = ap (λ (o : Option RowValue). state_of_row o own.request.cylinder) row.1 in
      let waits : state_of row.0 own.request.cylinder < 2 = own.waits row.0 row.1 in
      let has : frame_in (row_in_list v.rows) own.request.volume (own.request.cylinder / 8) ≡ Some task.frame = elim (has_frame None none) [
        | inl there ↦ there
        | inr loose ↦ absurd (none_some f (sym loose.0 ∙ found))
      ] in
      record {
        row = row.0;
        there = row.1;
        due = record {
          cylinder_in = low;
          frame_ = sym (ap (λ (o : Option RowValue). option_and_then (λ k. frame_of k (own.request.cylinder / 8)) o) row.1) ∙ has;
          cartridge_ = cartridge_is own.request.volume own.request.cylinder row.0 row.1;
          state = due_states (state_of row.0 own.request.cylinder) waits ∙ ap (λ (k : ℕ). due_state (staging_kind k)) (sym state);
        };
        frame_ = refl;
        upto = omega arith;
        cylinder_ = chosen_by (staging_kind (state_in v.rows own.request.volume own.request.cylinder)) (kinds (state_in v.rows own.request.volume own.request.cylinder)) task.victim none own.request;
      }

  begins : own.request.cylinder < 404 → ForSome (next_transfer v.rows v.requests task) IsDueOwn
  begins low = by task.victim refl
    where
      by : (victim : Option (ℕ × ℕ)) → task.victim ≡ victim → ForSome (next_by v task victim) IsDueOwn
      by (Some page) is = mapped_at IsDueOwn (λ y. transfer v.rows Destage page.0 y task.frame) (slice_get (changed_in v.rows page) 0) (λ y found. begins_destage page is y found)
      by None is =
          subst (λ (o : Option Request). ForSome (option_and_then (staging v.rows task.frame) o) IsDueOwn) (sym own.asked)
          (mapped_at IsDueOwn (λ (_ : ℕ). transfer v.rows (staging_kind (state_in v.rows own.request.volume own.request.cylinder)) own.request.volume own.request.cylinder task.frame) (frame_in (row_in_list v.rows) own.request.volume (page_of own.request.cylinder)) (λ f found. begins_stage is low f found))

  -- the transfer is due, be it the task's or one that begins
  pub is_due : own.request.cylinder < 404 → (u : Transfer) → transfer_of v task ≡ Some u → IsTransfer (row_in_list v.rows) task.frame task.victim own.request u
  is_due low u of = either IsDueOwn task.transfer (next_transfer v.rows v.requests task) own.transfer_ (begins low) u of

  abbrev IsDueOf : Transfer → Type 0
  IsDueOf t = t.kind ≡ Destage → IsTransfer (row_in_list v.rows) task.frame task.victim own.request t

  -- so is one that destages, whatever is asked for
  pub is_due_destage : (u : Transfer) → u.kind ≡ Destage → transfer_of v task ≡ Some u → IsTransfer (row_in_list v.rows) task.frame task.victim own.request u
  is_due_destage u kind of = either IsDueOf task.transfer (next_transfer v.rows v.requests task) (λ t is _. own.transfer_ t is) (by task.victim refl) u of kind
    where
      by : (victim : Option (ℕ × ℕ)) → task.victim ≡ victim → ForSome (next_by v task victim) IsDueOf
      by (Some page) is = mapped_at IsDueOf (λ y. transfer v.rows Destage page.0 y task.frame) (slice_get (changed_in v.rows page) 0) (λ y found _. begins_destage page is y found)
      by None is =
          chained IsDueOf (staging v.rows task.frame) (request_of v.requests task.host)
          (λ q. mapped IsDueOf (λ (_ : ℕ). transfer v.rows (staging_kind (state_in v.rows q.volume q.cylinder)) q.volume q.cylinder task.frame) (frame_in (row_in_list v.rows) q.volume (page_of q.cylinder))
          (λ f staged. absurd (no_destage (staging_kind (state_in v.rows q.volume q.cylinder)) (kinds (state_in v.rows q.volume q.cylinder)) staged)))

  -- ---- what is known of one that begins without a look at the request

  abbrev IsNew : Transfer → Type 0
  IsNew u = (u.next ≡ 0) × (u.cartridge ≡ cartridge_of v.rows u.volume u.cylinder)

  is_new : ForSome (next_transfer v.rows v.requests task) IsNew
  is_new = by task.victim
    where
      by : (victim : Option (ℕ × ℕ)) → ForSome (next_by v task victim) IsNew
      by (Some page) = mapped IsNew (λ y. transfer v.rows Destage page.0 y task.frame) (slice_get (changed_in v.rows page) 0) (λ y. (refl, refl))
      by None =
          chained IsNew (staging v.rows task.frame) (request_of v.requests task.host)
          (λ q. mapped IsNew (λ (_ : ℕ). transfer v.rows (staging_kind (state_in v.rows q.volume q.cylinder)) q.volume q.cylinder task.frame) (frame_in (row_in_list v.rows) q.volume (page_of q.cylinder)) (λ f. (refl, refl)))

  -- it is the task's, or no track is copied
  pub is_begun : (u : Transfer) → transfer_of v task ≡ Some u → (task.transfer ≡ Some u) ⊎ (u.next ≡ 0)
  is_begun u of = either (λ (t : Transfer). (task.transfer ≡ Some t) ⊎ (t.next ≡ 0)) task.transfer (next_transfer v.rows v.requests task) (λ t is. inl is) (λ t is. inr (is_new t is).0) u of

  half : (o : Option RowValue) (y : ℕ) → ((r : RowValue) → o ≡ Some r → (r.first < 2048) × (r.second < 2048)) → unwrap_or (option_map (λ r. cartridge_with r y) o) 0 < 2048
  half None y each = omega arith
  half (Some r) y each = by (nat_lt y 202)
    where
      by : (b : Bool) → cond b r.first r.second < 2048
      by true = (each r refl).0
      by false = (each r refl).1

  cartridge_below : (volume y : ℕ) → cartridge_of v.rows volume y < 2048
  cartridge_below volume y = half (row_in_list v.rows volume) y (λ r there. let row = core.are_rows volume r there in (row.first, row.second))

  -- its cartridge is there
  pub is_known : (u : Transfer) → transfer_of v task ≡ Some u → u.cartridge < CARTRIDGES
  is_known u of = either (λ (t : Transfer). t.cartridge < 2048) task.transfer (next_transfer v.rows v.requests task) (λ t is. mine t is) (λ t is. subst (λ (c : ℕ). c < 2048) (sym (is_new t is).1) (cartridge_below t.volume t.cylinder)) u of
    where
      mine : (t : Transfer) → task.transfer ≡ Some t → t.cartridge < 2048
      mine t is =
          let own_ = own.transfer_ t is in
          subst (λ (c : ℕ). c < 2048) (cartridge_is t.volume t.cylinder own_.row own_.there ∙ sym own_.due.cartridge_) (cartridge_below t.volume t.cylinder)
