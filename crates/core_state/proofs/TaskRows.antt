-- Tasks, and what they say of blocks, where a row changes.
use Rattle.std.proofs.Common.{◌≡◌, ◌≢◌, ◌⊎◌, inl, inr, ℕ, ◌/◌, ◌<◌, Bool, true, false, cond, ◌==◌, nat_lt, List, Option, Some, None, refl, sym, ◌∙◌, ap, subst, get_or-set_other}
use Rattle.std.specs.Option.{option_and_then, ForSome}
use Rattle.std.proofs.lemmas.Bool.{cond-false}
use Rattle.std.proofs.lemmas.Bool.Decides.{eqb_tells}
use Rattle.mss_base.specs.Content.{Content}
use Rattle.mss_base.specs.declared.place.BlockPlace.{BlockPlace}
use Rattle.ckd_plain.specs.declared.host.HostState.{HostState}
use Rattle.volume_table.specs.Row.{RowValue, frame_of, state_of, cartridge_with}
use Rattle.volume_table.specs.Changes.{with_frame, with_state, without_frame}
use Rattle.volume_table.proofs.RowFacts.{frame-without_frame, state-without_frame}
use Rattle.shown_volumes.specs.Shown.{RowsOf, block_at, on_cartridge, in_page}
use Rattle.shown_volumes.specs.Sound.{frame_in}
use Rattle.fault_queue.specs.declared.queue.Request.{Request}
use Rattle.core_state.specs.declared.task.Task.{Task}
use Rattle.transfers.specs.declared.transfer.Transfer.{Transfer}
use Rattle.core_state.specs.Pins.{moves_at}
use Rattle.fault_queue.specs.Requests.{request_of, RequestsData}
use Rattle.core_state.specs.Tasks.{IsTask, IsTransfer, HasFrame}
use Rattle.core_state.specs.Served.{IsServed, AreCopied}
use Rattle.core_state.proofs.RuleWalks.{some_is}
use Rattle.core_state.proofs.Serving.{SameFor, same_for, copied_same, Counts}

-- the page of a transfer's cylinder has the task's frame
pub framed_by : (rows : RowsOf) (frame : ℕ) (victim : Option (ℕ × ℕ)) (request : Request) (t : Transfer) (is : IsTransfer rows frame victim request t) → frame_of is.row (t.cylinder / 8) ≡ Some frame
framed_by rows frame victim request t is = is.due.frame_ ∙ ap Some is.frame_

-- ---- a cylinder that a change leaves

pub same_but_state : (r : RowValue) (y n cylinder : ℕ) → cylinder ≢ y → SameFor r (with_state y n r) cylinder
same_but_state r y n cylinder other = record { state = get_or-set_other r.states y cylinder n 0 other; frame = refl; first_ = refl; second_ = refl }

pub same_but_frame : (r : RowValue) (page f cylinder : ℕ) → cylinder / 8 ≢ page → SameFor r (with_frame page f r) cylinder
same_but_frame r page f cylinder other = record { state = refl; frame = get_or-set_other r.pages page (cylinder / 8) (Some f) None other; first_ = refl; second_ = refl }

pub same_but_page : (r : RowValue) (page cylinder : ℕ) → cylinder / 8 ≢ page → SameFor r (without_frame page r) cylinder
same_but_page r page cylinder other =
    let test : (cylinder / 8 == page) ≡ false = elim (eqb_tells (cylinder / 8) page) [ inl e ↦ absurd (other e.1) | inr e ↦ e.0 ] in
    record {
      state = state-without_frame page r cylinder ∙ cond-false _ _ _ test;
      frame = frame-without_frame page r (cylinder / 8) ∙ cond-false _ _ _ test;
      first_ = refl;
      second_ = refl;
    }

-- ---- rows with another one of a volume

module _ (rows now : RowsOf) (volume : ℕ) (r q : RowValue) (there : rows volume ≡ Some r) (here : now volume ≡ Some q) (others : (w : ℕ) → w ≢ volume → now w ≡ rows w) where
  -- of each other volume, and of this one
  pub by_volume : (w : ℕ) → (w ≡ volume) ⊎ (now w ≡ rows w)
  by_volume w = elim (eqb_tells w volume) [ inl e ↦ inl e.1 | inr e ↦ inr (others w e.1) ]

  pub frame_stays : (w page : ℕ) → (w ≡ volume → frame_of q page ≡ frame_of r page) → frame_in now w page ≡ frame_in rows w page
  frame_stays w page same = elim (by_volume w) [
    | inl e ↦
        ap (λ (k : ℕ). frame_in now k page) e ∙ ap (λ (o : Option RowValue). option_and_then (λ k. frame_of k page) o) here ∙ same e
        ∙ sym (ap (λ (k : ℕ). frame_in rows k page) e ∙ ap (λ (o : Option RowValue). option_and_then (λ k. frame_of k page) o) there)
    | inr e ↦ ap (λ (o : Option RowValue). option_and_then (λ k. frame_of k page) o) e
  ]

  pub waits_stay : (w cylinder : ℕ) → (w ≡ volume → state_of r cylinder < 2 → state_of q cylinder < 2) → ForSome (rows w) (λ k. state_of k cylinder < 2) → ForSome (now w) (λ k. state_of k cylinder < 2)
  waits_stay w cylinder low waits k is = elim (by_volume w) [
    | inl e ↦
        let o : Some q ≡ Some k = sym here ∙ ap now (sym e) ∙ is in
        subst (λ (z : RowValue). state_of z cylinder < 2) (some_is q k o) (low e (waits r (ap rows e ∙ there)))
    | inr e ↦ waits k (sym e ∙ is)
  ]

  transfer_stays : (frame : ℕ) (victim : Option (ℕ × ℕ)) (request : Request) (t : Transfer) → (t.volume ≡ volume → SameFor r q t.cylinder) → IsTransfer rows frame victim request t → IsTransfer now frame victim request t
  transfer_stays frame victim request t same is = elim (by_volume t.volume) [
    | inl e ↦
        let k = same e in
        let o : r ≡ is.row = some_is r is.row (sym there ∙ ap rows (sym e) ∙ is.there) in
        record {
          row = q;
          there = ap now e ∙ here;
          due = record {
            cylinder_in = is.due.cylinder_in;
            frame_ = k.frame ∙ ap (λ (z : RowValue). frame_of z (t.cylinder / 8)) o ∙ is.due.frame_;
            cartridge_ = is.due.cartridge_ ∙ sym ((λ i. cond (nat_lt t.cylinder 202) (k.first_ i) (k.second_ i)) ∙ ap (λ (z : RowValue). cartridge_with z t.cylinder) o);
            state = k.state ∙ ap (λ (z : RowValue). state_of z t.cylinder) o ∙ is.due.state;
          };
          frame_ = is.frame_;
          upto = is.upto;
          cylinder_ = is.cylinder_;
        }
    | inr e ↦ record {
      row = is.row;
      there = e ∙ is.there;
      due = is.due;
      frame_ = is.frame_;
      upto = is.upto;
      cylinder_ = is.cylinder_;
    }
  ]

  -- a task whose frame, request and transfer the change leaves
  module _ (frames : ℕ) (moving still : List Bool) (requests others_ : RequestsData) (hosts : List HostState) (task : Task) (is : IsTask frames rows moving requests hosts task)
      (moves : moves_at still task.frame ≡ true) (asked : request_of others_ task.host ≡ request_of requests task.host)
      (low : is.request.volume ≡ volume → state_of r is.request.cylinder < 2 → state_of q is.request.cylinder < 2)
      (framed : HasFrame now task.frame task.victim is.request.volume (is.request.cylinder / 8))
      (same : (t : Transfer) → task.transfer ≡ Some t → t.volume ≡ volume → SameFor r q t.cylinder) where
    pub task_stays : IsTask frames now still others_ hosts task
    task_stays = record {
      low = is.low;
      moves = moves;
      request = is.request;
      asked = asked ∙ is.asked;
      is_moving_ = is.is_moving_;
      waits = waits_stay is.request.volume is.request.cylinder low is.waits;
      frame_ = framed;
      unbound = is.unbound;
      transfer_ = λ t at. transfer_stays task.frame task.victim is.request t (same t at) (is.transfer_ t at);
    }

  -- what it says of blocks stays where they do
  pub served_stays : (c d : Content) (task : Task) (frame : ℕ) (request : Request) → ((t : Transfer) → task.transfer ≡ Some t → IsTransfer rows frame task.victim request t)
      → ((t : Transfer) → task.transfer ≡ Some t → t.volume ≡ volume → SameFor r q t.cylinder)
      → ((t : Transfer) (k : RowValue) → task.transfer ≡ Some t → rows t.volume ≡ Some k → Counts t.kind task.touched → (head : ℕ) → head < 19 → (place : BlockPlace) → in_page k t.cylinder head ≡ Some place → block_at d place ≡ block_at c place)
      → ((t : Transfer) (k : RowValue) → task.transfer ≡ Some t → rows t.volume ≡ Some k → (head : ℕ) → head < 19 → block_at d (on_cartridge k t.cylinder head) ≡ block_at c (on_cartridge k t.cylinder head))
      → IsServed c rows task → IsServed d now task
  served_stays c d task frame request transfer same framed carried served t k at is = elim (by_volume t.volume) [
    | inl e ↦
        let o : q ≡ k = some_is q k (sym here ∙ ap now (sym e) ∙ is) in
        let old : rows t.volume ≡ Some r = ap rows e ∙ there in
        subst (λ (z : RowValue). AreCopied t.kind task.touched d z t.cylinder t.next) o
        (copied_same t.kind task.touched task.touched c d r q t.cylinder t.next (transfer t at).upto (same t at e) (λ u. u) (framed t r at old) (carried t r at old) (served t r at old))
    | inr e ↦
        let old : rows t.volume ≡ Some k = sym e ∙ is in
        copied_same t.kind task.touched task.touched c d k k t.cylinder t.next (transfer t at).upto (same_for k t.cylinder) (λ u. u) (framed t k at old) (carried t k at old) (served t k at old)
  ]
