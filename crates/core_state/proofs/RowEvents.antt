-- A core whose row changes, with its message.
use Rattle.std.proofs.Common.{◌≡◌, ◌≢◌, inl, inr, ℕ, ◌<◌, Bool, true, false, cond, ◌&&◌, ◌==◌, nat_lt, List, [], ◌∷◌, ◌++◌, length, Option, Some, None, refl, sym, ◌∙◌, ap, subst, arith, get_or-set_same, get_or-set_other}
use Rattle.std.specs.Prelude.{slice_set}
use Rattle.std.specs.Option.{option_map}
use Rattle.std.proofs.Math.Path.{fun_ext}
use Rattle.std.proofs.lemmas.Bool.{cond-true, cond-false, lt-ltb}
use Rattle.std.proofs.lemmas.Bool.Decides.{eqb_tells}
use Rattle.mss_base.specs.Content.{SiteLog, content, Writes}
use Rattle.mss_base.specs.declared.place.UnitNo.{UnitNo}
use Rattle.mss_base.specs.declared.place.UnitNo.TheVariants.{TableA, TableB}
use Rattle.mss_base.proofs.Moments.{ended_with}
use Rattle.volume_table.specs.Row.{RowValue}
use Rattle.volume_table.specs.Changes.{effect}
use Rattle.volume_table.specs.declared.changes.Change.{Change}
use Rattle.table_pair.specs.declared.copy.SlotsUsed.{SlotsUsed}
use Rattle.table_pair.specs.Copies.{copy_at}
use Rattle.table_pair.specs.Slots.{AreUsed, HasSlots, IsChanged, no_slots, used_after, used_at, with_used_after}
use Rattle.table_pair.specs.Pair.{HoldsRow, IsOpenWith, row_of_copies, is_table, ChangesRow, OldOrNew}
use Rattle.table_pair.proofs.PairFacts.{held_row}
use Rattle.shown_volumes.specs.Shown.{RowsOf, told_row, rows_of, volumes_shown}
use Rattle.shown_volumes.specs.Changing.{MayWriteRow, StillShows}
use Rattle.shown_volumes.proofs.QuietFacts.{quiet_settled, row_moments}
use Rattle.core_state.specs.declared.session.Message.{Message}
use Rattle.core_state.specs.declared.task.Task.{Task}
use Rattle.core_state.specs.CoreValue.{CoreValue}
use Rattle.volume_table.specs.Listed.{row_in_list}
use Rattle.core_state.specs.IsCore.{IsCore, IsTold, IsGoing, KeepsCopies}
use Rattle.core_state.specs.Served.{AreServed}
use Rattle.core_state.specs.Entered.{with_used, core_after_work}
use Rattle.core_state.specs.Agrees.{with_change, changed_row, is_early, IsAllowedIn, message_of}
use Rattle.core_state.proofs.ChangeLemmas.{told_change}
use Rattle.fault_queue.specs.Requests.{RequestsData}

-- the rows with another one of a volume
pub row_set : (rows : List (Option RowValue)) (volume : ℕ) (q : RowValue) → volume < length rows → (w : ℕ) → row_in_list (slice_set rows volume (Some q)) w ≡ cond (w == volume) (Some q) (row_in_list rows w)
row_set rows volume q low w = elim (eqb_tells w volume) [
  | inl e ↦ rw (e.0, e.1) (get_or-set_same rows volume (Some q) None low)
  | inr e ↦ rw e.0 (get_or-set_other rows volume w (Some q) None e.1)
]

pub row_put : (rows : List (Option RowValue)) (volume : ℕ) (q : RowValue) → volume < length rows → row_in_list (slice_set rows volume (Some q)) volume ≡ Some q
row_put rows volume q low = get_or-set_same rows volume (Some q) None low

pub row_left : (rows : List (Option RowValue)) (volume : ℕ) (q : RowValue) (w : ℕ) → w ≢ volume → row_in_list (slice_set rows volume (Some q)) w ≡ row_in_list rows w
row_left rows volume q w other = get_or-set_other rows volume w (Some q) None other

pub turned : (volume w : ℕ) → (w == volume) ≡ false → (volume == w) ≡ false
turned volume w other = elim (eqb_tells volume w) [
  | inl e ↦ absurd (elim (eqb_tells w volume) [ inl f ↦ (let z : true ≡ false = sym f.0 ∙ other in cc) | inr f ↦ f.1 (sym e.1) ])
  | inr e ↦ e.0
]

module _ (S : Type 0) {C : Type 0} (s t : SiteLog) (v : CoreValue S C) (x : S) (core : IsCore v) (told : IsTold s v) (open_ : v.stopped ≡ None)
    (volume mark : ℕ) (change : Change) (r : RowValue) (there : row_in_list v.rows volume ≡ Some r) (low : volume < 32)
    (simple : (o : Option RowValue) → changed_row change o ≡ option_map (effect change) o)
    (late_change : is_early change ≡ false)
    (allowed : IsAllowedIn (row_in_list v.rows) volume change (Some r))
    (may : MayWriteRow v.config.frames volume (effect change r) s)
    (writes : Writes (ChangesRow volume (OldOrNew volume (effect change r) (content s)) (content s)) s t)
    (after : IsChanged (effect change r) (used_after (used_at v.used volume)) volume s t) (at_end : mark ≡ length t.log) (grows : length s.log < length t.log)
    (owners : List (Option (ℕ × ℕ))) (moving : List Bool) (requests : RequestsData) (tasks : List (Option Task))
    (served : AreServed (content t) (row_in_list (slice_set v.rows volume (Some (effect change r)))) tasks) where
  abbrev new : RowValue
  new = effect change r

  abbrev m : Message
  m = message_of mark volume change (row_in_list v.rows)

  going : IsGoing s v
  going = told.going open_

  fits : volume < length v.rows
  fits = let p = core.places in omega (arith, p)

  last : ChangesRow volume (OldOrNew volume new (content s)) (content s) (content t)
  last = ended_with (ChangesRow volume (OldOrNew volume new (content s)) (content s)) s t writes

  still : Writes (StillShows v.config.frames (volumes_shown (content s)) s) s t
  still = row_moments v.config.frames volume new s t may writes

  rows_at_ : (w : ℕ) → rows_of (content t) w ≡ row_in_list (slice_set v.rows volume (Some new)) w
  rows_at_ w = elim (eqb_tells w volume) [
    | inl e ↦ ap (rows_of (content t)) e.1 ∙ cond-true _ _ _ (lt-ltb volume 32 low) ∙ ap told_row (held_row new volume (content t) after.holds) ∙ sym (row_set v.rows volume new fits w ∙ cond-true _ _ _ e.0)
    | inr e ↦
        let other = turned volume w e.0 in
        (λ i. cond (nat_lt w 32) (told_row (row_of_copies (copy_at (last.others TableA w other i)) (copy_at (last.others TableB w other i)))) None)
        ∙ ap (λ (rows : RowsOf). rows w) going.rows_ ∙ sym (row_set v.rows volume new fits w ∙ cond-false _ _ _ e.0)
  ]

  copies_ : (w : ℕ) (q : RowValue) → row_in_list (slice_set v.rows volume (Some new)) w ≡ Some q → HoldsRow q w (content t)
  copies_ w q is = elim (eqb_tells w volume) [
    | inl e ↦
        let o : Some new ≡ Some q = sym (row_set v.rows volume new fits w ∙ cond-true _ _ _ e.0) ∙ is in
        let same : new ≡ q = cc in
        subst (λ (z : ℕ). HoldsRow q z (content t)) (sym e.1) (subst (λ (y : RowValue). HoldsRow y volume (content t)) same after.holds)
    | inr e ↦
        let other = turned volume w e.0 in
        let h = going.copies w q (sym (row_set v.rows volume new fits w ∙ cond-false _ _ _ e.0) ∙ is) in
        record {
          a = subst (λ (y : List ℕ). IsOpenWith q (copy_at y)) (sym (last.others TableA w other)) h.a;
          b = subst (λ (y : List ℕ). IsOpenWith q (copy_at y)) (sym (last.others TableB w other)) h.b;
        }
  ]

  listed_ : volume < length v.used
  listed_ = let p = core.used_ in omega (arith, p)

  slots_at : AreUsed (with_used_after volume v.used) (content t)
  slots_at w below = elim (eqb_tells w volume) [
    | inl e ↦
        let now : used_at (with_used_after volume v.used) volume ≡ used_after (used_at v.used volume) = get_or-set_same v.used volume (used_after (used_at v.used volume)) no_slots listed_ in
        subst (λ (z : ℕ). HasSlots (used_at (with_used_after volume v.used) z) z (content t)) (sym e.1) (subst (λ (u : SlotsUsed). HasSlots u volume (content t)) (sym now) after.slots_)
    | inr e ↦
        let other = turned volume w e.0 in
        let still : used_at (with_used_after volume v.used) w ≡ used_at v.used w = get_or-set_other v.used volume w (used_after (used_at v.used volume)) no_slots e.1 in
        let has = going.slots_ w below in
        subst (λ (u : SlotsUsed). HasSlots u w (content t)) (sym still) (record {
          a = ap (λ (y : List ℕ). length (copy_at y).slots) (last.others TableA w other) ∙ has.a;
          b = ap (λ (y : List ℕ). length (copy_at y).slots) (last.others TableB w other) ∙ has.b;
        })
  ]

  changes_at : (w : ℕ) → with_change (row_in_list v.rows) m w ≡ row_in_list (slice_set v.rows volume (Some new)) w
  changes_at w = elim (eqb_tells w volume) [
    | inl e ↦ cond-true _ _ _ e.0 ∙ simple (row_in_list v.rows w) ∙ ap (option_map (effect change)) (ap (row_in_list v.rows) e.1 ∙ there) ∙ sym (row_set v.rows volume new fits w ∙ cond-true _ _ _ e.0)
    | inr e ↦ cond-false _ _ _ e.0 ∙ sym (row_set v.rows volume new fits w ∙ cond-false _ _ _ e.0)
  ]

  -- a volume without a row had none, and its copies stay
  rest_ : (w : ℕ) → row_in_list (slice_set v.rows volume (Some new)) w ≡ None → (row_in_list v.rows w ≡ None) × KeepsCopies w (content s) (content t)
  rest_ w none = elim (eqb_tells w volume) [
    | inl e ↦ absurd (let o : Some new ≡ None = sym (row_set v.rows volume new fits w ∙ cond-true _ _ _ e.0) ∙ none in cc)
    | inr e ↦ (
      sym (row_set v.rows volume new fits w ∙ cond-false _ _ _ e.0) ∙ none,
      λ unit table. last.others unit w (ap (λ (b : Bool). b && (volume == w)) table ∙ turned volume w e.0),
    )
  ]

  pub told_by_change : IsTold t (core_after_work (with_used (with_used_after volume v.used) v) x (slice_set v.rows volume (Some (effect change r)))
      (v.console ++ (message_of mark volume change (row_in_list v.rows)) ∷ []) owners moving requests tasks)
  told_by_change =
      told_change S s t v x (slice_set v.rows volume (Some new)) m told open_ core.marked
      still (quiet_settled s t after.firm (ended_with (StillShows v.config.frames (volumes_shown (content s)) s) s t still).1) at_end grows late_change
      (subst (λ (o : Option RowValue). IsAllowedIn (row_in_list v.rows) volume change o) (sym there) allowed, refl)
      (fun_ext changes_at) (fun_ext rows_at_) copies_ (with_used_after volume v.used) slots_at owners moving requests tasks served rest_

  -- blocks that are no table's stay
  pub blocks_stay : (unit : UnitNo) (block : ℕ) → is_table unit ≡ false → content t unit block ≡ content s unit block
  blocks_stay unit block none = last.others unit block (ap (λ (b : Bool). b && (volume == block)) none)
