-- The moments of a change.
use Rattle.std.proofs.Common.{◌≡◌, ◌⊎◌, inl, inr, false, ℕ, Some, Result, Ok, refl, sym, ◌∙◌, ap, subst, length}
use Rattle.mss_base.specs.declared.place.UnitNo.TheVariants.{TableA}
use Rattle.mss_base.specs.Content.{SiteLog, content, Writes, ChangesBlock}
use Rattle.mss_base.proofs.Moments.{ended_with, weaker}
use Rattle.mss_base.proofs.Settling.{settles_then}
use Rattle.volume_table.specs.Row.{RowValue}
use Rattle.volume_table.specs.declared.changes.Change.{Change}
use Rattle.table_pair.specs.declared.copy.SlotsUsed.{SlotsUsed}
use Rattle.table_pair.specs.declared.copy.TableCopy.TheVariants as copy
use Rattle.table_pair.specs.Places.{place_of}
use Rattle.table_pair.specs.Copies.{CopyView, copy_at, WritesCopy}
use Rattle.table_pair.specs.Pair.{known, row_of_copies, ChangesRow, OldOrNew}
use Rattle.table_pair.specs.Order.{WritesAFirst}
use Rattle.table_pair.specs.Slots.{IsDue, IsChanged, slots_after, used_after}
use Rattle.table_pair.specs.Changing.{IsCopyDue, IsChanging, ChangesCopy}
use Rattle.table_pair.specs.Repairs.{KeepsMarks, NeedsNoRepair}
use Rattle.table_pair.proofs.PairFacts.{row_by_a, row_by_b}
use Rattle.table_pair.proofs.PairLemmas.{copy_a, copy_b, ChangesPair, InPair, kept_a, kept_b, from_a, from_b, pair_then, pair_row, held_settled}
use Rattle.table_pair.proofs.StayLemmas.{stays, stays_changing}
use Rattle.table_pair.proofs.OrderLemmas.{order_a, order_b}
use Rattle.table_pair.proofs.ChangingLemmas.{open_as}

-- two copies that tell the row of two others or this one, and have the marks of those
record MayTell (row : RowValue) (a b x y : CopyView) : Type 0 where
  told : (row_of_copies x y ≡ row_of_copies a b) ⊎ (row_of_copies x y ≡ known (Some row) false)
  made_a : x.is_made ≡ a.is_made
  made_b : y.is_made ≡ b.is_made

module _ {volume : ℕ} {change : Change} {row : RowValue} {used : SlotsUsed} (s : SiteLog) (due : IsDue volume change row used (content s)) where
  abbrev a : CopyView
  a = copy_a volume s

  abbrev b : CopyView
  b = copy_b volume s

  abbrev Pair : SiteLog → Type 0
  Pair t = Writes (ChangesPair volume (InPair a b (MayTell row a b)) (content s)) s t

  -- copy A while it is changed, copy B as before
  told_a : (x : CopyView) → IsChanging row a x → (row_of_copies x b ≡ row_of_copies a b) ⊎ (row_of_copies x b ≡ known (Some row) false)
  told_a x is = elim is.stage [
    | inl same ↦ inl (ap (λ (c : CopyView). row_of_copies c b) same)
    | inr other ↦ elim other [
      | inl closed ↦ inl (row_by_b due.old x b closed due.holds.b ∙ sym (row_by_a due.old a b due.holds.a))
      | inr new ↦ inr (row_by_a row x b new)
    ]
  ]

  pair_a : (t : SiteLog) → WritesCopy (place_of copy.A volume) (IsChanging row a) s t → Pair t
  pair_a t w = from_a volume (IsChanging row a) (InPair a b (MayTell row a b)) s t (λ x is. record {
    stays_a = stays_changing row a x is;
    stays_b = stays b;
    here = record { told = told_a x is; made_a = is.made; made_b = refl };
  }) w

  as_row : (t : SiteLog) → Pair t → Writes (ChangesRow volume (OldOrNew volume row (content s)) (content s)) s t
  as_row t pair = pair_row volume (MayTell row a b) (OldOrNew volume row (content s)) s t (λ c is. is.told) pair

  as_marks : (t : SiteLog) → Pair t → Writes (KeepsMarks volume (content s)) s t
  as_marks t pair =
      weaker (ChangesPair volume (InPair a b (MayTell row a b)) (content s)) (KeepsMarks volume (content s)) (λ c has. record { a = has.here.here.made_a; b = has.here.here.made_b }) s t pair

  pub moments_a : {T E : Type 0} {n : ℕ} {t : SiteLog} {r : Result T E} → ChangesCopy row n (place_of copy.A volume) s t r → Writes (ChangesRow volume (OldOrNew volume row (content s)) (content s)) s t
  moments_a {t = t} first = as_row t (pair_a t first.moments)

  pub marks_a : {T E : Type 0} {n : ℕ} {t : SiteLog} {r : Result T E} → ChangesCopy row n (place_of copy.A volume) s t r → Writes (KeepsMarks volume (content s)) s t
  marks_a {t = t} first = as_marks t (pair_a t first.moments)

  pub change_order_a : {T E : Type 0} {n : ℕ} {t : SiteLog} {r : Result T E} → ChangesCopy row n (place_of copy.A volume) s t r → WritesAFirst row volume s t
  change_order_a {t = t} first = order_a row volume (IsChanging row a) s t first.moments

  -- copy A is changed
  module _ {T E : Type 0} {t : SiteLog} {value : T} (first : ChangesCopy {T = T} {E = E} row (slots_after used.a) (place_of copy.A volume) s t (Ok value)) where
    b_kept : copy_b volume t ≡ b
    b_kept = kept_b volume (IsChanging row a) s t first.moments

    pub due_b : IsCopyDue change row used.b (copy_b volume t)
    due_b = subst (IsCopyDue change row used.b) (sym b_kept) (record { old = due.old; holds = due.holds.b; allowed = due.allowed; becomes = due.becomes; slots_ = due.slots_.b })

    -- copy B while it is changed
    within_b : (y : CopyView) → IsChanging row (copy_b volume t) y → InPair a b (MayTell row a b) (copy_a volume t) y
    within_b y is =
        let was = (ended_with (ChangesBlock TableA volume (λ block. IsChanging row a (copy_at block)) (content s)) s t first.moments).here in
        let now : IsChanging row b y = subst (λ (c : CopyView). IsChanging row c y) b_kept is in
        record {
          stays_a = stays_changing row a (copy_a volume t) was;
          stays_b = stays_changing row b y now;
          here = record { told = inr (row_by_a row (copy_a volume t) y first.done.holds); made_a = was.made; made_b = now.made };
        }

    pair_b : {n : ℕ} {u : SiteLog} {r : Result T E} → ChangesCopy row n (place_of copy.B volume) t u r → Pair u
    pair_b {u = u} second = pair_then volume (InPair a b (MayTell row a b)) s t u first.firm (pair_a t first.moments)
        (from_b volume (IsChanging row (copy_b volume t)) (InPair a b (MayTell row a b)) t u within_b second.moments)

    pub moments_b : {n : ℕ} {u : SiteLog} {r : Result T E} → ChangesCopy row n (place_of copy.B volume) t u r → Writes (ChangesRow volume (OldOrNew volume row (content s)) (content s)) s u
    moments_b {u = u} second = as_row u (pair_b second)

    pub marks_b : {n : ℕ} {u : SiteLog} {r : Result T E} → ChangesCopy row n (place_of copy.B volume) t u r → Writes (KeepsMarks volume (content s)) s u
    marks_b {u = u} second = as_marks u (pair_b second)

    pub change_order_b : {n : ℕ} {u : SiteLog} {r : Result T E} → ChangesCopy row n (place_of copy.B volume) t u r → WritesAFirst row volume s u
    change_order_b {u = u} second = order_b row volume (IsChanging row a) s t first.moments (IsChanging row (copy_b volume t)) u first.firm first.done.holds second.moments

    pub is_changed : {u : SiteLog} {other : T} → ChangesCopy {T = T} {E = E} row (slots_after used.b) (place_of copy.B volume) t u (Ok other) → IsChanged row (used_after used) volume s u
    is_changed {u} second =
        let a_kept : copy_a volume u ≡ copy_a volume t = kept_a volume (IsChanging row (copy_b volume t)) t u second.moments in
        record {
          holds = record { a = open_as row (copy_a volume u) (copy_a volume t) a_kept first.done.holds; b = second.done.holds };
          slots_ = record { a = ap (λ (c : CopyView). length c.slots) a_kept ∙ first.done.slots_; b = second.done.slots_ };
          clear = record { a = λ none. inr (ap (λ (c : CopyView). c.is_clear) a_kept ∙ first.clear none); b = λ none. inr (second.clear none) };
          firm = settles_then s t u first.firm second.firm;
        }

-- a row that was changed needs no repair
pub changed_settled : {row : RowValue} {used : SlotsUsed} {volume : ℕ} {s t : SiteLog} → IsChanged row used volume s t → NeedsNoRepair volume (content t)
changed_settled {row} {volume = volume} {t = t} is = held_settled row volume (content t) is.holds
