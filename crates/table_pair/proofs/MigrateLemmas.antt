-- The moments of a migration.
use Rattle.std.proofs.Common.{◌≡◌, inl, inr, ℕ, Bool, false, List, length, Result, Ok, refl, sym, ◌∙◌, ap, subst}
use Rattle.mss_base.specs.declared.place.BlockPlace.{BlockPlace}
use Rattle.mss_base.specs.declared.place.UnitNo.TheVariants.{TableA}
use Rattle.mss_base.specs.Content.{SiteLog, content, Settles, Writes, ChangesBlock}
use Rattle.mss_base.proofs.Moments.{ended_with, weaker}
use Rattle.mss_base.proofs.Settling.{settles_none, settles_then}
use Rattle.volume_table.specs.Row.{RowValue}
use Rattle.volume_table.specs.Grammar.{body, decode, is_old, spelling}
use Rattle.volume_table.proofs.SpellingLemmas.{spelling_is_new}
use Rattle.table_pair.specs.declared.copy.SlotsUsed.{SlotsUsed}
use Rattle.table_pair.specs.declared.copy.TableCopy.TheVariants as copy
use Rattle.table_pair.specs.Places.{place_of}
use Rattle.table_pair.specs.Copies.{CopyView, copy_at, copy_on, filled_copy, IsRewriting, WritesCopy}
use Rattle.table_pair.specs.Changing.{IsChanging, IsCopyWith}
use Rattle.table_pair.specs.Migrating.{AreNew, IsCopyNew, MigratesCopy, IsMigrated}
use Rattle.table_pair.specs.Pair.{row_of_copies, HoldsRow, ChangesRow}
use Rattle.table_pair.specs.Repairs.{KeepsRow, KeepsMarks}
use Rattle.table_pair.specs.Order.{WritesAFirst}
use Rattle.table_pair.specs.Slots.{HasSlots}
use Rattle.table_pair.proofs.CopyLemmas.{spelled_of}
use Rattle.table_pair.proofs.PairFacts.{row_by_a, row_by_b}
use Rattle.table_pair.proofs.PairLemmas.{copy_a, copy_b, ChangesPair, InPair, kept_a, kept_b, block_a_kept, block_b_kept, from_a, from_b, pair_then, pair_row}
use Rattle.table_pair.proofs.StayLemmas.{stays, stays_changing}
use Rattle.table_pair.proofs.OrderLemmas.{order_a, order_b}
use Rattle.table_pair.proofs.WriteLemmas.{nothing_written}
use Rattle.table_pair.proofs.ChangingLemmas.{open_as, open_filled, rewrite_moments}

-- ---- of one copy

-- the version of a body that was read
pub version_read : (at : BlockPlace) (s : SiteLog) (block : List ℕ) (flag : Bool) → block ≡ content s at.unit at.block → flag ≡ is_old (body block) → is_old (copy_on s at).spelled ≡ flag
version_read at s block flag read is =
    ap (λ (b : List ℕ). is_old (copy_at b).spelled) (sym read) ∙ ap is_old (spelled_of block) ∙ sym is

module _ (row : RowValue) (at : BlockPlace) (s t : SiteLog) where
  -- nothing is written
  pub unwritten : t ≡ s → WritesCopy at (IsChanging row (copy_on s at)) s t
  unwritten same = nothing_written at (IsChanging row (copy_on s at)) s t same (record { made = refl; stage = inl refl })

  pub still_new : (used : ℕ) → t ≡ s → IsCopyWith row used (copy_on s at) → is_old (copy_on s at).spelled ≡ false → IsCopyNew row used (copy_on t at)
  still_new used same holds new = subst (λ (u : SiteLog). IsCopyNew row used (copy_on u at)) (sym same) (record { holds = holds; is_new = new })

  pub still_firm : t ≡ s → Settles s t
  still_firm same = subst (λ (u : SiteLog). Settles s u) (sym same) (settles_none s)

-- a copy is rewritten, after it was read
module _ (row : RowValue) (bytes : List ℕ) (spelled : bytes ≡ spelling row) (again : decode bytes ≡ Ok row) (at : BlockPlace) (s r t : SiteLog) (read : r ≡ s) where
  pub rewriting : WritesCopy at (IsRewriting bytes (copy_on r at)) r t → WritesCopy at (IsChanging row (copy_on s at)) s t
  rewriting w = subst (λ (q : SiteLog). WritesCopy at (IsChanging row (copy_on q at)) q t) read (rewrite_moments row bytes again at r t w)

  pub rewritten : copy_on t at ≡ filled_copy bytes (copy_on r at) → IsCopyNew row 0 (copy_on t at)
  rewritten done = record {
    holds = record {
      holds = open_as row (copy_on t at) (filled_copy bytes (copy_on r at)) done (open_filled row bytes (copy_on r at) again);
      slots_ = ap (λ (c : CopyView). length c.slots) done;
    };
    is_new = ap (λ (c : CopyView). is_old c.spelled) done ∙ ap is_old spelled ∙ spelling_is_new row;
  }

  pub firm_since : Settles r t → Settles s t
  firm_since firm = subst (λ (q : SiteLog). Settles q t) read firm

-- at a place that was told
pub migrates_at : {E : Type 0} {row : RowValue} {at p : BlockPlace} {s t : SiteLog} {r : Result ℕ E} → MigratesCopy row at s t r → at ≡ p → MigratesCopy row p s t r
migrates_at {E} {row} {s = s} {t = t} {r = r} migrates is = subst (λ (q : BlockPlace). MigratesCopy row q s t r) is migrates

pub with_at : {row : RowValue} {used : ℕ} (at p : BlockPlace) (s : SiteLog) → IsCopyWith row used (copy_on s p) → at ≡ p → IsCopyWith row used (copy_on s at)
with_at {row} {used} at p s holds is = subst (λ (q : BlockPlace). IsCopyWith row used (copy_on s q)) (sym is) holds

-- ---- of both copies

-- two copies that tell the row of two others, and have their marks
pub record Kept (a b x y : CopyView) : Type 0 where
  pub row : row_of_copies x y ≡ row_of_copies a b
  pub made_a : x.is_made ≡ a.is_made
  pub made_b : y.is_made ≡ b.is_made

module _ {volume : ℕ} {row : RowValue} (s : SiteLog) (held : HoldsRow row volume (content s)) where
  abbrev a : CopyView
  a = copy_a volume s

  abbrev b : CopyView
  b = copy_b volume s

  abbrev Pair : SiteLog → Type 0
  Pair t = Writes (ChangesPair volume (InPair a b (Kept a b)) (content s)) s t

  row_a : (x : CopyView) → IsChanging row a x → row_of_copies x b ≡ row_of_copies a b
  row_a x is = elim is.stage [
    | inl same ↦ ap (λ (c : CopyView). row_of_copies c b) same
    | inr other ↦ elim other [
      | inl closed ↦ row_by_b row x b closed held.b ∙ sym (row_by_a row a b held.a)
      | inr new ↦ row_by_a row x b new ∙ sym (row_by_a row a b held.a)
    ]
  ]

  pair_a : (t : SiteLog) → WritesCopy (place_of copy.A volume) (IsChanging row a) s t → Pair t
  pair_a t w = from_a volume (IsChanging row a) (InPair a b (Kept a b)) s t (λ x is. record {
    stays_a = stays_changing row a x is;
    stays_b = stays b;
    here = record { row = row_a x is; made_a = is.made; made_b = refl };
  }) w

  as_row : (t : SiteLog) → Pair t → Writes (ChangesRow volume (KeepsRow volume (content s)) (content s)) s t
  as_row t pair = pair_row volume (Kept a b) (KeepsRow volume (content s)) s t (λ c is. is.row) pair

  as_marks : (t : SiteLog) → Pair t → Writes (KeepsMarks volume (content s)) s t
  as_marks t pair = weaker (ChangesPair volume (InPair a b (Kept a b)) (content s)) (KeepsMarks volume (content s)) (λ c has. record { a = has.here.here.made_a; b = has.here.here.made_b }) s t pair

  pub moments_a : {E : Type 0} {t : SiteLog} {r : Result ℕ E} → MigratesCopy row (place_of copy.A volume) s t r → Writes (ChangesRow volume (KeepsRow volume (content s)) (content s)) s t
  moments_a {t = t} first = as_row t (pair_a t first.moments)

  pub marks_a : {E : Type 0} {t : SiteLog} {r : Result ℕ E} → MigratesCopy row (place_of copy.A volume) s t r → Writes (KeepsMarks volume (content s)) s t
  marks_a {t = t} first = as_marks t (pair_a t first.moments)

  pub migrate_order_a : {E : Type 0} {t : SiteLog} {r : Result ℕ E} → MigratesCopy row (place_of copy.A volume) s t r → WritesAFirst row volume s t
  migrate_order_a {t = t} first = order_a row volume (IsChanging row a) s t first.moments

  -- copy A is migrated
  module _ {E : Type 0} {t : SiteLog} {used_a : ℕ} (first : MigratesCopy {E = E} row (place_of copy.A volume) s t (Ok used_a)) where
    b_kept : copy_b volume t ≡ b
    b_kept = kept_b volume (IsChanging row a) s t first.moments

    pub holds_b : {used : SlotsUsed} → HasSlots used volume (content s) → IsCopyWith row used.b (copy_b volume t)
    holds_b {used} slots = subst (IsCopyWith row used.b) (sym b_kept) (record { holds = held.b; slots_ = slots.b })

    within_b : (y : CopyView) → IsChanging row (copy_b volume t) y → InPair a b (Kept a b) (copy_a volume t) y
    within_b y is =
        let was = (ended_with (ChangesBlock TableA volume (λ block. IsChanging row a (copy_at block)) (content s)) s t first.moments).here in
        let now : IsChanging row b y = subst (λ (c : CopyView). IsChanging row c y) b_kept is in
        record {
          stays_a = stays_changing row a (copy_a volume t) was;
          stays_b = stays_changing row b y now;
          here = record {
            row = row_by_a row (copy_a volume t) y first.done.holds.holds ∙ sym (row_by_a row a b held.a);
            made_a = was.made;
            made_b = now.made;
          };
        }

    pair_b : {u : SiteLog} {r : Result ℕ E} → MigratesCopy row (place_of copy.B volume) t u r → Pair u
    pair_b {u} second = pair_then volume (InPair a b (Kept a b)) s t u first.firm (pair_a t first.moments)
        (from_b volume (IsChanging row (copy_b volume t)) (InPair a b (Kept a b)) t u within_b second.moments)

    pub moments_b : {u : SiteLog} {r : Result ℕ E} → MigratesCopy row (place_of copy.B volume) t u r → Writes (ChangesRow volume (KeepsRow volume (content s)) (content s)) s u
    moments_b {u} second = as_row u (pair_b second)

    pub marks_b : {u : SiteLog} {r : Result ℕ E} → MigratesCopy row (place_of copy.B volume) t u r → Writes (KeepsMarks volume (content s)) s u
    marks_b {u} second = as_marks u (pair_b second)

    pub migrate_order_b : {u : SiteLog} {r : Result ℕ E} → MigratesCopy row (place_of copy.B volume) t u r → WritesAFirst row volume s u
    migrate_order_b {u} second = order_b row volume (IsChanging row a) s t first.moments (IsChanging row (copy_b volume t)) u first.firm first.done.holds.holds second.moments

    pub both_new : {u : SiteLog} {r : Result ℕ E} → MigratesCopy row (place_of copy.B volume) t u r → AreNew volume (content s) → u ≡ s
    both_new second new = second.untouched (ap (λ (c : CopyView). is_old c.spelled) b_kept ∙ new.b) ∙ first.untouched new.a

    pub is_migrated : {u : SiteLog} {used_b : ℕ} → MigratesCopy {E = E} row (place_of copy.B volume) t u (Ok used_b) → IsMigrated row (record { a = used_a; b = used_b }) volume s u
    is_migrated {u} second =
        let a_kept : copy_a volume u ≡ copy_a volume t = kept_a volume (IsChanging row (copy_b volume t)) t u second.moments in
        record {
          holds = record {
            holds = record { a = open_as row (copy_a volume u) (copy_a volume t) a_kept first.done.holds.holds; b = second.done.holds.holds };
            slots_ = record { a = ap (λ (c : CopyView). length c.slots) a_kept ∙ first.done.holds.slots_; b = second.done.holds.slots_ };
            clear = record {
              a = λ _. elim first.clear [
                | inl kept ↦ inl (block_a_kept volume (IsChanging row (copy_b volume t)) t u second.moments ∙ kept)
                | inr clear ↦ inr (ap (λ (c : CopyView). c.is_clear) a_kept ∙ clear)
              ];
              b = λ _. elim second.clear [
                | inl kept ↦ inl (kept ∙ block_b_kept volume (IsChanging row a) s t first.moments)
                | inr clear ↦ inr clear
              ];
            };
            firm = settles_then s t u first.firm second.firm;
          };
          are_new = record { a = ap (λ (c : CopyView). is_old c.spelled) a_kept ∙ first.done.is_new; b = second.done.is_new };
        }
