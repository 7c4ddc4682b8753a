-- That copy A is written before copy B.
use Rattle.std.proofs.Common.{◌≡◌, inl, inr, ℕ, ◌+◌, ◌≤◌, ◌<◌, nat_lt, List, refl, sym, ◌∙◌, subst}
use Rattle.std.proofs.lemmas.Bool.{cond-true, cond-false, lt-ltb, le-ltb}
use Rattle.mss_base.specs.Content.{Content, SiteLog, content, Settles, Writes, ChangesBlock}
use Rattle.mss_base.specs.declared.place.UnitNo.TheVariants.{TableA, TableB}
use Rattle.mss_base.proofs.Moments.{then_firm, weaker}
use Rattle.volume_table.specs.Row.{RowValue}
use Rattle.table_pair.specs.declared.copy.TableCopy.TheVariants as copy
use Rattle.table_pair.specs.Places.{place_of}
use Rattle.table_pair.specs.Copies.{CopyView, copy_at, WritesCopy}
use Rattle.table_pair.specs.Pair.{IsOpenWith}
use Rattle.table_pair.specs.Order.{IsADone, IsAFirst, WritesAFirst}
use Rattle.table_pair.specs.Slots.{copy_items}
use Rattle.table_pair.proofs.PairLemmas.{copy_a, block_a_kept}

-- while one copy is written, the block of the other one stays
module _ (volume : ℕ) (P : CopyView → Type 0) (R : Content → Type 0) (s t : SiteLog) where
  pub while_a : ((c : Content) → P (copy_at (c TableA volume)) → c TableB volume ≡ content s TableB volume → R c) → WritesCopy (place_of copy.A volume) P s t → Writes R s t
  while_a give w = weaker (ChangesBlock TableA volume (λ block. P (copy_at block)) (content s)) R (λ c has. give c has.here (has.others TableB volume refl)) s t w

  pub while_b : ((c : Content) → P (copy_at (c TableB volume)) → c TableA volume ≡ content s TableA volume → R c) → WritesCopy (place_of copy.B volume) P s t → Writes R s t
  while_b give w = weaker (ChangesBlock TableB volume (λ block. P (copy_at block)) (content s)) R (λ c has. give c has.here (has.others TableA volume refl)) s t w

-- copy A that is open with the row is done where copy B alone is written
pub done_by : (row : RowValue) (volume : ℕ) (Q : CopyView → Type 0) (t u : SiteLog) → IsOpenWith row (copy_a volume t) → WritesCopy (place_of copy.B volume) Q t u
    → (c : Content) → c TableA volume ≡ content t TableA volume → IsADone row volume (content u) c
done_by row volume Q t u holds second c same = record {
  holds = subst (λ (block : List ℕ). IsOpenWith row (copy_at block)) (sym same) holds;
  last = same ∙ sym (block_a_kept volume Q t u second);
}

module _ (row : RowValue) (volume : ℕ) (P : CopyView → Type 0) (s t : SiteLog) (first : WritesCopy (place_of copy.A volume) P s t) where
  -- copy A alone was written
  pub order_a : WritesAFirst row volume s t
  order_a = while_a volume P (IsAFirst row volume (content s) (content t)) s t (λ c has same. inl same) first

  -- and then copy B
  pub order_b : (Q : CopyView → Type 0) (u : SiteLog) → Settles s t → IsOpenWith row (copy_a volume t) → WritesCopy (place_of copy.B volume) Q t u → WritesAFirst row volume s u
  order_b Q u firm holds second = then_firm (IsAFirst row volume (content s) (content u)) s t u firm
      (while_a volume P (IsAFirst row volume (content s) (content u)) s t (λ c has same. inl same) first)
      (while_b volume Q (IsAFirst row volume (content s) (content u)) t u (λ c has same. inr (done_by row volume Q t u holds second c same)) second)

-- how many items a change of a copy makes, where a slot is free and where none is
pub few_of_slot : (used n m : ℕ) → used < 1984 → n ≤ m + 4 → n ≤ m + copy_items used
few_of_slot used n m free le = subst (λ (k : ℕ). n ≤ m + k) (sym (cond-true (nat_lt used 1984) 4 7 (lt-ltb used 1984 free))) le

pub few_of_rewriting : (used n m : ℕ) → 1984 ≤ used → n ≤ m + 7 → n ≤ m + copy_items used
few_of_rewriting used n m full le = subst (λ (k : ℕ). n ≤ m + k) (sym (cond-false (nat_lt used 1984) 4 7 (le-ltb used 1984 full))) le
