-- One creation.
use Rattle.std.proofs.Common.{◌≡◌, ◌≢◌, inl, inr, ℕ, ◌<◌, ◌==◌, Bool, true, false, List, length, set, Option, Some, None, Result, Ok, Err, sym, ◌∙◌, ap, arith}
use Rattle.std.specs.Option.{option_map}
use Rattle.std.proofs.lemmas.Bool.{cases_Bool, eqb-true, eq-eqb, ne_eqb}
use Rattle.std.proofs.lemmas.List.{get_or-set_same, get_or-set_other}
use Rattle.mss_base.specs.Content.{Content}
use Rattle.mss_base.specs.declared.place.UnitNo.TheVariants.{TableA, TableB}
use Rattle.volume_table.specs.Row.{RowValue}
use Rattle.volume_table.specs.declared.fault.RowFault.{RowFault}
use Rattle.table_pair.specs.declared.copy.TableCopy.{TableCopy}
use Rattle.table_pair.specs.declared.copy.TableCopy.TheVariants as copy
use Rattle.table_pair.specs.Copies.{CopyView, copy_at}
use Rattle.table_pair.specs.Pair.{known, reading, read_of, row_told, copy_reading, row_of, row_of_copies, AreClosed, HoldsRow, ChangesRow}
use Rattle.table_pair.proofs.PairFacts.{open_read, closed_read, held_row}
use Rattle.shown_volumes.specs.Shown.{RowsOf, told_row, rows_of}
use Rattle.shown_volumes.specs.Sound.{cartridge_of}
use Rattle.mss_base.specs.Firsts.{first_below, where_so}
use Rattle.shown_volumes.specs.Faults.{is_number, half, half_with}
use Rattle.shown_volumes.specs.Changing.{IsFresh}
use Rattle.mss_base.proofs.FirstFacts.{or_none, none_below, none_where, none_is}
use Rattle.shown_volumes.proofs.WalkFacts.{is_that_number}
use Rattle.shown_volumes.proofs.FaultFacts.{few_rows, row_in}
use Rattle.volume_table.specs.Listed.{row_in_list}
use Rattle.mss_restart.specs.Cartridges.{is_named, IsLowestFree}
use Rattle.mss_restart.specs.Opening.{RowsAre}

taken_none : (which : TableCopy) (read : Result RowValue RowFault) → copy_reading which false read ≡ known None false → ⊥
taken_none which (Ok row) is = cc
taken_none which (Err fault) is = cc

-- copies that tell that there is no row are closed
none_closed : (a b : CopyView) → row_of_copies a b ≡ known None false → (a.is_open ≡ false) × (b.is_open ≡ false)
none_closed a b is = elim (cases_Bool a.is_open) [
  | inl open_a ↦ absurd (taken_none copy.A (row_told a) (sym (ap (λ r. reading r (read_of b)) (open_read a open_a)) ∙ is))
  | inr shut_a ↦ elim (cases_Bool b.is_open) [
    | inl open_b ↦ absurd (taken_none copy.B (row_told b) (sym (λ i. reading (closed_read a shut_a i) (open_read b open_b i)) ∙ is))
    | inr shut_b ↦ (shut_a, shut_b)
  ]
]

pub are_closed : (volume : ℕ) (c : Content) → row_of c volume ≡ known None false → AreClosed volume c
are_closed volume c is = let both = none_closed (copy_at (c TableA volume)) (copy_at (c TableB volume)) is in record { a = both.0; b = both.1 }

-- a half's cartridge is named
pub named_from : (rows : RowsOf) (v : ℕ) (s : Bool) (n : ℕ) → v < 32 → cartridge_of rows v s ≡ Some n → is_named rows n ≡ true
named_from rows v s n low is = elim (cases_Bool (is_named rows n)) [
  | inl named ↦ named
  | inr not_named ↦
      let none = none_below 32 (half_with rows n) (none_is (first_below 32 (half_with rows n)) not_named) v low in
      let parts = or_none (where_so (is_number (cartridge_of rows v false) n) (half v false)) (where_so (is_number (cartridge_of rows v true) n) (half v true)) none in
      absurd (clash s parts.0 parts.1 is)
]
  where
    clash : (b : Bool) → where_so (is_number (cartridge_of rows v false) n) (half v false) ≡ None → where_so (is_number (cartridge_of rows v true) n) (half v true) ≡ None → cartridge_of rows v b ≡ Some n → ⊥
    clash false one two at = let no = none_where (is_number (cartridge_of rows v false) n) (half v false) one in let yes = is_that_number (cartridge_of rows v false) n at in cc
    clash true one two at = let no = none_where (is_number (cartridge_of rows v true) n) (half v true) two in let yes = is_that_number (cartridge_of rows v true) n at in cc

module _ (rows : List (Option RowValue)) (c : Content) (are : RowsAre rows c) where
  row_there : (v : ℕ) → v < 32 → rows_of c v ≡ row_in_list rows v
  row_there v low = row_in (row_of c) v low ∙ ap told_row (are v low)

  module _ (volume first second : ℕ) (low : volume < 32) (none : row_in_list rows volume ≡ None) (one : IsLowestFree (row_in_list rows) None first) (two : IsLowestFree (row_in_list rows) (Some first) second) where
    unnamed : (n : ℕ) → (is_named (row_in_list rows) n ≡ true → ⊥) → (v : ℕ) (r : RowValue) → rows_of c v ≡ Some r → (r.first ≢ n) × (r.second ≢ n)
    unnamed n free v r is =
        let v_low = few_rows (row_of c) v r is in
        let at : row_in_list rows v ≡ Some r = sym (row_there v v_low) ∙ is in (
          λ same. free (named_from (row_in_list rows) v false n v_low (ap (λ (o : Option RowValue). option_map (λ q. q.first) o) at ∙ ap (λ (m : ℕ). Some m) same)),
          λ same. free (named_from (row_in_list rows) v true n v_low (ap (λ (o : Option RowValue). option_map (λ q. q.second) o) at ∙ ap (λ (m : ℕ). Some m) same)),
        )

    pub is_fresh : IsFresh volume first second c
    is_fresh = record {
      low = low;
      none = row_there volume low ∙ none;
      apart = λ same. two.untaken (ap (λ (m : ℕ). Some m) same);
      unnamed = λ v r is. let a = unnamed first one.free v r is in let b = unnamed second two.free v r is in (a.0, a.1, b.0, b.1);
    }

-- the rows with the new one
pub rows_with : (rows : List (Option RowValue)) (c d : Content) (volume : ℕ) (row : RowValue) (P : Content → Type 0) → RowsAre rows c → length rows ≡ 32 → volume < 32 → ChangesRow volume P c d → HoldsRow row volume d
    → RowsAre (set rows volume (Some row)) d
rows_with rows c d volume row P are long low within holds v v_low = elim (cases_Bool (v == volume)) [
  | inl same ↦
      let e : v ≡ volume = eqb-true v volume same in
      ap (row_of d) e ∙ held_row row volume d holds ∙ ap (λ (o : Option RowValue). known o false) (sym (get_or-set_same rows volume (Some row) None (omega (arith, long, low))))
      ∙ ap (λ (x : ℕ). known (row_in_list (set rows volume (Some row)) x) false) (sym e)
  | inr other ↦
      let apart : volume ≢ v = λ e. let yes = eq-eqb v volume (sym e) in cc in
      let off = ne_eqb volume v apart in
      (λ i. row_of_copies (copy_at (within.others TableA v off i)) (copy_at (within.others TableB v off i))) ∙ are v v_low
      ∙ ap (λ (o : Option RowValue). known o false) (sym (get_or-set_other rows volume v (Some row) None (λ e. apart (sym e))))
]
