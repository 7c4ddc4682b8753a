-- Where the blocks of the table are the same, the rows are.
use Rattle.std.proofs.Common.{◌≡◌, ℕ, List, refl, sym, subst}
use Rattle.mss_base.specs.Content.{Content}
use Rattle.mss_base.specs.declared.place.UnitNo.TheVariants.{TableA, TableB}
use Rattle.volume_table.specs.Row.{RowValue}
use Rattle.table_pair.specs.Copies.{copy_at}
use Rattle.table_pair.specs.Pair.{row_of_copies, IsOpenWith, HoldsRow}
use Rattle.shown_volumes.specs.Shown.{rows_in, rows_of, SameTables}

module _ (c d : Content) (same : SameTables c d) where
  pub same_rows : rows_of d ≡ rows_of c
  same_rows = λ i. rows_in (λ volume. row_of_copies (copy_at (same TableA volume refl i)) (copy_at (same TableB volume refl i)))

  pub still_holds : (r : RowValue) (volume : ℕ) → HoldsRow r volume c → HoldsRow r volume d
  still_holds r volume holds = record {
    a = subst (λ (block : List ℕ). IsOpenWith r (copy_at block)) (sym (same TableA volume refl)) holds.a;
    b = subst (λ (block : List ℕ). IsOpenWith r (copy_at block)) (sym (same TableB volume refl)) holds.b;
  }
