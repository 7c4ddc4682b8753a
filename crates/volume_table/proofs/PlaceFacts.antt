-- Rows that stand in the places of their volumes.
use Rattle.std.proofs.Common.{◌≡◌, ℕ, zero, suc, ◌<◌, inl, inr, List, [], ◌∷◌, ◌++◌, set, Option, Some, None, refl, sym, ◌∙◌, ap, subst, arith}
use Rattle.std.specs.Prelude.{IfSome}
use Rattle.std.proofs.lemmas.Bool.{cases_lt}
use Rattle.std.proofs.lemmas.List.{length-set, get_or-set_same, get_or-set_other}
use Rattle.volume_table.specs.Row.{RowValue, IsRow}
use Rattle.volume_table.specs.Listed.{AreAllRows, row_in_list}

some_row : (o : Option RowValue) (r : RowValue) → IfSome o IsRow → o ≡ Some r → IsRow r
some_row None r is e = absurd cc
some_row (Some s) r is e = let same : s ≡ r = cc in subst IsRow same is

-- what is put into a place is a row, if it is anything
pub placed : (rows : List (Option RowValue)) (volume : ℕ) (o : Option RowValue) → AreAllRows rows → volume < 32 → IfSome o IsRow → AreAllRows (set rows volume o)
placed rows volume o are low is = record {
  places = length-set rows volume o ∙ are.places;
  are_rows = λ v r at. elim (cases_lt v volume) [
    | inl lt ↦ are.are_rows v r (sym (get_or-set_other rows volume v o None (λ e. omega (arith, e, lt))) ∙ at)
    | inr le ↦ elim (cases_lt volume v) [
      | inl lt ↦ are.are_rows v r (sym (get_or-set_other rows volume v o None (λ e. omega (arith, e, lt))) ∙ at)
      | inr ge ↦
          let e : volume ≡ v = omega (arith, le, ge) in
          let here : row_in_list (set rows volume o) volume ≡ o = get_or-set_same rows volume o None (omega (arith, low, are.places)) in
          some_row o r is (sym here ∙ ap (row_in_list (set rows volume o)) e ∙ at)
    ]
  ];
}

-- a further place, in which nothing stands
pub none_behind : (rows : List (Option RowValue)) → ((volume : ℕ) → row_in_list rows volume ≡ None) → (volume : ℕ) → row_in_list (rows ++ None ∷ []) volume ≡ None
none_behind [] none zero = refl
none_behind [] none (suc volume) = refl
none_behind (r ∷ rows) none zero = none zero
none_behind (r ∷ rows) none (suc volume) = none_behind rows (λ v. none (suc v)) volume
