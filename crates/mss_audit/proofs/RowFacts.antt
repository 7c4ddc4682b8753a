-- The rows that an audit read.
use Rattle.std.proofs.Common.{◌≡◌, inl, inr, ℕ, ◌+◌, ◌<◌, List, length, set, Option, None, sym, ◌∙◌, ap, arith}
use Rattle.std.proofs.lemmas.Bool.{cases_lt, cond-true, cond-false, lt-ltb, le-ltb}
use Rattle.std.proofs.lemmas.List.{get_or-set_same, get_or-set_other, get_or_past}
use Rattle.mss_base.specs.Content.{Content, SiteLog, content}
use Rattle.volume_table.specs.Row.{RowValue}
use Rattle.volume_table.specs.Listed.{row_in_list}
use Rattle.table_pair.specs.Pair.{row_of}
use Rattle.shown_volumes.specs.Shown.{told_row, rows_of}

-- the rows of the first volumes are those of the content
abbrev pub AreSoFar : ℕ → Content → List (Option RowValue) → Type 0
AreSoFar n c rows = (volume : ℕ) → volume < n → row_in_list rows volume ≡ told_row (row_of c volume)

pub none_so_far : (c : Content) (rows : List (Option RowValue)) → AreSoFar 0 c rows
none_so_far c rows volume lt = absurd (omega arith)

pub one_so_far : (n at : ℕ) (c : Content) (rows next : List (Option RowValue)) (row : Option RowValue) → length rows ≡ 32 → n < 32 → at ≡ n → AreSoFar n c rows
    → next ≡ set rows at row → row ≡ told_row (row_of c at) → AreSoFar (n + 1) c next
one_so_far n at c rows next row long few same before put is volume lt = elim (cases_lt volume n) [
  | inl less ↦ ap (λ l. row_in_list l volume) put ∙ get_or-set_other rows at volume row None (λ e. omega (arith, e, same, less)) ∙ before volume less
  | inr from ↦
      let e : volume ≡ at = omega (arith, from, lt, same) in
      (λ i. row_in_list (put i) (e i)) ∙ get_or-set_same rows at row None (omega (arith, few, long, same)) ∙ is ∙ ap (λ v. told_row (row_of c v)) (sym e)
]

-- a row over a log that stayed
pub same_row : (now begun : SiteLog) (volume : ℕ) → now ≡ begun → told_row (row_of (content now) volume) ≡ told_row (row_of (content begun) volume)
same_row now begun volume same = ap (λ (log : SiteLog). told_row (row_of (content log) volume)) same

pub all_so_far : (c : Content) (rows : List (Option RowValue)) → length rows ≡ 32 → AreSoFar 32 c rows → row_in_list rows ≡ rows_of c
all_so_far c rows long each = λ i volume. at volume i
  where
    at : (volume : ℕ) → row_in_list rows volume ≡ rows_of c volume
    at volume = elim (cases_lt volume 32) [
      | inl low ↦ each volume low ∙ sym (cond-true _ _ _ (lt-ltb volume 32 low))
      | inr past ↦ get_or_past rows volume None (omega (arith, long, past)) ∙ sym (cond-false _ _ _ (le-ltb volume 32 past))
    ]
