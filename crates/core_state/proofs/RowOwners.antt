-- The rows of a core with another row of one volume.
use Rattle.std.proofs.Common.{◌≡◌, inl, inr, ℕ, ◌<◌, Some, None, sym, ◌∙◌, ap, subst, arith}
use Rattle.std.specs.Prelude.{slice_set}
use Rattle.std.proofs.lemmas.Bool.Decides.{eqb_tells}
use Rattle.std.proofs.lemmas.Bool.{cases_lt}
use Rattle.std.proofs.lemmas.List.{length-set, get_or_past}
use Rattle.volume_table.specs.Row.{RowValue, IsRow}
use Rattle.volume_table.specs.Changes.{with_state}
use Rattle.core_state.specs.CoreValue.{CoreValue}
use Rattle.volume_table.specs.Listed.{row_in_list}
use Rattle.core_state.specs.IsCore.{IsCore}
use Rattle.core_state.proofs.RuleWalks.{some_is}
use Rattle.core_state.proofs.CoreWork.{AreOwned}
use Rattle.core_state.proofs.RowEvents.{row_put, row_left}
use Rattle.core_state.proofs.Others.{state_frames}

-- each row is one, where the new one is
pub rows_put : (S : Type 0) {C : Type 0} (v : CoreValue S C) → IsCore v → (volume : ℕ) (q : RowValue) → volume < 32 → IsRow q → (w : ℕ) (k : RowValue) → row_in_list (slice_set v.rows volume (Some q)) w ≡ Some k → IsRow k
rows_put S v core volume q low row w k is = elim (eqb_tells w volume) [
  | inl e ↦ subst IsRow (some_is q k (sym (ap (row_in_list (slice_set v.rows volume (Some q))) e.1 ∙ row_put v.rows volume q (let p = core.places in omega (arith, p))) ∙ is)) row
  | inr e ↦ core.are_rows w k (sym (row_left v.rows volume q w e.1) ∙ is)
]

-- where states alone change, owners and rows agree
pub owned_states : (S : Type 0) {C : Type 0} (v : CoreValue S C) (core : IsCore v) (volume y state : ℕ) (r : RowValue) (there : row_in_list v.rows volume ≡ Some r) → volume < 32 → IsRow (with_state y state r)
    → AreOwned v.config.frames (slice_set v.rows volume (Some (with_state y state r))) v.owners
owned_states S v core volume y state r there low row = record {
  places = length-set v.rows volume (Some (with_state y state r)) ∙ core.places;
  are_rows = rows_put S v core volume (with_state y state r) low row;
  owners_ = core.owners_;
  framed = λ w page frame is. core.framed w page frame (sym (state_frames S v core volume y state r there low w page) ∙ is);
  owned = λ frame w page in_. (
    (λ is. state_frames S v core volume y state r there low w page ∙ (core.owned frame w page in_).0 is),
    (λ is. (core.owned frame w page in_).1 (sym (state_frames S v core volume y state r there low w page) ∙ is)),
  );
}

-- the row of a volume that is there is one of 32
pub listed_low : (S : Type 0) {C : Type 0} (v : CoreValue S C) → IsCore v → (volume : ℕ) (r : RowValue) → row_in_list v.rows volume ≡ Some r → volume < 32
listed_low S v core volume r is = elim (cases_lt volume 32) [
  | inl lt ↦ lt
  | inr past ↦ let e : None ≡ Some r = sym (get_or_past v.rows volume None (let p = core.places in omega (arith, p))) ∙ is in absurd cc
]
