-- The views of all seats, where the views of one or two are written.
use Rattle.std.proofs.Common.{◌≡◌, ◌≢◌, ℕ, zero, suc, List, [], ◌∷◌, ◌++◌, length, set, refl, sym, ◌∙◌, subst, ⊎_elim}
use mathlib.Core.Option.{some, some-ne-none}
use lib.ListN.{get_elem?}
use Rattle.atomic_table.proofs.Lists.{at_set, set_else}
use Rattle.seen_book.specs.declared.rule.View.{View}
use Rattle.seen_book.proofs.Fronts.{at_end}

pub set_there : {A : Type 0} (l : List A) (i : ℕ) (a b : A) → get_elem? l i ≡ some a → get_elem? (set l i b) i ≡ some b
set_there [] i a b e = absurd (some-ne-none a (sym e))
set_there (x ∷ xs) zero a b e = refl
set_there (x ∷ xs) (suc i) a b e = set_there xs i a b e

-- one view is written
pub fits_set : (P : ℕ → View → Type 0) (views : List View) (by : ℕ) (w : View)
    → ((j : ℕ) (u : View) → j ≢ by → get_elem? views j ≡ some u → P j u) → P by w
    → (j : ℕ) (u : View) → get_elem? (set views by w) j ≡ some u → P j u
fits_set P views by w others mine j u e =
    ⊎_elim
    (λ (x : (j ≡ by) × (w ≡ u)). subst (λ (y : ℕ × View). P y.0 y.1) (λ i. (sym x.0 i, x.1 i)) mine)
    (λ (x : (j ≢ by) × (get_elem? views j ≡ some u)). others j u x.0 x.1)
    (at_set views by j w u e)

-- one is written, and one is put last
pub fits_split : (P : ℕ → View → Type 0) (views : List View) (by : ℕ) (left right : View)
    → ((j : ℕ) (u : View) → j ≢ by → get_elem? views j ≡ some u → P j u)
    → P by left → P (length (set views by left)) right → (j : ℕ) (u : View)
    → get_elem? (set views by left ++ right ∷ []) j ≡ some u → P j u
fits_split P views by left right others mine new j u e =
    ⊎_elim
    (λ was. fits_set P views by left others mine j u was)
    (λ (x : (j ≡ length (set views by left)) × (right ≡ u)). subst (λ (y : ℕ × View). P y.0 y.1) (λ i. (sym x.0 i, x.1 i)) new)
    (at_end (set views by left) right u j e)

-- one is written, and then another
pub fits_joined : (P : ℕ → View → Type 0) (views : List View) (id other : ℕ) (both spent : View)
    → ((j : ℕ) (u : View) → j ≢ other → j ≢ id → get_elem? views j ≡ some u → P j u) → P id both → P other spent
    → (j : ℕ) (u : View) → get_elem? (set (set views id both) other spent) j ≡ some u → P j u
fits_joined P views id other both spent rest mine theirs =
    let Q : ℕ → View → Type 0 = λ j u. j ≢ other → P j u in
    fits_set P (set views id both) other spent
    (λ j u not_other e. fits_set Q views id both (λ k x not_id e' not_other'. rest k x not_other' not_id e') (λ _. mine) j u e not_other)
    theirs

-- what stood at the other place before the first was written
pub other_before : (views : List View) (id other : ℕ) (both w : View) → (other ≡ id → ⊥)
    → get_elem? (set views id both) other ≡ some w → get_elem? views other ≡ some w
other_before views id other both w apart there =
    ⊎_elim
    (λ (t : (other ≡ id) × (both ≡ w)). absurd (apart t.0))
    (λ (t : (other ≢ id) × (get_elem? views other ≡ some w)). t.1)
    (at_set views id other both w there)

-- the first place, after both were written
pub joined_there : (views : List View) (id other : ℕ) (v both spent : View) → (other ≡ id → ⊥) → get_elem? views id ≡ some v
    → get_elem? (set (set views id both) other spent) id ≡ some both
joined_there views id other v both spent apart at =
    set_else (set views id both) other id spent (λ same. apart (sym same)) ∙ set_there views id v both at
