-- What a change does to each page and each cylinder of a row.
use Rattle.std.proofs.Common.{◌≡◌, ℕ, zero, suc, ◌+◌, ◌/◌, ◌<◌, inl, inr, cond, ◌==◌, List, [], ◌∷◌, length, get_or, set, Option, Some, None, refl, sym, ◌∙◌, ap, arith, zero-add}
use Rattle.std.proofs.lemmas.List.{length-set, get_or-set_same, get_or-set_other, get_or_past}
use Rattle.std.proofs.lemmas.Bool.{cases_Bool, cases_lt, eqb-true, eq-eqb, cond_both, cond-true, cond-false, false≢true}
use Rattle.volume_table.specs.Row.{RowValue, frame_of, state_of}
use Rattle.volume_table.specs.Changes.{unstaged_state, map_numbered, unstaged_page, with_frame, with_state, without_frame}

pub get_or-map_numbered : (f : ℕ → ℕ → ℕ) (i : ℕ) (xs : List ℕ) (k : ℕ) → k < length xs → get_or (map_numbered f i xs) k 0 ≡ f (i + k) (get_or xs k 0)
get_or-map_numbered f i [] k lt = absurd (omega arith)
get_or-map_numbered f i (x ∷ xs) zero lt = let e : i ≡ i + 0 = omega arith in ap (λ (n : ℕ). f n x) e
get_or-map_numbered f i (x ∷ xs) (suc k) lt =
    let e : suc i + k ≡ i + suc k = omega arith in
    get_or-map_numbered f (suc i) xs k (omega arith) ∙ ap (λ (n : ℕ). f n (get_or xs k 0)) e

pub length-map_numbered : (f : ℕ → ℕ → ℕ) (i : ℕ) (xs : List ℕ) → length (map_numbered f i xs) ≡ length xs
length-map_numbered f i [] = refl
length-map_numbered f i (x ∷ xs) = ap suc (length-map_numbered f (suc i) xs)

get_or-set : (A : Type 0) (xs : List A) (i k : ℕ) (y d : A) → i < length xs → get_or (set xs i y) k d ≡ cond (k == i) y (get_or xs k d)
get_or-set A xs i k y d lt = elim (cases_Bool (k == i)) [
  | inl same ↦ ap (λ (j : ℕ). get_or (set xs i y) j d) (eqb-true k i same) ∙ get_or-set_same xs i y d lt ∙ sym (cond-true _ _ _ same)
  | inr other ↦ get_or-set_other xs i k y d (λ e. false≢true (sym other ∙ eq-eqb k i e)) ∙ sym (cond-false _ _ _ other)
]

-- a page gets a frame
pub frame-with_frame : (page frame : ℕ) (r : RowValue) (q : ℕ) → page < length r.pages → frame_of (with_frame page frame r) q ≡ cond (q == page) (Some frame) (frame_of r q)
frame-with_frame page frame r q lt = get_or-set (Option ℕ) r.pages page q (Some frame) None lt

-- a cylinder gets a state
pub state-with_state : (cylinder state : ℕ) (r : RowValue) (c : ℕ) → cylinder < length r.states → state_of (with_state cylinder state r) c ≡ cond (c == cylinder) state (state_of r c)
state-with_state cylinder state r c lt = get_or-set ℕ r.states cylinder c state 0 lt

frame_gone : (page : ℕ) (r : RowValue) (q : ℕ) → q ≡ page → frame_of (without_frame page r) q ≡ None
frame_gone page r q e = elim (cases_lt page (length r.pages)) [
  | inl lt ↦ ap (λ (k : ℕ). get_or (set r.pages page None) k None) e ∙ get_or-set_same r.pages page None None lt
  | inr past ↦ get_or_past (set r.pages page None) q None (omega (arith, length-set r.pages page None))
]

-- a page loses its frame
pub frame-without_frame : (page : ℕ) (r : RowValue) (q : ℕ) → frame_of (without_frame page r) q ≡ cond (q == page) None (frame_of r q)
frame-without_frame page r q = elim (cases_Bool (q == page)) [
  | inl same ↦ frame_gone page r q (eqb-true q page same) ∙ sym (cond-true _ _ _ same)
  | inr other ↦ get_or-set_other r.pages page q None None (λ e. false≢true (sym other ∙ eq-eqb q page e)) ∙ sym (cond-false _ _ _ other)
]

abbrev pub taken : ℕ → ℕ → ℕ → ℕ
taken page cylinder state = cond (cylinder / 8 == page) (unstaged_state state) state

pub state-without_frame : (page : ℕ) (r : RowValue) (c : ℕ) → state_of (without_frame page r) c ≡ cond (c / 8 == page) (unstaged_state (state_of r c)) (state_of r c)
state-without_frame page r c = elim (cases_lt c (length r.states)) [
  | inl lt ↦ get_or-map_numbered (taken page) 0 r.states c lt ∙ ap (λ (k : ℕ). taken page k (state_of r c)) (zero-add c)
  | inr past ↦
      let none : state_of r c ≡ 0 = get_or_past r.states c 0 past in
      let nothing : state_of (without_frame page r) c ≡ 0 = get_or_past (unstaged_page page r.states) c 0 (omega (arith, length-map_numbered (taken page) 0 r.states)) in
      nothing ∙ sym (cond_both (c / 8 == page) (unstaged_state (state_of r c)) (state_of r c) (λ (s : ℕ). s ≡ 0) (λ _. ap unstaged_state none) (λ _. none))
]
