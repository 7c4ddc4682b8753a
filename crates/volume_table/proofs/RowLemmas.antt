-- A row after an allowed change is a row.
use Rattle.std.proofs.Common.{◌≡◌, ◌≢◌, ℕ, ◌+◌, ◌*◌, ◌/◌, ◌≤◌, ◌<◌, min, inl, inr, Bool, true, false, cond, ◌==◌, List, length, get_or, set, replicate, Option, Some, None, refl, sym, ◌∙◌, ap, subst, arith, zero-add}
use Rattle.std.specs.Prelude.{IfSome, IsSome}
use Rattle.std.proofs.lemmas.List.{ext_get_or, length-set, get_or-set_same, get_or-set_other, get_or_past, get_or-replicate, length-replicate, set_past}
use Rattle.std.proofs.lemmas.Bool.{cases_Bool, cases_lt, eqb-true, eq-eqb, cond_both, cond-true, cond-false, false≢true}
use Rattle.mss_base.specs.Serial.{IsSerial}
use Rattle.volume_table.specs.Row.{RowValue, frame_of, state_of, blank_row, IsRow}
use Rattle.volume_table.specs.Changes.{IsAllowed, IsInRange, effect, unstaged_state, unstaged_page, with_frame, with_mark, with_state, without_frame}
use Rattle.volume_table.specs.declared.changes.Change.{Change}
use Rattle.volume_table.specs.declared.changes.Change.TheVariants.{Create, Assign, Free, Staged, Changed, Destaged, Protect}
use Rattle.volume_table.proofs.StateLemmas.{unstaged_small}
use Rattle.volume_table.proofs.RowFacts.{taken, get_or-map_numbered, length-map_numbered, frame-with_frame, frame-without_frame, state-without_frame, state-with_state}

abbrev SmallFrame : Option ℕ → Type 0
SmallFrame o = IfSome o (λ f. f < 200)

all_same : (A : Type 0) (n i : ℕ) (a : A) → get_or (replicate n a) i a ≡ a
all_same A n i a = elim (cases_lt i n) [
  | inl lt ↦ get_or-replicate n i a a lt
  | inr past ↦ get_or_past (replicate n a) i a (omega (arith, length-replicate {A = A} n a))
]

pub row-blank : (serial : List ℕ) (first second : ℕ) → IsSerial serial → first < 2048 → second < 2048 → IsRow (blank_row serial first second)
row-blank serial first second good small_first small_second = record {
  serial = good;
  first = small_first;
  second = small_second;
  pages = length-replicate {A = Option ℕ} 51 None;
  frames = λ page. subst SmallFrame (sym (all_same (Option ℕ) 51 page None)) tt;
  states = length-replicate {A = ℕ} 404 0;
  numbers = λ c. subst (λ (s : ℕ). s ≤ 4) (sym (all_same ℕ 404 c 0)) (omega arith);
  staged = λ c high. absurd (omega (arith, all_same ℕ 404 c 0));
}

-- a page without a changed cylinder may lose its frame
module _ (page : ℕ) (r : RowValue) (row : IsRow r) (unchanged : (c : ℕ) → c / 8 ≡ page → state_of r c ≢ 4) where
  low : (c : ℕ) → (c / 8 == page) ≡ true → state_of (without_frame page r) c < 2
  low c same =
      let is : state_of (without_frame page r) c ≡ unstaged_state (state_of r c) = state-without_frame page r c ∙ cond-true _ _ _ same in
      omega (arith, unstaged_small (state_of r c) (row.numbers c) (unchanged c (eqb-true _ _ same)), is)

  kept : (c : ℕ) → (c / 8 == page) ≡ false → state_of (without_frame page r) c ≡ state_of r c
  kept c other = state-without_frame page r c ∙ cond-false _ _ _ other

  pub row-without_frame : IsRow (without_frame page r)
  row-without_frame = record {
    serial = row.serial;
    first = row.first;
    second = row.second;
    pages = length-set r.pages page None ∙ row.pages;
    frames = λ q. subst SmallFrame (sym (frame-without_frame page r q)) (cond_both (q == page) None (frame_of r q) SmallFrame (λ _. tt) (λ _. row.frames q));
    states = length-map_numbered (taken page) 0 r.states ∙ row.states;
    numbers = λ c. elim (cases_Bool (c / 8 == page)) [
      | inl same ↦ omega (arith, low c same)
      | inr other ↦ omega (arith, kept c other, row.numbers c)
    ];
    staged = λ c high. elim (cases_Bool (c / 8 == page)) [
      | inl same ↦ absurd (omega (arith, low c same))
      | inr other ↦ subst IsSome (sym (frame-without_frame page r (c / 8) ∙ cond-false _ _ _ other)) (row.staged c (omega (arith, kept c other)))
    ];
  }

-- a cylinder may get a state that its page allows
module _ (cylinder state : ℕ) (r : RowValue) (row : IsRow r) (inside : cylinder < 404) (small : state ≤ 4) (there : 2 ≤ state → IsSome (frame_of r (cylinder / 8))) where
  is : (c : ℕ) → state_of (with_state cylinder state r) c ≡ cond (c == cylinder) state (state_of r c)
  is c = state-with_state cylinder state r c (omega (arith, row.states))

  pub row-with_state : IsRow (with_state cylinder state r)
  row-with_state = record {
    serial = row.serial;
    first = row.first;
    second = row.second;
    pages = row.pages;
    frames = row.frames;
    states = length-set r.states cylinder state ∙ row.states;
    numbers = λ c. subst (λ (s : ℕ). s ≤ 4) (sym (is c)) (cond_both (c == cylinder) state (state_of r c) (λ (s : ℕ). s ≤ 4) (λ _. small) (λ _. row.numbers c));
    staged = λ c high. elim (cases_Bool (c == cylinder)) [
      | inl same ↦ subst (λ (k : ℕ). IsSome (frame_of r (k / 8))) (sym (eqb-true c cylinder same)) (there (omega (arith, is c ∙ cond-true _ _ _ same)))
      | inr other ↦ row.staged c (omega (arith, is c ∙ cond-false _ _ _ other))
    ];
  }

-- a page may get a frame
module _ (page frame : ℕ) (r : RowValue) (row : IsRow r) (inside : page < 51) (small : frame < 200) where
  has : (q : ℕ) → frame_of (with_frame page frame r) q ≡ cond (q == page) (Some frame) (frame_of r q)
  has q = frame-with_frame page frame r q (omega (arith, row.pages))

  pub row-with_frame : IsRow (with_frame page frame r)
  row-with_frame = record {
    serial = row.serial;
    first = row.first;
    second = row.second;
    pages = length-set r.pages page (Some frame) ∙ row.pages;
    frames = λ q. subst SmallFrame (sym (has q)) (cond_both (q == page) (Some frame) (frame_of r q) SmallFrame (λ _. small) (λ _. row.frames q));
    states = row.states;
    numbers = row.numbers;
    staged = λ c high. subst IsSome (sym (has (c / 8))) (cond_both (c / 8 == page) (Some frame) (frame_of r (c / 8)) IsSome (λ _. refl) (λ _. row.staged c high));
  }

-- a cylinder that is staged gets a higher state
row-staged : (cylinder : ℕ) (r : RowValue) → IsRow r → IsAllowed (Staged cylinder) r → IsRow (with_state cylinder (state_of r cylinder + 2) r)
row-staged cylinder r row allowed = elim (cases_lt cylinder 404) [
  | inl lt ↦ row-with_state cylinder (state_of r cylinder + 2) r row lt (omega (arith, allowed.0)) (λ _. allowed.1)
  | inr past ↦ subst (λ (states : List ℕ). IsRow (record r { states = states })) (sym (set_past r.states cylinder (state_of r cylinder + 2) (omega (arith, row.states)))) row
]

-- a cylinder with a state is one of the volume's
cylinder_inside : (cylinder : ℕ) (r : RowValue) → IsRow r → 1 ≤ state_of r cylinder → cylinder < 404
cylinder_inside cylinder r row some = elim (cases_lt cylinder 404) [
  | inl lt ↦ lt
  | inr past ↦ absurd (let none : state_of r cylinder ≡ 0 = get_or_past r.states cylinder 0 (omega (arith, row.states)) in omega arith)
]

-- a mark is no matter of the other fields
row-with_mark : (on : Bool) (r : RowValue) → IsRow r → IsRow (with_mark on r)
row-with_mark on r row = record {
  serial = row.serial;
  first = row.first;
  second = row.second;
  pages = row.pages;
  frames = row.frames;
  states = row.states;
  numbers = row.numbers;
  staged = row.staged;
}

-- whatever change is allowed
pub row-changed : (change : Change) (r : RowValue) → IsRow r → IsAllowed change r → IsInRange change → IsRow (effect change r)
row-changed (Create serial first second) r row allowed range = absurd allowed
row-changed (Assign page frame) r row allowed range = row-with_frame page frame r row range.0 range.1
row-changed (Free page) r row allowed range = row-without_frame page r row allowed.1
row-changed (Staged cylinder) r row allowed range = row-staged cylinder r row allowed
row-changed (Changed cylinder) r row allowed range =
    let high : 2 ≤ state_of r cylinder = elim allowed [ inl two ↦ omega arith | inr three ↦ omega arith ] in
    row-with_state cylinder 4 r row (cylinder_inside cylinder r row (omega arith)) (omega arith) (λ _. row.staged cylinder high)
row-changed (Destaged cylinder) r row allowed range =
    row-with_state cylinder 3 r row (cylinder_inside cylinder r row (omega arith)) (omega arith) (λ _. row.staged cylinder (omega arith))
row-changed (Protect on) r row allowed range = row-with_mark on r row

-- a loop over the page's cylinders, whose lists are `old` at first and `now` before this step
module _ (page n : ℕ) (old now : List ℕ) (state : ℕ) (inside : n < length now) (from : 8 * page ≤ n) (is : state ≡ unstaged_state (get_or now n 0)) where
  pub step_before : ((k : ℕ) → k < 8 * page → get_or now k 0 ≡ get_or old k 0) → (k : ℕ) → k < 8 * page → get_or (set now n state) k 0 ≡ get_or old k 0
  step_before before k lt = get_or-set_other now n k state 0 (λ e. absurd (omega arith)) ∙ before k lt

  pub step_left : ((k : ℕ) → n ≤ k → get_or now k 0 ≡ get_or old k 0) → (k : ℕ) → n + 1 ≤ k → get_or (set now n state) k 0 ≡ get_or old k 0
  step_left left k le = get_or-set_other now n k state 0 (λ e. absurd (omega arith)) ∙ left k (omega arith)

  pub step_done : ((k : ℕ) → n ≤ k → get_or now k 0 ≡ get_or old k 0) → ((k : ℕ) → 8 * page ≤ k → k < n → get_or now k 0 ≡ unstaged_state (get_or old k 0))
      → (k : ℕ) → 8 * page ≤ k → k < n + 1 → get_or (set now n state) k 0 ≡ unstaged_state (get_or old k 0)
  step_done left done k le lt = elim (cases_lt k n) [
    | inl below ↦ get_or-set_other now n k state 0 (λ e. absurd (omega arith)) ∙ done k le below
    | inr at ↦
        let e : k ≡ n = omega arith in
        ap (λ (j : ℕ). get_or (set now n state) j 0) e ∙ get_or-set_same now n state 0 inside ∙ is ∙ ap unstaged_state (left n (omega arith)) ∙ ap (λ (j : ℕ). unstaged_state (get_or old j 0)) (sym e)
  ]

-- such a loop is done
pub unstage_done : (page n : ℕ) (old new : List ℕ) → length old ≡ 404 → length new ≡ 404 → min 404 (8 * page + 8) ≤ n
    → ((k : ℕ) → k < 8 * page → get_or new k 0 ≡ get_or old k 0) → ((k : ℕ) → 8 * page ≤ k → k < n → get_or new k 0 ≡ unstaged_state (get_or old k 0))
    → ((k : ℕ) → n ≤ k → get_or new k 0 ≡ get_or old k 0) → n ≤ min 404 (8 * page + 8) → new ≡ unstaged_page page old
unstage_done page n old new long_old long_new all before done left le =
    ext_get_or 0 new (unstaged_page page old) (long_new ∙ sym long_old ∙ sym (length-map_numbered (taken page) 0 old)) (λ k lt. at k (omega arith) ∙ sym (get_or-map_numbered (taken page) 0 old k (omega arith) ∙ ap (λ (j : ℕ). taken page j (get_or old k 0)) (zero-add k)))
  where
    at : (k : ℕ) → k < 404 → get_or new k 0 ≡ taken page k (get_or old k 0)
    at k lt = elim (cases_Bool (k / 8 == page)) [
      | inl same ↦ let e : k / 8 ≡ page = eqb-true _ _ same in done k (omega arith) (omega arith) ∙ sym (cond-true _ _ _ same)
      | inr other ↦
          let ne : k / 8 ≢ page = λ e. false≢true (sym other ∙ eq-eqb _ _ e) in
          elim (cases_lt k (8 * page)) [
            | inl below ↦ before k below ∙ sym (cond-false _ _ _ other)
            | inr from ↦ left k (omega arith) ∙ sym (cond-false _ _ _ other)
          ]
    ]
