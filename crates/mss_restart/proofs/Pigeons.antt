-- Of 66 cartridges at least two are named by none of 64 halves.
use Rattle.std.proofs.Common.{◌≡◌, ◌≢◌, ◌⊎◌, inl, inr, ℕ, zero, suc, ◌*◌, ◌<◌, ◌≤◌, ◌==◌, ◌||◌, Bool, true, false, cond, List, [], ◌∷◌, length, Option, Some, None, refl, sym, ◌∙◌, ap, arith}
use Rattle.std.specs.Prelude.{is_some}
use Rattle.std.specs.Option.{unwrap_or}
use Rattle.std.proofs.lemmas.Bool.{cases_Bool, eqb-true, eq-eqb, cond-true, cond-false, or_cases, or_left, or_right}
use Rattle.shown_volumes.specs.Shown.{RowsOf}
use Rattle.shown_volumes.specs.declared.refused.Half.{Half}
use Rattle.shown_volumes.specs.Sound.{cartridge_of}
use Rattle.mss_base.specs.Firsts.{◌or◌, first_below, where_so}
use Rattle.shown_volumes.specs.Faults.{is_number, half, half_with}
use Rattle.shown_volumes.proofs.WalkFacts.{number_is}
use Rattle.mss_restart.specs.Cartridges.{is_named}

has : ℕ → List ℕ → Bool
has n [] = false
has n (x ∷ xs) = (x == n) || has n xs

without : ℕ → List ℕ → List ℕ
without n [] = []
without n (x ∷ xs) = cond (x == n) (without n xs) (x ∷ without n xs)

no_longer : (n : ℕ) (xs : List ℕ) → length (without n xs) ≤ length xs
unfolding without
no_longer n [] = omega arith
no_longer n (x ∷ xs) = elim (cases_Bool (x == n)) [
  | inl same ↦ omega (arith, ap (λ (l : List ℕ). length l) (cond-true (x == n) (without n xs) (x ∷ without n xs) same), no_longer n xs)
  | inr other ↦ omega (arith, ap (λ (l : List ℕ). length l) (cond-false (x == n) (without n xs) (x ∷ without n xs) other), no_longer n xs)
]

shorter : (n : ℕ) (xs : List ℕ) → has n xs ≡ true → length (without n xs) < length xs
unfolding without has
shorter n [] is = absurd cc
shorter n (x ∷ xs) is = elim (cases_Bool (x == n)) [
  | inl same ↦ omega (arith, ap (λ (l : List ℕ). length l) (cond-true (x == n) (without n xs) (x ∷ without n xs) same), no_longer n xs)
  | inr other ↦
      let rest : has n xs ≡ true = sym (ap (λ (b : Bool). b || has n xs) other) ∙ is in
      omega (arith, ap (λ (l : List ℕ). length l) (cond-false (x == n) (without n xs) (x ∷ without n xs) other), shorter n xs rest)
]

still_has : (m n : ℕ) (xs : List ℕ) → m ≢ n → has m xs ≡ true → has m (without n xs) ≡ true
unfolding without has
still_has m n [] ne is = absurd cc
still_has m n (x ∷ xs) ne is = elim (cases_Bool (x == n)) [
  | inl same ↦
      let e : x ≡ n = eqb-true x n same in
      ap (has m) (cond-true (x == n) (without n xs) (x ∷ without n xs) same) ∙ elim (or_cases (x == m) (has m xs) is) [
        | inl here ↦ absurd (ne (sym (eqb-true x m here) ∙ e))
        | inr there ↦ still_has m n xs ne there
      ]
  | inr other ↦ ap (has m) (cond-false (x == n) (without n xs) (x ∷ without n xs) other) ∙ elim (or_cases (x == m) (has m xs) is) [
    | inl here ↦ or_left (x == m) (has m (without n xs)) here
    | inr there ↦ or_right (x == m) (has m (without n xs)) (still_has m n xs ne there)
  ]
]

-- a list that has each number below k is at least as long
pigeons : (k : ℕ) (xs : List ℕ) → ((n : ℕ) → n < k → has n xs ≡ true) → k ≤ length xs
pigeons zero xs all = omega arith
pigeons (suc k) xs all =
    let fewer = pigeons k (without k xs) (λ n lt. still_has n k xs (λ e. absurd (omega (arith, e, lt))) (all n (omega arith))) in
    omega (arith, fewer, shorter k xs (all k (omega arith)))

-- the cartridges of the halves of the first volumes
names : RowsOf → ℕ → List ℕ
names rows zero = []
names rows (suc n) = unwrap_or (cartridge_of rows n false) 0 ∷ unwrap_or (cartridge_of rows n true) 0 ∷ names rows n

long_names : (rows : RowsOf) (n : ℕ) → length (names rows n) ≡ 2 * n
unfolding names
long_names rows zero = refl
long_names rows (suc n) = omega (arith, long_names rows n)

some_where : (b : Bool) (h : Half) → is_some (where_so b h) ≡ true → b ≡ true
some_where true h is = refl
some_where false h is = absurd cc

some_of : (a b : Option Half) → is_some (a or b) ≡ true → (is_some a ≡ true) ⊎ (is_some b ≡ true)
some_of None b is = inr is
some_of (Some x) b is = inl refl

named_is : (rows : RowsOf) (c v : ℕ) (s : Bool) → is_number (cartridge_of rows v s) c ≡ true → (unwrap_or (cartridge_of rows v s) 0 == c) ≡ true
named_is rows c v s is = eq-eqb _ c (ap (λ (o : Option ℕ). unwrap_or o 0) (number_is (cartridge_of rows v s) c is))

named_has : (rows : RowsOf) (c n : ℕ) → is_some (first_below n (half_with rows c)) ≡ true → has c (names rows n) ≡ true
unfolding names has first_below
named_has rows c zero is = absurd cc
named_has rows c (suc n) is = elim (some_of (first_below n (half_with rows c)) (half_with rows c n) is) [
  | inl lower ↦
      or_right (unwrap_or (cartridge_of rows n false) 0 == c) _ (or_right (unwrap_or (cartridge_of rows n true) 0 == c) _ (named_has rows c n lower))
  | inr here ↦ elim (some_of (where_so (is_number (cartridge_of rows n false) c) (half n false)) (where_so (is_number (cartridge_of rows n true) c) (half n true)) here) [
    | inl first ↦ or_left (unwrap_or (cartridge_of rows n false) 0 == c) _ (named_is rows c n false (some_where _ (half n false) first))
    | inr second ↦ or_right (unwrap_or (cartridge_of rows n false) 0 == c) _ (or_left (unwrap_or (cartridge_of rows n true) 0 == c) _ (named_is rows c n true (some_where _ (half n true) second)))
  ]
]

-- not all of 66 cartridges are named or taken
pub one_is_free : (rows : RowsOf) (taken : Option ℕ) → ((n : ℕ) → n < 66 → (is_named rows n ≡ true) ⊎ (taken ≡ Some n)) → ⊥
unfolding has
one_is_free rows taken all =
    let long = pigeons 66 (unwrap_or taken 0 ∷ names rows 32) (λ n lt. elim (all n lt) [
      | inl named ↦ or_right (unwrap_or taken 0 == n) _ (named_has rows n 32 named)
      | inr is ↦ or_left (unwrap_or taken 0 == n) _ (eq-eqb _ n (ap (λ (o : Option ℕ). unwrap_or o 0) is))
    ]) in
    omega (arith, long, long_names rows 32)
