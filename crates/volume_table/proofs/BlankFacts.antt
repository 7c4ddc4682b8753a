-- What a comparison with items of the number 0 tells.
use Rattle.std.proofs.Common.{◌≡◌, ℕ, zero, suc, Bool, true, false, ◌&&◌, List, [], ◌∷◌, length, get_or, map, replicate, refl, sym, ◌∙◌, ap, arith}
use Rattle.std.specs.Cmp.Lexicographic.{pointwise}

first_true : (a b : Bool) → (a && b) ≡ true → a ≡ true
first_true true b both = refl
first_true false b both = both

second_true : (a b : Bool) → (a && b) ≡ true → b ≡ true
second_true true b both = both
second_true false b both = absurd cc

module _ {A : Type 0} (E : A → A → Bool) (number : A → ℕ) (item : A) (tells : (x : A) → (E x item ≡ true → number x ≡ 0) × (number x ≡ 0 → E x item ≡ true)) where
  each_zero : (n : ℕ) (xs : List A) → pointwise E xs (replicate n item) ≡ true → (k : ℕ) → get_or (map number xs) k 0 ≡ 0
  each_zero n [] equal k = refl
  each_zero zero (x ∷ xs) equal k = absurd cc
  each_zero (suc n) (x ∷ xs) equal zero = (tells x).0 (first_true (E x item) (pointwise E xs (replicate n item)) equal)
  each_zero (suc n) (x ∷ xs) equal (suc k) = each_zero n xs (second_true (E x item) (pointwise E xs (replicate n item)) equal) k

  all_equal : (n : ℕ) (xs : List A) → length (map number xs) ≡ n → ((k : ℕ) → get_or (map number xs) k 0 ≡ 0) → pointwise E xs (replicate n item) ≡ true
  all_equal zero [] long each = refl
  all_equal zero (x ∷ xs) long each = absurd (omega (arith, long))
  all_equal (suc n) [] long each = absurd (omega (arith, long))
  all_equal (suc n) (x ∷ xs) long each =
      ap (λ b. b && pointwise E xs (replicate n item)) ((tells x).1 (each zero)) ∙ all_equal n xs (omega (arith, long)) (λ k. each (suc k))

  -- of a list with the numbers of these items
  module _ (n : ℕ) (xs items : List A) (numbers : List ℕ) (equal : Bool) (same : map number xs ≡ numbers) (are : items ≡ replicate n item) (is : equal ≡ pointwise E xs items) where
    with_items : equal ≡ pointwise E xs (replicate n item)
    with_items = is ∙ ap (pointwise E xs) are

    pub each_is_zero : equal ≡ true → (k : ℕ) → get_or numbers k 0 ≡ 0
    each_is_zero so k = ap (λ l. get_or l k 0) (sym same) ∙ each_zero n xs (sym with_items ∙ so) k

    pub zeros_are_equal : length numbers ≡ n → ((k : ℕ) → get_or numbers k 0 ≡ 0) → equal ≡ true
    zeros_are_equal long each = with_items ∙ all_equal n xs (ap length same ∙ long) (λ k. ap (λ l. get_or l k 0) same ∙ each k)
