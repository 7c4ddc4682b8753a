-- The first of some numbers in a row that passes a test.
use Rattle.std.proofs.Common.{◌≡◌, ℕ, zero, suc, ◌+◌, ◌<◌, Bool, true, false, List, [], ◌∷◌, length, Some, None, refl, sym, ◌∙◌, ap, arith}
use Rattle.std.specs.Prelude.{slice_get, cond, filter, is_some}
use Rattle.std.specs.List.{range_with_len}
use Rattle.mss_base.specs.Firsts.{where_so}

head_fails : (b : Bool) (x : ℕ) (xs : List ℕ) → cond b (x ∷ xs) xs ≡ [] → (b ≡ false) × (xs ≡ [])
head_fails true x xs e = absurd cc
head_fails false x xs e = (refl, e)

module _ (p : ℕ → Bool) where
  -- none of the first n passes, and this one does
  pub first_in : (m n a : ℕ) → n < m → filter p (range_with_len a n) ≡ [] → p (a + n) ≡ true → slice_get (filter p (range_with_len a m)) 0 ≡ Some (a + n)
  first_in zero n a lt e passes = absurd (omega arith)
  first_in (suc m) zero a lt e passes =
      let here : a + 0 ≡ a = omega arith in
      ap (λ (b : Bool). slice_get (cond b (a ∷ filter p (range_with_len (a + 1) m)) (filter p (range_with_len (a + 1) m))) 0) (ap p (sym here) ∙ passes) ∙ ap Some (sym here)
  first_in (suc m) (suc n) a lt e passes =
      let parts : (p a ≡ false) × (filter p (range_with_len (a + 1) n) ≡ []) = head_fails (p a) a (filter p (range_with_len (a + 1) n)) e in
      let further : a + 1 + n ≡ a + suc n = omega arith in
      let below : n < m = omega arith in
      ap (λ (b : Bool). slice_get (cond b (a ∷ filter p (range_with_len (a + 1) m)) (filter p (range_with_len (a + 1) m))) 0) parts.0
      ∙ first_in m n (a + 1) below parts.1 (ap p further ∙ passes) ∙ ap Some further

  -- none of the first n passes, and this one doesn't
  pub none_in : (n a : ℕ) → filter p (range_with_len a n) ≡ [] → p (a + n) ≡ false → filter p (range_with_len a (n + 1)) ≡ []
  none_in zero a e fails =
      let here : a + 0 ≡ a = omega arith in
      ap (λ (b : Bool). cond b (a ∷ []) []) (ap p (sym here) ∙ fails)
  none_in (suc n) a e fails =
      let parts : (p a ≡ false) × (filter p (range_with_len (a + 1) n) ≡ []) = head_fails (p a) a (filter p (range_with_len (a + 1) n)) e in
      let further : a + 1 + n ≡ a + suc n = omega arith in
      let one : suc n + 1 ≡ suc (n + 1) = omega arith in
      ap (λ (k : ℕ). filter p (range_with_len a k)) one
      ∙ ap (λ (b : Bool). cond b (a ∷ filter p (range_with_len (a + 1) (n + 1))) (filter p (range_with_len (a + 1) (n + 1)))) parts.0
      ∙ none_in n (a + 1) parts.1 (ap p further ∙ fails)

-- ---- how many pass

one_more : (b : Bool) (a k : ℕ) (xs ys : List ℕ) → length xs ≡ length ys + k → length (cond b (a ∷ xs) xs) ≡ length (cond b (a ∷ ys) ys) + k
one_more true a k xs ys e = omega (arith, e)
one_more false a k xs ys e = e

-- of one number more
pub count_more : (p : ℕ → Bool) (n a : ℕ) → length (filter p (range_with_len a (n + 1))) ≡ length (filter p (range_with_len a n)) + cond (p (a + n)) 1 0
count_more p zero a = let here : a ≡ a + 0 = omega arith in by (p a) ∙ ap (λ (k : ℕ). 0 + cond (p k) 1 0) here
  where
    by : (b : Bool) → length (cond b (a ∷ []) []) ≡ 0 + cond b 1 0
    by true = refl
    by false = refl
count_more p (suc n) a =
    let one : suc n + 1 ≡ suc (n + 1) = omega arith in
    let further : a + 1 + n ≡ a + suc n = omega arith in
    ap (λ (k : ℕ). length (filter p (range_with_len a k))) one
    ∙ one_more (p a) a (cond (p (a + 1 + n)) 1 0) (filter p (range_with_len (a + 1) (n + 1))) (filter p (range_with_len (a + 1) n)) (count_more p n (a + 1))
    ∙ ap (λ (k : ℕ). length (cond (p a) (a ∷ filter p (range_with_len (a + 1) n)) (filter p (range_with_len (a + 1) n))) + cond (p k) 1 0) further

pub so_found : (b : Bool) (x y : ℕ) → where_so b x ≡ Some y → (b ≡ true) × (x ≡ y)
so_found true x y e = (refl, cc)
so_found false x y e = absurd cc

pub so_some : (b : Bool) (x : ℕ) → is_some (where_so b x) ≡ b
so_some true x = refl
so_some false x = refl

pub so_none : (b : Bool) (x : ℕ) → where_so b x ≡ None → b ≡ false
so_none true x e = absurd cc
so_none false x e = refl
