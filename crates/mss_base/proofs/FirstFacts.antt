-- The first that is there below a number, and where there is none. Layers above cite these lemmas.
use Rattle.std.proofs.Common.{◌≡◌, inl, inr, ℕ, zero, suc, ◌+◌, ◌<◌, Bool, true, false, Option, Some, None, refl, sym, ◌∙◌, ap, arith}
use Rattle.std.specs.Prelude.{is_some}
use Rattle.std.specs.Option.{option_map, option_and_then, ForSome}
use Rattle.std.proofs.lemmas.Bool.{cases_lt}
use Rattle.mss_base.specs.Firsts.{◌or◌, first_below, where_so}

module _ {A : Type 0} where
  pub or_none : (a b : Option A) → (a or b) ≡ None → (a ≡ None) × (b ≡ None)
  or_none None b is = (refl, is)
  or_none (Some x) b is = absurd cc

  pub both_none : (a b : Option A) → a ≡ None → b ≡ None → (a or b) ≡ None
  both_none a b is also = ap (λ o. o or b) is ∙ also

  pub none_below : (n : ℕ) (f : ℕ → Option A) → first_below n f ≡ None → (i : ℕ) → i < n → f i ≡ None
  unfolding first_below
  none_below zero f is i lt = absurd (omega arith)
  none_below (suc n) f is i lt =
      let parts = or_none (first_below n f) (f n) is in
      elim (cases_lt i n) [
        | inl below ↦ none_below n f parts.0 i below
        | inr from ↦ let e : i ≡ n = omega arith in ap f e ∙ parts.1
      ]

  pub all_none : (n : ℕ) (f : ℕ → Option A) → ((i : ℕ) → i < n → f i ≡ None) → first_below n f ≡ None
  unfolding first_below
  all_none zero f each = refl
  all_none (suc n) f each = both_none (first_below n f) (f n) (all_none n f (λ i lt. each i (omega arith))) (each n (omega arith))

  -- one step of a walk: nothing was found so far, and nothing or this is found here
  pub none_further : (n : ℕ) (f : ℕ → Option A) → first_below n f ≡ None → f n ≡ None → first_below (suc n) f ≡ None
  unfolding first_below
  none_further n f so_far here = both_none (first_below n f) (f n) so_far here

  pub found_first : (n : ℕ) (f : ℕ → Option A) (i : ℕ) (x : A) → i < n → first_below i f ≡ None → f i ≡ Some x → first_below n f ≡ Some x
  unfolding first_below
  found_first zero f i x lt so_far here = absurd (omega arith)
  found_first (suc n) f i x lt so_far here = elim (cases_lt i n) [
    | inl below ↦ ap (λ o. o or f n) (found_first n f i x below so_far here)
    | inr from ↦ let e : n ≡ i = omega arith in ap (λ k. first_below k f or f k) e ∙ ap (λ o. o or f i) so_far ∙ here
  ]

  pub none_yet : (f : ℕ → Option A) → first_below 0 f ≡ None
  unfolding first_below
  none_yet f = refl

  pub none_next : (n : ℕ) (f : ℕ → Option A) → first_below n f ≡ None → f n ≡ None → first_below (n + 1) f ≡ None
  none_next n f so_far here = let e : n + 1 ≡ suc n = omega arith in ap (λ k. first_below k f) e ∙ none_further n f so_far here

  pub found_here : (n : ℕ) (f : ℕ → Option A) (i : ℕ) (o : Option A) → i < n → first_below i f ≡ None → f i ≡ o → is_some o ≡ true → o ≡ first_below n f
  found_here n f i None lt so_far here some = absurd cc
  found_here n f i (Some x) lt so_far here some = sym (found_first n f i x lt so_far here)

  pub or_first : (a b : Option A) (x : A) → a ≡ Some x → (a or b) ≡ Some x
  or_first a b x is = ap (λ o. o or b) is

  pub or_second : (a b : Option A) (x : A) → a ≡ None → b ≡ Some x → (a or b) ≡ Some x
  or_second a b x none is = ap (λ o. o or b) none ∙ is

  pub none_where : (b : Bool) (x : A) → where_so b x ≡ None → b ≡ false
  none_where true x is = absurd cc
  none_where false x is = refl

  pub where_none : (b : Bool) (x : A) → (b ≡ true → ⊥) → where_so b x ≡ None
  where_none true x never = absurd (never refl)
  where_none false x never = refl

  pub none_is : (o : Option A) → is_some o ≡ false → o ≡ None
  none_is None is = refl
  none_is (Some x) is = absurd cc

module _ {A B : Type 0} where
  pub chained_none : (f : A → Option B) (o : Option A) → option_and_then f o ≡ None → ForSome o (λ x. f x ≡ None)
  chained_none f None is = λ x at. absurd cc
  chained_none f (Some y) is = λ x at. let e : x ≡ y = cc in ap f e ∙ is

  pub chain_none : (f : A → Option B) (o : Option A) → ForSome o (λ x. f x ≡ None) → option_and_then f o ≡ None
  chain_none f None each = refl
  chain_none f (Some y) each = each y refl

  pub map_none : (f : A → B) (o : Option A) → option_map f o ≡ None → o ≡ None
  map_none f None is = refl
  map_none f (Some x) is = absurd cc
