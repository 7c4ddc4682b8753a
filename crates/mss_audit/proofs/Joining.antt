-- Lists that grow number by number.
use Rattle.std.proofs.Common.{◌≡◌, ℕ, zero, suc, ◌+◌, ◌<◌, List, [], ◌++◌, refl, sym, ◌∙◌, ap, arith}
use Rattle.std.proofs.lemmas.List.{append_assoc, append-nil}
use Rattle.mss_audit.specs.Listing.{joined_below}

module _ {A : Type 0} where
  pub joined_two : (start mid now x y : List A) → mid ≡ start ++ x → now ≡ mid ++ y → now ≡ start ++ (x ++ y)
  joined_two start mid now x y first second = second ∙ ap (λ l. l ++ y) first ∙ append_assoc start x y

  pub joined_none : (f : ℕ → List A) (start now : List A) → now ≡ start → now ≡ start ++ joined_below 0 f
  unfolding joined_below
  joined_none f start now is = is ∙ sym (append-nil start)

  joined_suc : (f : ℕ → List A) (n : ℕ) → joined_below (n + 1) f ≡ joined_below n f ++ f n
  unfolding joined_below
  joined_suc f n = let e : n + 1 ≡ suc n = omega arith in ap (λ k. joined_below k f) e

  pub joined_next : (f : ℕ → List A) (start now next : List A) (n at : ℕ) → at ≡ n → now ≡ start ++ joined_below n f → next ≡ now ++ f at → next ≡ start ++ joined_below (n + 1) f
  joined_next f start now next n at same before added =
      joined_two start now next (joined_below n f) (f n) before (added ∙ ap (λ k. now ++ f k) same)
      ∙ ap (λ l. start ++ l) (sym (joined_suc f n))

  -- lists of which none has an item
  pub joined_empty : (n : ℕ) (f : ℕ → List A) → ((i : ℕ) → i < n → f i ≡ []) → joined_below n f ≡ []
  unfolding joined_below
  joined_empty zero f each = refl
  joined_empty (suc n) f each =
      let before = joined_empty n f (λ i lt. each i (omega arith)) in
      let here = each n (omega arith) in
      λ i. before i ++ here i
