-- What an order of frames keeps. Layers above cite these lemmas.
use Rattle.std.proofs.Common.{◌≡◌, ◌<◌, ◌+◌, ℕ, zero, suc, Bool, true, false, not, nat_eq, List, [], ◌∷◌, ◌++◌, length, get_or, Contains, refl, sym, ◌∙◌, ap, subst, arith}
use Rattle.std.specs.Prelude.{filter}
use Rattle.std.specs.List.{All, AllByRecursion, IsDistinct}
use Rattle.std.specs.List.Sorted.{IsPermutation}
use Rattle.std.specs.Cmp.{nat_eq_equiv}
use Rattle.std.proofs.lemmas.Bool.{ne_eqb, eqb-true, eq-eqb, true≢false, cond-true, cond-false}
use Rattle.std.proofs.lemmas.List.{map-id}
use Rattle.std.proofs.lemmas.List.FromFn.{length-range_with_len, get_or-range_with_len, map-range_with_len_more}
use Rattle.std.proofs.lemmas.List.Sorted.{IsPermutation-refl, IsPermutation-trans, IsPermutation-filter_both, All-permutation, Contains-permutation, length_permutation}
use Rattle.std.proofs.lemmas.Map.Keys.{IsDistinct-from_apart, IsDistinct-IsPermutation, IsDistinct-head, IsDistinct-tail}
use Rattle.victim_choice.specs.Order.{first_order, without_frame, order_after, IsOrderOf, IsOrder}

-- ---- the order at a session's start

pub untouched_is_order : (count : ℕ) → IsOrderOf count (first_order count)
untouched_is_order count = IsPermutation-refl (first_order count)

-- one frame more
pub untouched_more : (count : ℕ) → first_order (count + 1) ≡ first_order count ++ count ∷ []
untouched_more count =
    let start : 0 + count ≡ count = omega arith in
    sym (map-id (first_order (count + 1))) ∙ map-range_with_len_more (λ (x : ℕ). x) 0 count count start ∙ ap (λ (l : List ℕ). l ++ count ∷ []) (map-id (first_order count))

untouched_at : (count place d : ℕ) → place < length (first_order count) → get_or (first_order count) place d ≡ place
untouched_at count place d within =
    let start : 0 + place ≡ place = omega arith in
    get_or-range_with_len 0 count place d (subst (λ n. place < n) (length-range_with_len 0 count) within) ∙ start

untouched_once : (count : ℕ) → IsDistinct nat_eq (first_order count)
untouched_once count = IsDistinct-from_apart nat_eq (first_order count) apart
  where
    apart : (i j d : ℕ) → i < j → j < length (first_order count) → nat_eq (get_or (first_order count) i d) (get_or (first_order count) j d) ≡ false
    apart i j d lower within =
        rw (untouched_at count i d (omega (arith, lower, within)), untouched_at count j d within) (ne_eqb i j (λ same. omega (arith, lower, same)))

-- ---- any order

module _ (count : ℕ) (order : List ℕ) (is : IsOrderOf count order) where
  -- as many
  pub order_long : length order ≡ count
  order_long = length_permutation (first_order count) order is ∙ length-range_with_len 0 count

  -- none stands in it twice
  pub order_once : IsDistinct nat_eq order
  order_once = IsDistinct-IsPermutation nat_eq nat_eq_equiv.symm (first_order count) order is (untouched_once count)

  -- each stands in it
  pub order_there : (frame : ℕ) → frame < count → Contains order frame
  order_there frame below =
      let within : frame < length (first_order count) = subst (λ n. frame < n) (sym (length-range_with_len 0 count)) below in
      Contains-permutation (first_order count) order frame is (frame, within, untouched_at count frame frame within)

  -- and no other
  pub order_below : All (λ frame. frame < count) order
  order_below = All-permutation (λ frame. frame < count) (first_order count) order is
      (λ place d within. subst (λ n. n < count) (sym (untouched_at count place d within)) (subst (λ n. place < n) (length-range_with_len 0 count) within))

  -- so it is an order of as many as it has
  pub order_whole : IsOrder order
  order_whole = subst (λ n. IsOrderOf n order) (sym order_long) is

-- ---- one frame among distinct ones

none_alike : (frame : ℕ) (order : List ℕ) → AllByRecursion (λ other. nat_eq frame other ≡ false) order → filter (nat_eq frame) order ≡ []
none_alike frame [] all = refl
none_alike frame (other ∷ order) all = cond-false (nat_eq frame other) _ _ all.0 ∙ none_alike frame order all.1

pub behind : (frame other : ℕ) (order : List ℕ) → nat_eq frame other ≡ false → Contains (other ∷ order) frame → Contains order frame
behind frame other order differs there = at there.0 there.1 there.2
  where
    at : (k : ℕ) → k < length (other ∷ order) → get_or (other ∷ order) k frame ≡ frame → Contains order frame
    at zero within is = absurd (true≢false (sym (eq-eqb frame other (sym is)) ∙ differs))
    at (suc k) within is = (k, omega (arith, within), is)

pub alike_once : (frame : ℕ) (order : List ℕ) → IsDistinct nat_eq order → Contains order frame → filter (nat_eq frame) order ≡ frame ∷ []
alike_once frame [] once there = absurd (omega (arith, there.1))
alike_once frame (other ∷ order) once there = by (alike_once frame order (IsDistinct-tail nat_eq other order once)) (nat_eq frame other) refl
  where
    by : (Contains order frame → filter (nat_eq frame) order ≡ frame ∷ []) → (b : Bool) → nat_eq frame other ≡ b → filter (nat_eq frame) (other ∷ order) ≡ frame ∷ []
    by more true same =
        let is : frame ≡ other = eqb-true frame other same in
        cond-true (nat_eq frame other) _ _ same
        ∙ ap (λ (l : List ℕ). other ∷ l) (none_alike frame order (subst (λ f. AllByRecursion (λ y. nat_eq f y ≡ false) order) (sym is) (IsDistinct-head nat_eq other order once)))
        ∙ ap (λ (f : ℕ). f ∷ []) (sym is)
    by more false differs = cond-false (nat_eq frame other) _ _ differs ∙ more (behind frame other order differs there)

-- ---- a touch

not_not : (b : Bool) → b ≡ not (not b)
not_not true = refl
not_not false = refl

-- keeps each frame once
pub touched_is_order : (count : ℕ) (order : List ℕ) (frame : ℕ) → IsOrderOf count order → frame < count → IsOrderOf count (order_after frame order)
touched_is_order count order frame is below =
    let parted : IsPermutation order (without_frame frame order ++ filter (nat_eq frame) order) = IsPermutation-filter_both (λ other. not (nat_eq frame other)) (nat_eq frame) (λ other. not_not (nat_eq frame other)) order in
    let alone : filter (nat_eq frame) order ≡ frame ∷ [] = alike_once frame order (order_once count order is) (order_there count order is frame below) in
    IsPermutation-trans (first_order count) order (order_after frame order) is (subst (λ l. IsPermutation order (without_frame frame order ++ l)) alone parted)
