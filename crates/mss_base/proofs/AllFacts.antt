-- What holds of each item of a list, where the list is cut or grows. Layers above cite these lemmas.
use Rattle.std.proofs.Common.{ℕ, zero, suc, List, [], ◌∷◌, ◌++◌, take}
use Rattle.std.specs.List.{AllByRecursion}

module _ {A : Type 0} (P : A → Type 0) where
  pub all_take : (n : ℕ) (xs : List A) → AllByRecursion P xs → AllByRecursion P (take n xs)
  all_take zero xs each = tt
  all_take (suc n) [] each = tt
  all_take (suc n) (x ∷ xs) each = (each.0, all_take n xs each.1)

  pub all_append : (xs ys : List A) → AllByRecursion P xs → AllByRecursion P ys → AllByRecursion P (xs ++ ys)
  all_append [] ys each others = others
  all_append (x ∷ xs) ys each others = (each.0, all_append xs ys each.1 others)

  pub all_push : (xs : List A) (x : A) → AllByRecursion P xs → P x → AllByRecursion P (xs ++ x ∷ [])
  all_push xs x each is = all_append xs (x ∷ []) each (is, tt)
