-- Items by number, of scripts in code and as plain data. Layers above cite these lemmas.
use Rattle.std.proofs.Common.{◌≡◌, ◌<◌, ℕ, zero, suc, List, [], ◌∷◌, length, get_or, map, sym, ◌∙◌, ap, arith}
use Rattle.std.specs.List.{AllByRecursion}
use Rattle.std.proofs.lemmas.List.{get_or-map}

-- what holds of all holds of each
pub all_at : {A : Type 0} (P : A → Type 0) (xs : List A) (i : ℕ) (d : A) → AllByRecursion P xs → i < length xs → P (get_or xs i d)
all_at P [] i d all below = absurd (omega arith)
all_at P (x ∷ xs) zero d all below = all.0
all_at P (x ∷ xs) (suc i) d all below = all_at P xs i d all.1 (omega arith)

-- an item as plain data stands where the item does
pub view_at : {A B : Type 0} (f : A → B) (xs : List A) (i : ℕ) (x : A) → i < length xs → x ≡ get_or xs i x → f x ≡ get_or (map f xs) i (f x)
view_at f xs i x below is = ap f is ∙ sym (get_or-map f xs i x (f x) below)
