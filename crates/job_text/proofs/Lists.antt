-- Lists: what holds of each element, of those in front of one, and of what is found.
use Rattle.std.proofs.Common.{◌≡◌, ℕ, ◌+◌, Bool, true, false, ◌||◌, List, [], ◌∷◌, ◌++◌, map, Option, Some, None, refl, subst, arith, inl, inr}
use Rattle.std.specs.Prelude.{sum_by}
use Rattle.std.specs.List.{find, list_any, cons_option, AllByRecursion, IsDistinct}
use Rattle.std.specs.Str.{bytes_eq}
use Rattle.std.proofs.lemmas.Bool.{cases_Bool, and_from, and_parts, eqb-true, eq-eqb}
use Rattle.std.proofs.lemmas.List.Sums.{sum_by-cons, sum_by-append}

pub both_false : (a b : Bool) → (a || b) ≡ false → (a ≡ false) × (b ≡ false)
both_false true b h = absurd (cc)
both_false false b h = (refl, h)

pub all_weaker : {X : Type 0} (P Q : X → Type 0) → ((x : X) → P x → Q x) → (xs : List X) → AllByRecursion P xs → AllByRecursion Q xs
all_weaker P Q f [] h = tt
all_weaker P Q f (x ∷ xs) h = (f x h.0, all_weaker P Q f xs h.1)

-- lists that grow at their end
pub all_push : {X : Type 0} (P : X → Type 0) (xs : List X) (x : X) → AllByRecursion P xs → P x → AllByRecursion P (xs ++ x ∷ [])
all_push P [] x h k = (k, tt)
all_push P (y ∷ xs) x h k = (h.0, all_push P xs x h.1 k)

pub all_map_push : {X K : Type 0} (P : K → Type 0) (f : X → K) (xs : List X) (x : X) → AllByRecursion P (map f xs) → P (f x) → AllByRecursion P (map f (xs ++ x ∷ []))
all_map_push P f [] x h k = (k, tt)
all_map_push P f (y ∷ xs) x h k = (h.0, all_map_push P f xs x h.1 k)

pub all_of_map : {X K : Type 0} (P : K → Type 0) (f : X → K) (xs : List X) → AllByRecursion (λ x. P (f x)) xs → AllByRecursion P (map f xs)
all_of_map P f [] h = tt
all_of_map P f (x ∷ xs) h = (h.0, all_of_map P f xs h.1)

-- what holds of the key of an element in the middle
pub all_in : {X K : Type 0} (P : K → Type 0) (f : X → K) (before : List X) (x : X) (behind : List X) → AllByRecursion P (map f (before ++ x ∷ behind)) → P (f x)
all_in P f [] x behind h = h.0
all_in P f (y ∷ before) x behind h = all_in P f before x behind h.1

-- an element differs from those before it
pub none_equal : {X K : Type 0} (e : K → K → Bool) (f : X → K) (before : List X) (x : X) (behind : List X) → IsDistinct e (map f (before ++ x ∷ behind))
    → list_any (λ y. e (f y) (f x)) before ≡ false
unfolding IsDistinct
none_equal e f [] x behind h = refl
none_equal e f (y ∷ before) x behind h =
    let this : e (f y) (f x) ≡ false = all_in (λ k. e (f y) k ≡ false) f before x behind h.0 in
    rw this (none_equal e f before x behind h.1)

pub distinct_push : {X K : Type 0} (e : K → K → Bool) (f : X → K) (xs : List X) (x : X) → IsDistinct e (map f xs) → list_any (λ y. e (f y) (f x)) xs ≡ false
    → IsDistinct e (map f (xs ++ x ∷ []))
unfolding IsDistinct
distinct_push e f [] x h none = (tt, tt)
distinct_push e f (y ∷ xs) x h none =
    let k = both_false (e (f y) (f x)) (list_any (λ z. e (f z) (f x)) xs) none in
    (all_map_push (λ m. e (f y) m ≡ false) f xs x h.0 k.0, distinct_push e f xs x h.1 k.1)

pub any_either : {X : Type 0} (p q : X → Bool) (xs : List X) → list_any p xs ≡ false → list_any q xs ≡ false → list_any (λ x. p x || q x) xs ≡ false
any_either p q [] a b = refl
any_either p q (x ∷ xs) a b =
    let h = both_false (p x) (list_any p xs) a in
    let k = both_false (q x) (list_any q xs) b in
    rw (h.0, k.0) (any_either p q xs h.1 k.1)

pub neither : {X : Type 0} (p q : X → Bool) (xs : List X) → list_any (λ x. p x || q x) xs ≡ false → (list_any p xs ≡ false) × (list_any q xs ≡ false)
neither p q [] h = (refl, refl)
neither p q (x ∷ xs) h =
    let k = both_false (p x || q x) (list_any (λ y. p y || q y) xs) h in
    let this = both_false (p x) (q x) k.0 in
    let rest = neither p q xs k.1 in
    (rw this.0 rest.0, rw this.1 rest.1)

pub sum_push : {X : Type 0} (f : X → ℕ) (xs : List X) (x : X) → sum_by f (xs ++ x ∷ []) ≡ sum_by f xs + f x
sum_push f xs x = let e = sum_by-append f xs (x ∷ []) in let c = sum_by-cons f x [] in omega arith

-- what is found passes its test
pub found_test : {X : Type 0} (p : X → Bool) (xs : List X) (x : X) → find p xs ≡ Some x → p x ≡ true
found_test p [] x h = absurd (cc)
found_test p (y ∷ xs) x h = elim (cases_Bool (p y)) [
  | inl here ↦ (let this = rw here at h in let same : y ≡ x = cc in subst (λ z. p z ≡ true) same here)
  | inr later ↦ found_test p xs x (rw later at h)
]

pub found_in : {X : Type 0} (P : X → Type 0) (p : X → Bool) (xs : List X) (x : X) → AllByRecursion P xs → find p xs ≡ Some x → P x
found_in P p [] x each h = absurd (cc)
found_in P p (y ∷ xs) x each h = elim (cases_Bool (p y)) [
  | inl here ↦ (let this = rw here at h in let same : y ≡ x = cc in subst P same each.0)
  | inr later ↦ found_in P p xs x each.1 (rw later at h)
]

-- what holds of each key holds of the key of what is found
pub found_has : {X K : Type 0} (P : K → Type 0) (f : X → K) (p : X → Bool) (xs : List X) (x : X) → AllByRecursion P (map f xs) → find p xs ≡ Some x → P (f x)
found_has P f p [] x h e = absurd (cc)
found_has P f p (y ∷ xs) x h e = elim (cases_Bool (p y)) [
  | inl yes_ ↦ (let same : y ≡ x = (let this : Some y ≡ Some x = rw yes_ at e in cc) in subst (λ z. P (f z)) same h.0)
  | inr no_ ↦ found_has P f p xs x h.1 (rw no_ at e)
]

pub cons_all : {X : Type 0} (P : X → Type 0) (o : Option X) (xs : List X) → ((x : X) → o ≡ Some x → P x) → AllByRecursion P xs → AllByRecursion P (cons_option o xs)
cons_all P None xs f h = h
cons_all P (Some x) xs f h = (f x refl, h)

pub bytes_eq-same : (xs : List ℕ) → bytes_eq xs xs ≡ true
bytes_eq-same [] = refl
bytes_eq-same (x ∷ xs) = and_from _ _ (eq-eqb x x refl) (bytes_eq-same xs)

pub bytes_eq-is : (xs ys : List ℕ) → bytes_eq xs ys ≡ true → xs ≡ ys
bytes_eq-is [] [] h = refl
bytes_eq-is [] (y ∷ ys) h = absurd (cc)
bytes_eq-is (x ∷ xs) [] h = absurd (cc)
bytes_eq-is (x ∷ xs) (y ∷ ys) h = (let t = and_parts _ _ h in let head = eqb-true x y t.0 in let tail = bytes_eq-is xs ys t.1 in cc)
