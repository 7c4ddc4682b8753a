-- The order that a cache shows, once a key is put or promoted, and along a walk from its end.
use Rattle.std.proofs.Common.{◌≡◌, ◌<◌, ◌-◌, ◌+◌, ℕ, Bool, true, false, not, nat_eq, List, [], ◌∷◌, ◌++◌, length, take, reverse, slice_get, get_or, Contains, Option, Some, None, refl, sym, ◌∙◌, ap, subst, arith}
use Rattle.std.specs.Prelude.{filter}
use Rattle.std.specs.List.{All, AllByRecursion, IsDistinct}
use Rattle.std.specs.List.Sorted.{IsPermutation}
use Rattle.std.specs.Option.{option_map_or}
use Rattle.std.specs.Map.{keys_of, lookup_entry, remove_entry}
use Rattle.std.specs.Cmp.{nat_eq_equiv}
use Rattle.std.proofs.lemmas.Bool.{eqb-true, eq-eqb, ne_eqb}
use Rattle.std.proofs.lemmas.Option.{none-some}
use Rattle.std.proofs.lemmas.List.{reverse-append, length-reverse, append-nil, append_assoc, map-append, take_all}
use Rattle.std.proofs.lemmas.List.Elements.{filter-append, recursion_from_All}
use Rattle.std.proofs.lemmas.List.Sorted.{IsPermutation-reverse, IsPermutation-sym, All-permutation, Contains-permutation}
use Rattle.std.proofs.lemmas.Map.Keys.{IsDistinct-IsPermutation, IsDistinct-head, IsDistinct-tail}
use Rattle.std.proofs.lemmas.Map.Entries.{length-keys_of}
use Rattle.lru.specs.LruCache.{lru_cache, promoted, put_entries}
use Rattle.victim_choice.specs.Order.{first_order, without_frame, order_after, IsOrderOf, IsOrder, order_of}
use Rattle.victim_choice.proofs.OrderFacts.{behind, order_once, order_there, order_below, order_long, untouched_is_order, untouched_more}

abbrev Entries : Type 0
Entries = List (ℕ × Unit {0})

-- ---- lists

reverse_cons : (x : ℕ) (xs : List ℕ) → reverse (x ∷ xs) ≡ reverse xs ++ x ∷ []
reverse_cons x xs = reverse-append (x ∷ []) xs

filter_reverse : (p : ℕ → Bool) (xs : List ℕ) → filter p (reverse xs) ≡ reverse (filter p xs)
filter_reverse p [] = refl
filter_reverse p (x ∷ xs) = ap (filter p) (reverse_cons x xs) ∙ filter-append p (reverse xs) (x ∷ []) ∙ by (filter_reverse p xs) (p x) refl
  where
    by : filter p (reverse xs) ≡ reverse (filter p xs) → (b : Bool) → p x ≡ b → filter p (reverse xs) ++ filter p (x ∷ []) ≡ reverse (filter p (x ∷ xs))
    by more true is = rw (is, more) (sym (reverse_cons x (filter p xs)))
    by more false is = rw (is, more) (append-nil (reverse (filter p xs)))

all_pass : (frame : ℕ) (xs : List ℕ) → AllByRecursion (λ other. nat_eq frame other ≡ false) xs → without_frame frame xs ≡ xs
all_pass frame [] all = refl
all_pass frame (x ∷ xs) all = rw all.0 (ap (λ (l : List ℕ). x ∷ l) (all_pass frame xs all.1))

-- ---- a key that is promoted

found : (frame : ℕ) (es : Entries) → Contains (keys_of es) frame → (e : ℕ × Unit {0}) × (lookup_entry (nat_eq frame) es ≡ Some e) × (frame ≡ e.0)
found frame [] there = absurd (omega (arith, there.1))
found frame (e ∷ es) there = by (found frame es) (nat_eq frame e.0) refl
  where
    by : (Contains (keys_of es) frame → (f : ℕ × Unit {0}) × (lookup_entry (nat_eq frame) es ≡ Some f) × (frame ≡ f.0)) → (b : Bool) → nat_eq frame e.0 ≡ b
        → (f : ℕ × Unit {0}) × (lookup_entry (nat_eq frame) (e ∷ es) ≡ Some f) × (frame ≡ f.0)
    by more true same = (e, rw same refl, eqb-true frame e.0 same)
    by more false differs = let on = more (behind frame e.0 (keys_of es) differs there) in (on.0, rw differs on.1, on.2)

removed : (frame : ℕ) (es : Entries) → IsDistinct nat_eq (keys_of es) → keys_of (remove_entry (nat_eq frame) es) ≡ without_frame frame (keys_of es)
removed frame [] once = refl
removed frame (e ∷ es) once = by (removed frame es (IsDistinct-tail nat_eq e.0 (keys_of es) once)) (nat_eq frame e.0) refl
  where
    by : keys_of (remove_entry (nat_eq frame) es) ≡ without_frame frame (keys_of es) → (b : Bool) → nat_eq frame e.0 ≡ b
        → keys_of (remove_entry (nat_eq frame) (e ∷ es)) ≡ without_frame frame (keys_of (e ∷ es))
    by more true same =
        let is : e.0 ≡ frame = sym (eqb-true frame e.0 same) in
        rw same (sym (all_pass frame (keys_of es) (subst (λ f. AllByRecursion (λ y. nat_eq f y ≡ false) (keys_of es)) is (IsDistinct-head nat_eq e.0 (keys_of es) once))))
    by more false differs = rw differs (ap (λ (l : List ℕ). e.0 ∷ l) more)

first_promoted : (frame : ℕ) (es : Entries) (e : ℕ × Unit {0}) → lookup_entry (nat_eq frame) es ≡ Some e → promoted (nat_eq frame) es ≡ e ∷ remove_entry (nat_eq frame) es
first_promoted frame es e is = ap (λ (o : Option (ℕ × Unit {0})). option_map_or (λ f. f ∷ remove_entry (nat_eq frame) es) o es) is

pub order_of_promoted : (frame : ℕ) (es : Entries) → IsOrder (order_of es) → frame < length (order_of es) → order_of (promoted (nat_eq frame) es) ≡ order_after frame (order_of es)
order_of_promoted frame es is below =
    let keys : List ℕ = keys_of es in
    let turned : IsPermutation (reverse keys) keys = IsPermutation-sym keys (reverse keys) (IsPermutation-reverse keys) in
    let once : IsDistinct nat_eq keys = IsDistinct-IsPermutation nat_eq nat_eq_equiv.symm (reverse keys) keys turned (order_once (length (reverse keys)) (reverse keys) is) in
    let there : Contains keys frame = Contains-permutation (reverse keys) keys frame turned (order_there (length (reverse keys)) (reverse keys) is frame below) in
    let first = found frame es there in
    ap order_of (first_promoted frame es first.0 first.1)
    ∙ reverse_cons first.0.0 (keys_of (remove_entry (nat_eq frame) es))
    ∙ ap (λ (f : ℕ). reverse (keys_of (remove_entry (nat_eq frame) es)) ++ f ∷ []) (sym first.2)
    ∙ ap (λ (l : List ℕ). reverse l ++ frame ∷ []) (removed frame es once)
    ∙ ap (λ (l : List ℕ). l ++ frame ∷ []) (sym (filter_reverse (λ other. not (nat_eq frame other)) keys))

-- the first of all stays where it is
pub first_stays : (frame : ℕ) (first : ℕ × Unit {0}) (es : Entries) → Some first ≡ slice_get es 0 → nat_eq first.0 frame ≡ true → promoted (nat_eq frame) es ≡ es
first_stays frame first [] is same = absurd (none-some first (sym is))
first_stays frame first (e ∷ es) is same =
    let other : first ≡ e = ap (λ (o : Option (ℕ × Unit {0})). option_map_or (λ k. k) o first) is in
    let alike : nat_eq frame e.0 ≡ true = subst (λ (k : ℕ × Unit {0}). nat_eq frame k.0 ≡ true) other (eq-eqb frame first.0 (sym (eqb-true first.0 frame same))) in
    rw alike refl

-- ---- a key that is put, the next in number

none_found : (frame : ℕ) (es : Entries) → AllByRecursion (λ other. nat_eq frame other ≡ false) (keys_of es) → lookup_entry (nat_eq frame) es ≡ None
none_found frame [] all = refl
none_found frame (e ∷ es) all = rw all.0 (none_found frame es all.1)

pub order_of_put : (count cap : ℕ) (es : Entries) → order_of es ≡ first_order count → count < cap → order_of (put_entries nat_eq (lru_cache es cap) count tt) ≡ first_order (count + 1)
order_of_put count cap es is below =
    let keys : List ℕ = keys_of es in
    let ordered : IsOrderOf count (reverse keys) = subst (IsOrderOf count) (sym is) (untouched_is_order count) in
    let others : All (λ other. nat_eq count other ≡ false) (reverse keys) =
    (λ k d within. let lower : get_or (reverse keys) k d < count = order_below count (reverse keys) ordered k d within in ne_eqb count (get_or (reverse keys) k d) (λ same. omega (arith, lower, same))) in
    let all : All (λ other. nat_eq count other ≡ false) keys = All-permutation (λ other. nat_eq count other ≡ false) (reverse keys) keys (IsPermutation-sym keys (reverse keys) (IsPermutation-reverse keys)) others in
    let none : lookup_entry (nat_eq count) es ≡ None = none_found count es (recursion_from_All (λ other. nat_eq count other ≡ false) keys all) in
    let long : length es ≡ count = sym (length-keys_of es) ∙ sym (length-reverse keys) ∙ order_long count (reverse keys) ordered in
    let room : take (cap - 1) es ≡ es = take_all (cap - 1) es (omega (arith, long, below)) in
    ap (λ (o : Option (ℕ × Unit {0})). order_of (option_map_or (λ e. (e.0, tt) ∷ remove_entry (nat_eq count) es) o ((count, tt) ∷ take (cap - 1) es))) none
    ∙ ap (λ (l : Entries). order_of ((count, tt) ∷ l)) room
    ∙ reverse_cons count keys
    ∙ ap (λ (l : List ℕ). l ++ count ∷ []) is
    ∙ sym (untouched_more count)

-- ---- the last of the entries is the first of the order

pub order_of_last : (es : Entries) (frame : ℕ) → order_of (es ++ (frame, tt) ∷ []) ≡ frame ∷ order_of es
order_of_last es frame = ap reverse (map-append (λ (e : ℕ × Unit {0}). e.0) es ((frame, tt) ∷ [])) ∙ reverse-append (keys_of es) (frame ∷ [])

-- a step of the walk
pub walked : (done : List ℕ) (es rest : Entries) (frame : ℕ) → es ≡ rest ++ (frame, tt) ∷ [] → (done ++ frame ∷ []) ++ order_of rest ≡ done ++ order_of es
walked done es rest frame is = append_assoc done (frame ∷ []) (order_of rest) ∙ ap (λ (l : List ℕ). done ++ l) (sym (order_of_last rest frame) ∙ ap order_of (sym is))
