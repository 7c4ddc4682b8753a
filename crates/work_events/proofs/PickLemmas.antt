-- Walks over the queue by place.
use Rattle.std.proofs.Common.{◌≡◌, ℕ, zero, suc, ◌+◌, ◌<◌, Bool, true, false, ◌||◌, List, [], ◌∷◌, drop, Option, Some, None, refl, ◌∙◌, ap, arith}
use Rattle.std.specs.Prelude.{slice_get, IfSome}
use Rattle.std.specs.List.{list_any}
use Rattle.mss_base.specs.Firsts.{◌or◌}
use Rattle.fault_queue.specs.declared.queue.Request.{Request}
use Rattle.fault_queue.specs.Requests.{RequestsData}
use Rattle.core_state.specs.declared.rule.WorkRule.{WorkRule}
use Rattle.core_state.specs.CoreValue.{CoreValue}
use Rattle.core_state.specs.WorkRules.{pick_for, first_pick}

pub some_below : (o : Option ℕ) (n : ℕ) → ((f : ℕ) → o ≡ Some f → f < n) → IfSome o (λ f. f < n)
some_below None n each = tt
some_below (Some f) n each = each f refl

drop_at : {A : Type 0} (xs : List A) (i : ℕ) (x : A) → slice_get xs i ≡ Some x → drop i xs ≡ x ∷ drop (i + 1) xs
drop_at [] i x e = absurd cc
drop_at (y ∷ ys) zero x e = let same : y ≡ x = cc in ap (λ z. z ∷ ys) same
drop_at (y ∷ ys) (suc i) x e = let one : i + 1 + 1 ≡ suc i + 1 = omega arith in
    let further : suc (i + 1) ≡ suc i + 1 = omega arith in
    drop_at ys i x e ∙ ap (λ (k : ℕ). x ∷ drop k (y ∷ ys)) further

drop_past : {A : Type 0} (xs : List A) (i : ℕ) → slice_get xs i ≡ None → drop i xs ≡ []
drop_past [] zero e = refl
drop_past [] (suc i) e = refl
drop_past (y ∷ ys) zero e = absurd cc
drop_past (y ∷ ys) (suc i) e = drop_past ys i e

-- ---- whether some item from a place on passes

module _ {A : Type 0} (test : A → Bool) (xs : List A) (place : ℕ) where
  pub any_end : slice_get xs place ≡ None → list_any test (drop place xs) ≡ false
  any_end e = ap (list_any test) (drop_past xs place e)

  pub any_here : (x : A) → slice_get xs place ≡ Some x → test x ≡ true → list_any test (drop place xs) ≡ true
  any_here x e passes = ap (list_any test) (drop_at xs place x e) ∙ ap (λ (b : Bool). b || list_any test (drop (place + 1) xs)) passes

  pub any_next : (x : A) → slice_get xs place ≡ Some x → test x ≡ false → list_any test (drop place xs) ≡ list_any test (drop (place + 1) xs)
  any_next x e fails = ap (list_any test) (drop_at xs place x e) ∙ ap (λ (b : Bool). b || list_any test (drop (place + 1) xs)) fails

-- ---- the first rule from a place on

module _ {S C : Type 0} (core : CoreValue S C) (requests : RequestsData) (place : ℕ) where
  pub picks_end : slice_get requests place ≡ None → first_pick core (drop place requests) ≡ None
  picks_end e = ap (first_pick core) (drop_past requests place e)

  pub picks_here : (h : ℕ) (r : Request) (rule : WorkRule) → slice_get requests place ≡ Some (h, r) → pick_for core h r r.state ≡ Some rule → first_pick core (drop place requests) ≡ Some rule
  picks_here h r rule e found = ap (first_pick core) (drop_at requests place (h, r) e) ∙ ap (λ (o : Option WorkRule). o or first_pick core (drop (place + 1) requests)) found

  pub picks_next : (h : ℕ) (r : Request) → slice_get requests place ≡ Some (h, r) → pick_for core h r r.state ≡ None → first_pick core (drop place requests) ≡ first_pick core (drop (place + 1) requests)
  picks_next h r e none = ap (first_pick core) (drop_at requests place (h, r) e) ∙ ap (λ (o : Option WorkRule). o or first_pick core (drop (place + 1) requests)) none
