-- The request of a host, and those of the others, once one of them is put or taken out. Layers above cite these lemmas.
use Rattle.std.proofs.Common.{◌≡◌, ◌≢◌, inl, inr, ℕ, Bool, true, false, cond, List, [], ◌∷◌, ◌++◌, Option, Some, None, refl, sym, ◌∙◌, ap, subst}
use Rattle.std.specs.Prelude.{nat_eq, IsSome, is_some}
use Rattle.std.specs.List.{IsDistinct, AllByRecursion}
use Rattle.std.specs.Map.{keys_of}
use Rattle.std.proofs.lemmas.Bool.{cond-true, cond-false, eqb-true, eq-eqb, false≢true}
use Rattle.std.proofs.lemmas.Bool.Decides.{eqb_tells}
use Rattle.std.proofs.lemmas.Cmp.{nat_eq_equiv}
use Rattle.std.proofs.lemmas.Map.{lookup-set_value, lookup-remove_entry, keys-set_value}
use Rattle.std.proofs.lemmas.Map.Keys.{IsDistinct-head, IsDistinct-tail, IsDistinct-cons, IsDistinct-push}
use Rattle.std.proofs.lemmas.Map.Made.{is_some-lookup}
use Rattle.fault_queue.specs.declared.queue.Request.{Request}
use Rattle.std.specs.Option.{option_map}
use Rattle.fault_queue.specs.declared.queue.RequestState.{RequestState}
use Rattle.fault_queue.specs.Requests.{RequestsData, request_of, without_request, in_state, with_request_at, with_state, asked_as, put_request, IsOnce}

keyed : (h x y : ℕ) → nat_eq h x ≡ true → nat_eq h y ≡ nat_eq x y
keyed h x y is = ap (λ (n : ℕ). nat_eq n y) (eqb-true h x is)

other_key : (h k : ℕ) → k ≢ h → nat_eq h k ≡ false
other_key h k other = elim (eqb_tells h k) [
  | inl t ↦ absurd (other (sym t.1))
  | inr t ↦ t.0
]

-- ---- one more entry, at the end

last_same : (h : ℕ) (r : Request) (es : RequestsData) → request_of es h ≡ None → request_of (es ++ (h, r) ∷ []) h ≡ Some r
last_same h r [] none = cond-true _ _ _ (eq-eqb h h refl)
last_same h r (e ∷ es) none = by (last_same h r es) (nat_eq h e.0) refl
  where
    by : (request_of es h ≡ None → request_of (es ++ (h, r) ∷ []) h ≡ Some r) → (b : Bool) → nat_eq h e.0 ≡ b → request_of ((e ∷ es) ++ (h, r) ∷ []) h ≡ Some r
    by more true is = let some : ◌≡◌ {A = Option Request} (Some e.1) None = sym (cond-true (nat_eq h e.0) (Some e.1) (request_of es h) is) ∙ none in absurd cc
    by more false is = cond-false (nat_eq h e.0) (Some e.1) (request_of (es ++ (h, r) ∷ []) h) is ∙ more (sym (cond-false (nat_eq h e.0) (Some e.1) (request_of es h) is) ∙ none)

last_other : (h k : ℕ) (r : Request) (es : RequestsData) → k ≢ h → request_of (es ++ (h, r) ∷ []) k ≡ request_of es k
last_other h k r [] other = cond-false (nat_eq k h) (Some r) None (other_key k h (λ same. other (sym same)))
last_other h k r (e ∷ es) other = ap (cond (nat_eq k e.0) (Some e.1)) (last_other h k r es other)

-- ---- a request that is put

some_of : (o : Option Request) → is_some o ≡ true → IsSome o
some_of None is = absurd (false≢true is)
some_of (Some r) is = refl

none_of : (o : Option Request) → is_some o ≡ false → o ≡ None
none_of None is = refl
none_of (Some r) is = absurd (false≢true (sym is))

put_same : (requests : RequestsData) (h : ℕ) (r : Request) (b : Bool) → is_some (request_of requests h) ≡ b → request_of (asked_as h r b requests) h ≡ Some r
put_same requests h r true is = lookup-set_value nat_eq_equiv (nat_eq h) (keyed h) h r requests (some_of (request_of requests h) is) ∙ cond-true _ _ _ (eq-eqb h h refl)
put_same requests h r false is = last_same h r requests (none_of (request_of requests h) is)

put_other : (requests : RequestsData) (h k : ℕ) (r : Request) (b : Bool) → is_some (request_of requests h) ≡ b → k ≢ h → request_of (asked_as h r b requests) k ≡ request_of requests k
put_other requests h k r true is other = lookup-set_value nat_eq_equiv (nat_eq h) (keyed h) k r requests (some_of (request_of requests h) is) ∙ cond-false _ _ _ (other_key h k other)
put_other requests h k r false is other = last_other h k r requests other

pub request_same : (requests : RequestsData) (h : ℕ) (o : Option Request) → IsOnce requests → request_of (put_request requests h o) h ≡ o
request_same requests h None once = lookup-remove_entry nat_eq_equiv (nat_eq h) (keyed h) h requests once ∙ cond-true _ _ _ (eq-eqb h h refl)
request_same requests h (Some r) once = put_same requests h r (is_some (request_of requests h)) refl

pub request_other : (requests : RequestsData) (h k : ℕ) (o : Option Request) → IsOnce requests → k ≢ h → request_of (put_request requests h o) k ≡ request_of requests k
request_other requests h k None once other = lookup-remove_entry nat_eq_equiv (nat_eq h) (keyed h) k requests once ∙ cond-false _ _ _ (other_key h k other)
request_other requests h k (Some r) once other = put_other requests h k r (is_some (request_of requests h)) refl other

-- ---- no host has two

all_without : (P : ℕ → Type 0) (h : ℕ) (es : RequestsData) → AllByRecursion P (keys_of es) → AllByRecursion P (keys_of (without_request h es))
all_without P h [] all_ = all_
all_without P h (e ∷ es) all_ = by (all_without P h es all_.1) (nat_eq h e.0)
  where
    by : AllByRecursion P (keys_of (without_request h es)) → (b : Bool) → AllByRecursion P (keys_of (cond b es (e ∷ without_request h es)))
    by more true = all_.1
    by more false = (all_.0, more)

pub once_without : (h : ℕ) (es : RequestsData) → IsOnce es → IsOnce (without_request h es)
once_without h [] once = once
once_without h (e ∷ es) once = by (once_without h es (IsDistinct-tail nat_eq e.0 (keys_of es) once)) (nat_eq h e.0)
  where
    by : IsOnce (without_request h es) → (b : Bool) → IsDistinct nat_eq (keys_of (cond b es (e ∷ without_request h es)))
    by more true = IsDistinct-tail nat_eq e.0 (keys_of es) once
    by more false = IsDistinct-cons nat_eq e.0 (keys_of (without_request h es)) (all_without (λ y. nat_eq e.0 y ≡ false) h es (IsDistinct-head nat_eq e.0 (keys_of es) once)) more

keys_last : (h : ℕ) (r : Request) (es : RequestsData) → keys_of (es ++ (h, r) ∷ []) ≡ keys_of es ++ h ∷ []
keys_last h r [] = refl
keys_last h r (e ∷ es) = ap (λ (ks : List ℕ). e.0 ∷ ks) (keys_last h r es)

pub once_as : (requests : RequestsData) (h : ℕ) (r : Request) (b : Bool) → is_some (request_of requests h) ≡ b → IsOnce requests → IsOnce (asked_as h r b requests)
once_as requests h r true is once = subst (IsDistinct nat_eq) (sym (keys-set_value (nat_eq h) requests r)) once
once_as requests h r false is once =
    subst (IsDistinct nat_eq) (sym (keys_last h r requests)) (IsDistinct-push nat_eq_equiv (keys_of requests) h once (sym (is_some-lookup (nat_eq h) requests) ∙ is))

pub once_put : (requests : RequestsData) (h : ℕ) (o : Option Request) → IsOnce requests → IsOnce (put_request requests h o)
once_put requests h None once = once_without h requests once
once_put requests h (Some r) once = once_as requests h r (is_some (request_of requests h)) refl once

-- a request in another state is put in its place
pub with_state_is : (requests : RequestsData) (h : ℕ) (q : Request) (state : RequestState) → request_of requests h ≡ Some q → with_state h state requests ≡ put_request requests h (Some (record q { state = state }))
with_state_is requests h q state asked =
    ap (λ (o : Option Request). with_request_at h (option_map (in_state state) o) requests) asked
    ∙ sym (ap (λ (o : Option Request). asked_as h (record q { state = state }) (is_some o) requests) asked)
