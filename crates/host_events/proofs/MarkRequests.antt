-- The request of a host whose cylinder is marked: asked for before the change, and gone where the change failed.
use Rattle.std.proofs.Common.{◌≡◌, ℕ, Bool, true, false, cond, [], ◌∷◌, ◌++◌, Option, Some, None, refl, sym, ◌∙◌, ap}
use Rattle.std.specs.Prelude.{nat_eq, is_some, IsSome}
use Rattle.std.proofs.lemmas.Bool.{cond-true, cond-false, eq-eqb}
use Rattle.fault_queue.specs.declared.queue.Request.{Request}
use Rattle.fault_queue.specs.declared.queue.RequestState.TheVariants.{Ready}
use Rattle.fault_queue.specs.Requests.{RequestsData, request_of, with_state, without_request, asked_as, put_request}
use Rattle.fault_queue.proofs.RequestFacts.{with_state_is}
use Rattle.core_state.proofs.RuleWalks.{none_some}
use Rattle.host_events.specs.Parts.{asked_for, made_ready, given_up}

-- a request that was put last for a host that had none is taken out again
without_last : (h : ℕ) (r : Request) (es : RequestsData) → request_of es h ≡ None → without_request h (es ++ (h, r) ∷ []) ≡ es
without_last h r [] none = cond-true _ _ _ (eq-eqb h h refl)
without_last h r (e ∷ es) none = by (without_last h r es) (nat_eq h e.0) refl
  where
    by : (request_of es h ≡ None → without_request h (es ++ (h, r) ∷ []) ≡ es) → (b : Bool) → nat_eq h e.0 ≡ b → without_request h ((e ∷ es) ++ (h, r) ∷ []) ≡ e ∷ es
    by more true is = absurd (none_some e.1 (sym none ∙ cond-true (nat_eq h e.0) (Some e.1) (request_of es h) is))
    by more false is =
        cond-false (nat_eq h e.0) (es ++ (h, r) ∷ []) (e ∷ without_request h (es ++ (h, r) ∷ [])) is
        ∙ ap (λ (l : RequestsData). e ∷ l) (more (sym (cond-false (nat_eq h e.0) (Some e.1) (request_of es h) is) ∙ none))

none_of : (o : Option Request) → is_some o ≡ false → o ≡ None
none_of None is = refl
none_of (Some r) is = absurd (let e : true ≡ false = is in cc)

module _ (h : ℕ) (r : Request) (requests : RequestsData) (had : Bool) (is : had ≡ is_some (request_of requests h)) (asked : RequestsData) (asked_is : asked ≡ asked_for h r had requests) where
  pub had_has : had ≡ true → IsSome (request_of asked h)
  had_has yes_ = ap (λ (l : RequestsData). is_some (request_of l h)) (asked_is ∙ cond-true _ _ _ yes_) ∙ sym is ∙ yes_

  -- once the change is written
  pub ready_is : (new : RequestsData) → new ≡ made_ready h had asked
      → new ≡ cond (is_some (request_of requests h)) (with_state h Ready requests) (requests ++ (h, r) ∷ [])
  ready_is new new_is = new_is ∙ ap (made_ready h had) asked_is ∙ by had ∙ ap (λ (b : Bool). cond b (with_state h Ready requests) (requests ++ (h, r) ∷ [])) is
    where
      by : (b : Bool) → made_ready h b (asked_for h r b requests) ≡ cond b (with_state h Ready requests) (requests ++ (h, r) ∷ [])
      by true = refl
      by false = refl

  -- where it wasn't
  pub gone_is : (new : RequestsData) → new ≡ given_up h had asked → new ≡ requests
  gone_is new new_is = new_is ∙ ap (given_up h had) asked_is ∙ by had is
    where
      by : (b : Bool) → b ≡ is_some (request_of requests h) → given_up h b (asked_for h r b requests) ≡ requests
      by true has = refl
      by false none = without_last h r requests (none_of (request_of requests h) (sym none))

-- the host's request is this one, where one that it had is of the same cylinder
pub ready_put : (h : ℕ) (r : Request) (requests : RequestsData) → ((q : Request) → request_of requests h ≡ Some q → record q { state = Ready } ≡ r)
    → cond (is_some (request_of requests h)) (with_state h Ready requests) (requests ++ (h, r) ∷ []) ≡ put_request requests h (Some r)
ready_put h r requests same = by (request_of requests h) refl
  where
    by : (o : Option Request) → request_of requests h ≡ o → cond (is_some (request_of requests h)) (with_state h Ready requests) (requests ++ (h, r) ∷ []) ≡ put_request requests h (Some r)
    by None at =
        ap (λ (o : Option Request). cond (is_some o) (with_state h Ready requests) (requests ++ (h, r) ∷ [])) at
        ∙ sym (ap (λ (o : Option Request). asked_as h r (is_some o) requests) at)
    by (Some q) at =
        ap (λ (o : Option Request). cond (is_some o) (with_state h Ready requests) (requests ++ (h, r) ∷ [])) at
        ∙ with_state_is requests h q Ready at ∙ ap (λ (k : Request). put_request requests h (Some k)) (same q at)
