-- A queue of which one request got another state.
use Rattle.std.proofs.Common.{◌≡◌, ◌⊎◌, inl, inr, ℕ, Option, Some, None, refl, sym, ◌∙◌, ap}
use Rattle.std.specs.Option.{option_map}
use Rattle.std.proofs.lemmas.Bool.{cases_eq}
use Rattle.fault_queue.specs.declared.queue.Request.{Request}
use Rattle.fault_queue.specs.declared.queue.RequestState.{RequestState}
use Rattle.fault_queue.specs.declared.queue.RequestState.TheVariants.{Ready, Failed}
use Rattle.fault_queue.specs.Requests.{RequestsData, request_of, with_state, put_request, in_state, with_request_at, IsOnce}
use Rattle.fault_queue.proofs.RequestFacts.{request_same, request_other, with_state_is}
use Rattle.core_state.proofs.RuleWalks.{some_is}
use Rattle.work_events.specs.Steps.{FailsNone}

-- any request of it has that state, or was there before
pub restated : (requests : RequestsData) (h k : ℕ) (state : RequestState) (q : Request) → IsOnce requests → request_of (with_state h state requests) k ≡ Some q → (request_of requests k ≡ Some q) ⊎ (q.state ≡ state)
restated requests h k state q once at = by (request_of requests h) refl
  where
    by : (o : Option Request) → request_of requests h ≡ o → (request_of requests k ≡ Some q) ⊎ (q.state ≡ state)
    by None none =
        let same : with_state h state requests ≡ requests = ap (λ (o : Option Request). with_request_at h (option_map (in_state state) o) requests) none in
        inl (sym (ap (λ (x : RequestsData). request_of x k) same) ∙ at)
    by (Some p) asked =
        let put : with_state h state requests ≡ put_request requests h (Some (record p { state = state })) = with_state_is requests h p state asked in
        let found : request_of (put_request requests h (Some (record p { state = state }))) k ≡ Some q = sym (ap (λ (x : RequestsData). request_of x k) put) ∙ at in
        elim (cases_eq k h) [
          | inl same ↦
              let here : request_of (put_request requests h (Some (record p { state = state }))) k ≡ Some (record p { state = state }) =
              ap (request_of (put_request requests h (Some (record p { state = state })))) same ∙ request_same requests h (Some (record p { state = state })) once in
              inr (ap (λ (x : Request). x.state) (sym (some_is (record p { state = state }) q (sym here ∙ found))))
          | inr other ↦ inl (sym (request_other requests h k (Some (record p { state = state })) once other) ∙ found)
        ]

-- where that one is ready, none has failed that hadn't
pub ready_fails_none : (requests new : RequestsData) (h : ℕ) → IsOnce requests → new ≡ with_state h Ready requests → FailsNone requests new
ready_fails_none requests new h once is = λ k fault q at failed.
    elim (restated requests h k Ready q once (sym (ap (λ (x : RequestsData). request_of x k) is) ∙ at)) [
      | inl before ↦ before
      | inr ready ↦ absurd (let e : Ready ≡ Failed fault = sym ready ∙ failed in cc)
    ]
