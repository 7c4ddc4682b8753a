-- One host's request is another one, or none, and those of the others stay.
use Rattle.std.proofs.Common.{◌≡◌, ◌≢◌, ℕ, Bool, true, false, ◌∷◌, [], ◌++◌, Option, Some, None, is_some, refl, sym, ◌∙◌, ap}
use Rattle.std.specs.Prelude.{if◌then◌else◌}
use Rattle.std.proofs.lemmas.Bool.{false≢true}
use Rattle.fault_queue.specs.declared.queue.Request.{Request}
use Rattle.fault_queue.specs.declared.queue.RequestState.{RequestState}
use Rattle.fault_queue.specs.Requests.{RequestsData, request_of, in_state, with_state, asked_as, put_request, IsOnce}
use Rattle.fault_queue.proofs.RequestFacts.{request_same, request_other, with_state_is}
use Rattle.core_state.specs.CoreValue.{CoreData}
use Rattle.core_state.specs.Steps.{with_request}

pub record OnlyOne (old new : RequestsData) (h : ℕ) (mine : Option Request) : Type 0 where
  pub own : request_of new h ≡ mine
  pub others : (j : ℕ) → j ≢ h → request_of new j ≡ request_of old j

-- this one is put, or taken out
pub one_put : (old new : RequestsData) (h : ℕ) (mine : Option Request) → IsOnce old → new ≡ put_request old h mine → OnlyOne old new h mine
one_put old new h mine once is = record {
  own = ap (λ (q : RequestsData). request_of q h) is ∙ request_same old h mine once;
  others = λ j apart. ap (λ (q : RequestsData). request_of q j) is ∙ request_other old h j mine once apart;
}

-- it is in another state
pub one_stated : (old : RequestsData) (h : ℕ) (r : Request) (state : RequestState) → IsOnce old → request_of old h ≡ Some r → OnlyOne old (with_state h state old) h (Some (in_state state r))
one_stated old h r state once has = one_put old (with_state h state old) h (Some (in_state state r)) once (with_state_is old h r state has)

-- it is made, where there is none, or is in another state
module _ (core : CoreData) (once : IsOnce core.requests) (h volume cylinder : ℕ) (state : RequestState) where
  abbrev made : Request
  made = record { volume = volume; cylinder = cylinder; state = state }

  pub made_put : request_of core.requests h ≡ None → (with_request h volume cylinder state core).requests ≡ put_request core.requests h (Some made)
  made_put none = by_test (is_some (request_of core.requests h)) (ap is_some none) where
    by_test : (b : Bool) → b ≡ false → (if b then with_state h state core.requests else (core.requests ++ (h, made) ∷ [])) ≡ asked_as h made b core.requests
    by_test true some = absurd (false≢true (sym some))
    by_test false some = refl

  pub one_made : request_of core.requests h ≡ None
      → OnlyOne core.requests (with_request h volume cylinder state core).requests h (Some (record { volume = volume; cylinder = cylinder; state = state }))
  one_made none = one_put core.requests (with_request h volume cylinder state core).requests h (Some made) once (made_put none)

  pub one_remade : (r : Request) → request_of core.requests h ≡ Some r → OnlyOne core.requests (with_request h volume cylinder state core).requests h (Some (in_state state r))
  one_remade r has = one_put core.requests (with_request h volume cylinder state core).requests h (Some (in_state state r)) once
      (by_test (is_some (request_of core.requests h)) (ap is_some has) ∙ with_state_is core.requests h r state has) where
        by_test : (b : Bool) → b ≡ true → (if b then with_state h state core.requests else (core.requests ++ (h, record { volume = volume; cylinder = cylinder; state = state }) ∷ [])) ≡ with_state h state core.requests
        by_test true some = refl
        by_test false some = absurd (false≢true some)
