-- At most eight hosts have a request.
use Rattle.std.proofs.Common.{◌≡◌, inl, inr, ℕ, zero, suc, ◌<◌, ◌≤◌, Bool, true, false, ◌||◌, List, [], ◌∷◌, length, Option, Some, None, refl, sym, ◌∙◌, ap, arith}
use Rattle.std.specs.Prelude.{nat_eq, is_some}
use Rattle.std.specs.List.{list_any, AllByRecursion}
use Rattle.std.specs.Map.{keys_of}
use Rattle.std.proofs.lemmas.Bool.{cases_lt, false≢true, or_parts}
use Rattle.std.proofs.lemmas.Bool.Decides.{eqb_tells}
use Rattle.std.proofs.lemmas.List.{get_or_past}
use Rattle.std.proofs.lemmas.Map.Keys.{IsDistinct-cons}
use Rattle.std.proofs.lemmas.Map.Made.{is_some-lookup}
use Rattle.std.proofs.lemmas.Map.Entries.{length-keys_of}
use Rattle.std.proofs.lemmas.Map.Steps.{length-le_from_distinct_below}
use Rattle.ckd_plain.specs.declared.host.HostState.{HostState}
use Rattle.ckd_plain.specs.Plain.{fresh_host}
use Rattle.fault_queue.specs.declared.queue.Request.{Request}
use Rattle.fault_queue.specs.Requests.{request_of}
use Rattle.core_state.specs.CoreValue.{CoreValue}
use Rattle.core_state.specs.Pins.{host_at, is_on}
use Rattle.core_state.specs.IsCore.{IsCore}

some_request : (o : Option Request) → is_some o ≡ true → (r : Request) × (o ≡ Some r)
some_request None is = absurd (false≢true is)
some_request (Some r) is = (r, refl)

no_zero : (keys : List ℕ) → list_any (nat_eq zero) keys ≡ false → AllByRecursion (λ y. nat_eq zero y ≡ false) keys
no_zero [] is = tt
no_zero (k ∷ keys) is = let parts = or_parts (nat_eq zero k) (list_any (nat_eq zero) keys) is in (parts.0, no_zero keys parts.1)

module _ {S C : Type 0} (v : CoreValue S C) (core : IsCore v) where
  -- a host with a request has a volume mounted, so it is one of eight
  host_low : (h : ℕ) (r : Request) → request_of v.requests h ≡ Some r → h < 9
  host_low h r asked = elim (cases_lt h 9) [
    | inl lt ↦ lt
    | inr past ↦
        let long = core.hosts_ in
        let fresh : host_at v.hosts h ≡ fresh_host = get_or_past (fresh_host ∷ v.hosts) h fresh_host (omega (arith, long, past)) in
        absurd (false≢true (ap (λ (x : HostState). is_on r.volume x.mounted) (sym fresh) ∙ (core.on_mounted h r asked).0))
  ]

  zero_none : (r : Request) → request_of v.requests zero ≡ Some r → ⊥
  zero_none r asked = false≢true (core.on_mounted zero r asked).0

  asked_by : (h : ℕ) → list_any (nat_eq h) (keys_of v.requests) ≡ true → (r : Request) × (request_of v.requests h ≡ Some r)
  asked_by h is = some_request (request_of v.requests h) (is_some-lookup (nat_eq h) v.requests ∙ is)

  none_zero : (b : Bool) → list_any (nat_eq zero) (keys_of v.requests) ≡ b → b ≡ false
  none_zero true is = absurd (let r = asked_by zero is in zero_none r.0 r.1)
  none_zero false is = refl

  below_nine : (h : ℕ) → list_any (nat_eq h) (zero ∷ keys_of v.requests) ≡ true → h < 9
  below_nine zero is = omega arith
  below_nine (suc h) is = elim (eqb_tells (suc h) zero) [
    | inl e ↦ absurd (let z = e.1 in omega (arith, z))
    | inr e ↦ let r = asked_by (suc h) (sym (ap (λ (b : Bool). b || list_any (nat_eq (suc h)) (keys_of v.requests)) e.0) ∙ is) in host_low (suc h) r.0 r.1
  ]

  pub few_requests : length v.requests ≤ 8
  few_requests =
      let keys = length-keys_of v.requests in
      let none = no_zero (keys_of v.requests) (none_zero (list_any (nat_eq zero) (keys_of v.requests)) refl) in
      let nine = length-le_from_distinct_below (zero ∷ keys_of v.requests) 9 (IsDistinct-cons nat_eq zero (keys_of v.requests) none core.requests_) below_nine in
      omega (arith, keys, nine)
