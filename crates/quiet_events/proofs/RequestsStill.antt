-- What stays so of hosts' requests when one of them gets another state.
use Rattle.std.proofs.Common.{◌≡◌, inl, inr, ℕ, Bool, true, false, ◌||◌, cond, [], ◌∷◌, Option, Some, None, refl, sym, ◌∙◌, ap, subst}
use Rattle.std.specs.Prelude.{nat_eq, is_some}
use Rattle.std.specs.Option.{option_map}
use Rattle.std.specs.List.{list_any}
use Rattle.std.specs.Map.{set_value}
use Rattle.std.proofs.lemmas.Bool.{false≢true}
use Rattle.std.proofs.lemmas.Bool.Decides.{eqb_tells}
use Rattle.mss_base.specs.Firsts.{where_so}
use Rattle.fault_queue.specs.declared.queue.Request.{Request}
use Rattle.fault_queue.specs.declared.queue.RequestState.{RequestState}
use Rattle.fault_queue.specs.Requests.{RequestsData, request_of, in_state, with_request_at, with_state, IsOnce}
use Rattle.fault_queue.proofs.RequestFacts.{request_same, request_other, with_state_is}
use Rattle.core_state.proofs.RuleWalks.{some_is}

-- what is so of each request and itself, and of each and the same in the new state, is so of each host's before and after
module _ (requests : RequestsData) (once : IsOnce requests) (h : ℕ) (state : RequestState) (R : Option Request → Option Request → Type 0)
    (same : (o : Option Request) → R o o) (changed : (q : Request) → R (Some q) (Some (in_state state q))) where
  pub asked_still : (g : ℕ) → R (request_of requests g) (request_of (with_state h state requests) g)
  asked_still g = by (request_of requests h) refl
    where
      by : (o : Option Request) → request_of requests h ≡ o → R (request_of requests g) (request_of (with_state h state requests) g)
      by None none =
          subst (λ (rs : RequestsData). R (request_of requests g) (request_of rs g))
          (sym (ap (λ (o : Option Request). with_request_at h (option_map (in_state state) o) requests) none)) (same (request_of requests g))
      by (Some q) asked =
          let put = with_state_is requests h q state asked in
          elim (eqb_tells g h) [
            | inl e ↦
                let before : request_of requests g ≡ Some q = ap (request_of requests) e.1 ∙ asked in
                let after : request_of (with_state h state requests) g ≡ Some (in_state state q) =
                (λ i. request_of (put i) (e.1 i)) ∙ request_same requests h (Some (in_state state q)) once in
                subst (λ (o : Option Request). R o (request_of (with_state h state requests) g)) (sym before) (subst (R (Some q)) (sym after) (changed q))
            | inr e ↦
                let after : request_of (with_state h state requests) g ≡ request_of requests g =
                ap (λ (rs : RequestsData). request_of rs g) put ∙ request_other requests h g (Some (in_state state q)) once e.1 in
                subst (R (request_of requests g)) (sym after) (same (request_of requests g))
          ]

-- the queue, where the host's request is this one
pub queue_is : (requests : RequestsData) (h : ℕ) (q : Request) (state : RequestState) → request_of requests h ≡ Some q → with_state h state requests ≡ set_value (nat_eq h) requests (in_state state q)
queue_is requests h q state asked = ap (λ (o : Option Request). with_request_at h (option_map (in_state state) o) requests) asked

-- some request passes a test still, where the one that is changed didn't
pub any_still : (test : Request → Bool) (h : ℕ) (q new : Request) (requests : RequestsData) → request_of requests h ≡ Some q → test q ≡ false
    → list_any (λ e. test e.1) requests ≡ true → list_any (λ e. test e.1) (set_value (nat_eq h) requests new) ≡ true
any_still test h q new [] asked fails any = absurd (false≢true any)
any_still test h q new (e ∷ es) asked fails any = by (any_still test h q new es) (nat_eq h e.0) refl
  where
    either_still : (a b c : Bool) → (b ≡ true → c ≡ true) → (a || b) ≡ true → (a || c) ≡ true
    either_still true b c more any = refl
    either_still false b c more any = more any

    behind : (a b c : Bool) → a ≡ false → (a || b) ≡ true → (c || b) ≡ true
    behind a b true fails any = refl
    behind true b false fails any = absurd (false≢true (sym fails))
    behind false b false fails any = any

    by : (request_of es h ≡ Some q → test q ≡ false → list_any (λ e. test e.1) es ≡ true → list_any (λ e. test e.1) (set_value (nat_eq h) es new) ≡ true)
        → (b : Bool) → nat_eq h e.0 ≡ b → list_any (λ e. test e.1) (cond b ((e.0, new) ∷ es) (e ∷ set_value (nat_eq h) es new)) ≡ true
    by more true is =
        let this : e.1 ≡ q = some_is e.1 q (sym (ap (λ (b : Bool). cond b (Some e.1) (request_of es h)) is) ∙ asked) in
        behind (test e.1) (list_any (λ e. test e.1) es) (test new) (ap test this ∙ fails) any
    by more false is =
        either_still (test e.1) (list_any (λ e. test e.1) es) (list_any (λ e. test e.1) (set_value (nat_eq h) es new))
        (more (sym (ap (λ (b : Bool). cond b (Some e.1) (request_of es h)) is) ∙ asked) fails) any

-- whether something is there doesn't look at what it is
pub some_where : {A : Type 0} (b : Bool) (x y : A) → is_some (where_so b x) ≡ is_some (where_so b y)
some_where true x y = refl
some_where false x y = refl
