-- The place of the first candidate that meets a test.
use Rattle.std.proofs.Common.{◌≡◌, ◌<◌, ◌≤◌, ℕ, zero, suc, Bool, true, false, ◌||◌, List, [], ◌∷◌, length, get_or, slice_get, Some, None, refl, sym, ◌∙◌, ap, subst, arith}
use Rattle.std.specs.Prelude.{filter, nat_lt}
use Rattle.std.specs.List.{list_any, position, position_or_len}
use Rattle.std.proofs.lemmas.Bool.{true≢false, cond-true, cond-false, lt-ltb}
use Rattle.std.proofs.lemmas.List.Quantifiers.{position-Some}
use Rattle.std.proofs.lemmas.Option.{get_or_from_slice_get, slice_get-get_or}
use Rattle.victim_choice.specs.declared.choose.Candidate.{Candidate}
use Rattle.victim_rules.specs.Rules.{IsFirstLeft, narrowed_candidates}

module _ (test : Candidate → Bool) where
  -- none below the place meets it
  abbrev pub Fails : List Candidate → ℕ → Type 0
  Fails given place = (before : ℕ) (c : Candidate) → before < place → slice_get given before ≡ Some c → test c ≡ false

  -- the candidates that meet it begin with the one at the place
  record IsFirstOf (given : List Candidate) (place : ℕ) (chosen : Candidate) : Type 0 where
    others : List Candidate
    left_ : filter test given ≡ chosen ∷ others

  first_of : (given : List Candidate) (place : ℕ) (chosen : Candidate) → slice_get given place ≡ Some chosen → test chosen ≡ true → Fails given place → IsFirstOf given place chosen
  first_of [] place chosen there passes fails = absurd cc
  first_of (c ∷ given) zero chosen there passes fails =
      let same : c ≡ chosen = cc in
      let met : test c ≡ true = ap test same ∙ passes in
      record { others = filter test given; left_ = cond-true (test c) _ _ met ∙ ap (λ (d : Candidate). d ∷ filter test given) same }
  first_of (c ∷ given) (suc place) chosen there passes fails =
      let rest : IsFirstOf given place chosen = first_of given place chosen there passes (λ before d below is. fails (suc before) d (omega (arith, below)) is) in
      record { others = rest.others; left_ = cond-false (test c) _ _ (fails zero c (omega arith) refl) ∙ rest.left_ }

  pub first_left : (given : List Candidate) (place : ℕ) (chosen : Candidate) → slice_get given place ≡ Some chosen → test chosen ≡ true → Fails given place → IsFirstLeft given (filter test given) place
  first_left given place chosen there passes fails =
      let is : IsFirstOf given place chosen = first_of given place chosen there passes fails in
      record {
        chosen = chosen;
        others = is.others;
        left_ = is.left_;
        there = there;
        first = λ before below same. true≢false (sym passes ∙ fails before chosen below same);
      }

  -- ---- by the place that a search answers

  pub found : (given : List Candidate) (place : ℕ) → position test given ≡ Some place → IsFirstLeft given (filter test given) place
  found [] place is = absurd cc
  found (c ∷ given) place is =
      let at : (d : Candidate) → (place < length (c ∷ given)) × (test (get_or (c ∷ given) place d) ≡ true) × ((k : ℕ) → k < place → test (get_or (c ∷ given) k d) ≡ false) = λ d. position-Some test (c ∷ given) place d is in
      first_left (c ∷ given) place (get_or (c ∷ given) place c) (slice_get-get_or (c ∷ given) place c (at c).0) (at c).1
      (λ before d below there. ap test (sym (get_or_from_slice_get (c ∷ given) before d d there)) ∙ (at d).2 before below)

  -- some candidate meets it, so one is found
  reaches : (given : List Candidate) → list_any test given ≡ true → position_or_len test given < length given
  reaches [] some = absurd (true≢false (sym some))
  reaches (c ∷ given) some = by (reaches given) (test c) refl
    where
      by : (list_any test given ≡ true → position_or_len test given < length given) → (b : Bool) → test c ≡ b → position_or_len test (c ∷ given) < length (c ∷ given)
      by more true is = rw is (omega arith)
      by more false is =
          let within : position_or_len test given < length given = more (subst (λ (b : Bool). (b || list_any test given) ≡ true) is some) in
          rw is (omega (arith, within))

  pub never_none : (given : List Candidate) → list_any test given ≡ true → position test given ≡ None → ⊥
  never_none given some none =
      let is : position test given ≡ Some (position_or_len test given) = cond-true (nat_lt (position_or_len test given) (length given)) _ _ (lt-ltb _ _ (reaches given some)) in
      absurd cc

  -- ---- by what is known of each candidate

  any_at : (given : List Candidate) (place : ℕ) (chosen : Candidate) → slice_get given place ≡ Some chosen → test chosen ≡ true → list_any test given ≡ true
  any_at [] place chosen there passes = absurd cc
  any_at (c ∷ given) zero chosen there passes = let same : c ≡ chosen = cc in rw (ap test same ∙ passes) refl
  any_at (c ∷ given) (suc place) chosen there passes = by (any_at given place chosen there passes) (test c)
    where
      by : list_any test given ≡ true → (b : Bool) → (b || list_any test given) ≡ true
      by more true = refl
      by more false = more

  none_of : (given : List Candidate) → Fails given (length given) → list_any test given ≡ false
  none_of [] fails = refl
  none_of (c ∷ given) fails = rw (fails zero c (omega arith) refl) (none_of given (λ before d below is. fails (suc before) d (omega (arith, below)) is))

  -- what a test narrows to begins with the first that meets it
  pub narrowed_at : (given : List Candidate) (place : ℕ) (chosen : Candidate) → slice_get given place ≡ Some chosen → test chosen ≡ true → Fails given place → IsFirstLeft given (narrowed_candidates test given) place
  narrowed_at given place chosen there passes fails =
      subst (λ (left : List Candidate). IsFirstLeft given left place) (sym (cond-true (list_any test given) _ _ (any_at given place chosen there passes))) (first_left given place chosen there passes fails)

  -- or with the first of all, where none does
  pub narrowed_nowhere : (given : List Candidate) → 1 ≤ length given → Fails given (length given) → IsFirstLeft given (narrowed_candidates test given) 0
  narrowed_nowhere [] some fails = absurd (omega (arith, some))
  narrowed_nowhere (c ∷ given) some fails =
      subst (λ (left : List Candidate). IsFirstLeft (c ∷ given) left 0) (sym (cond-false (list_any test (c ∷ given)) _ _ (none_of (c ∷ given) fails)))
      (record { chosen = c; others = given; left_ = refl; there = refl; first = λ before below same. omega (arith, below) })
