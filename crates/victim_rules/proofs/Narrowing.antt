-- What is left of a list is what meets the rules in force.
use Rattle.std.proofs.Common.{◌≡◌, ◌≤◌, Bool, true, false, ◌&&◌, List, [], ◌∷◌, ◌++◌, length, refl, sym, ◌∙◌, ap, arith}
use Rattle.std.specs.Prelude.{filter}
use Rattle.std.specs.List.{list_any}
use Rattle.std.proofs.lemmas.Bool.{cond-true, cond-false}
use Rattle.std.proofs.lemmas.List.Elements.{filter_agree}
use Rattle.victim_choice.specs.declared.choose.Candidate.{Candidate}
use Rattle.victim_rules.specs.declared.rule.Rule.{Rule}
use Rattle.victim_rules.specs.Rules.{holds, meets, narrowed_by}

abbrev Candidates : Type 0
Candidates = List Candidate

-- ---- tests

-- a test among those that meet another
any_filtered : (p test : Candidate → Bool) (cs : Candidates) → list_any test (filter p cs) ≡ list_any (λ c. p c && test c) cs
any_filtered p test [] = refl
any_filtered p test (c ∷ cs) = by (any_filtered p test cs) (p c) refl
  where
    by : list_any test (filter p cs) ≡ list_any (λ d. p d && test d) cs → (b : Bool) → p c ≡ b → list_any test (filter p (c ∷ cs)) ≡ list_any (λ d. p d && test d) (c ∷ cs)
    by more true is = rw (is, more) refl
    by more false is = rw (is, more) refl

filter_filtered : (p test : Candidate → Bool) (cs : Candidates) → filter test (filter p cs) ≡ filter (λ c. p c && test c) cs
filter_filtered p test [] = refl
filter_filtered p test (c ∷ cs) = by (filter_filtered p test cs) (p c) refl
  where
    by : filter test (filter p cs) ≡ filter (λ d. p d && test d) cs → (b : Bool) → p c ≡ b → filter test (filter p (c ∷ cs)) ≡ filter (λ d. p d && test d) (c ∷ cs)
    by more true is = rw (is, more) refl
    by more false is = rw (is, more) refl

any_agree : (p q : Candidate → Bool) → ((c : Candidate) → p c ≡ q c) → (cs : Candidates) → list_any p cs ≡ list_any q cs
any_agree p q same [] = refl
any_agree p q same (c ∷ cs) = rw (same c, any_agree p q same cs) refl

-- ---- a rule more

-- all of them hold, and it
and_assoc : (a b c : Bool) → (a && (b && c)) ≡ ((a && b) && c)
and_assoc true b c = refl
and_assoc false b c = refl

true_and : (a : Bool) → (a && true) ≡ a
true_and true = refl
true_and false = refl

pub meets_more : (given : Candidates) (rules : List Rule) (rule : Rule) (c : Candidate) → meets given (rules ++ rule ∷ []) c ≡ (meets given rules c && holds given rule c)
meets_more given [] rule c = true_and (holds given rule c)
meets_more given (r ∷ rules) rule c = ap (λ (b : Bool). holds given r c && b) (meets_more given rules rule c) ∙ and_assoc (holds given r c) (meets given rules c) (holds given rule c)

-- ---- the walk over the rules

module _ (given : Candidates) where
  -- a rule that narrows comes into force
  pub narrows_on : (force : List Rule) (rule : Rule) (rules : List Rule) → list_any (λ c. meets given force c && holds given rule c) given ≡ true
      → narrowed_by given (rule ∷ rules) (filter (meets given force) given) ≡ narrowed_by given rules (filter (meets given (force ++ rule ∷ [])) given)
  unfolding narrowed_by
  narrows_on force rule rules some =
      let found : list_any (holds given rule) (filter (meets given force) given) ≡ true = any_filtered (meets given force) (holds given rule) given ∙ some in
      ap (narrowed_by given rules) (cond-true (list_any (holds given rule) (filter (meets given force) given)) _ _ found
      ∙ filter_filtered (meets given force) (holds given rule) given
      ∙ filter_agree (λ (c : Candidate). meets given force c && holds given rule c) (meets given (force ++ rule ∷ [])) (λ c. sym (meets_more given force rule c)) given)

  pub meets_on : (force : List Rule) (rule : Rule) → list_any (λ c. meets given force c && holds given rule c) given ≡ true → list_any (meets given (force ++ rule ∷ [])) given ≡ true
  meets_on force rule some = any_agree (meets given (force ++ rule ∷ [])) (λ (c : Candidate). meets given force c && holds given rule c) (λ c. meets_more given force rule c) given ∙ some

  -- one that would leave none doesn't
  pub stays_on : (force : List Rule) (rule : Rule) (rules : List Rule) → list_any (λ c. meets given force c && holds given rule c) given ≡ false
      → narrowed_by given (rule ∷ rules) (filter (meets given force) given) ≡ narrowed_by given rules (filter (meets given force) given)
  unfolding narrowed_by
  stays_on force rule rules none =
      let lost : list_any (holds given rule) (filter (meets given force) given) ≡ false = any_filtered (meets given force) (holds given rule) given ∙ none in
      ap (narrowed_by given rules) (cond-false (list_any (holds given rule) (filter (meets given force) given)) _ _ lost)

  -- at the start none is in force
  pub all_meet : (cs : Candidates) → filter (meets given []) cs ≡ cs
  all_meet [] = refl
  all_meet (c ∷ cs) = ap (λ (l : Candidates). c ∷ l) (all_meet cs)

  -- and at the end all were looked at
  pub at_end : (left : Candidates) → narrowed_by given [] left ≡ left
  unfolding narrowed_by
  at_end left = refl

  pub some_meet : (cs : Candidates) → 1 ≤ length cs → list_any (meets given []) cs ≡ true
  some_meet [] some = absurd (omega (arith, some))
  some_meet (c ∷ cs) some = refl
