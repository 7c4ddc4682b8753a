-- Until it is replied a host is told at most once that its write may go on.
use Rattle.std.proofs.Common.{◌≡◌, ◌⊎◌, inl, inr, ℕ, ◌≤◌, ◌==◌, Bool, true, false, List, [], ◌∷◌, refl, sym, ◌∙◌, ap, subst, arith}
use Rattle.std.proofs.lemmas.Bool.{cases_Bool, both_ways, eqb-true, false≢true}
use Rattle.victim_choice.specs.declared.choose.Candidate.{Candidate}
use Rattle.core_state.specs.declared.rule.WorkAnswer.{WorkAnswer}
use Rattle.core_state.specs.declared.rule.WorkAnswer.TheVariants.{Did, Idle, Stopped, Memory}
use Rattle.core_state.specs.Chains.{Step, called, worked, is_end, OneOf}
use Rattle.core_state.specs.CoreValue.{CoreData}
use Rattle.core_state.specs.HostEvents.{HostTold, replied, marked, waits, halts, at_limit, no_memory, HostEvent}
use Rattle.core_state.specs.IsCore.{IsCore}
use Rattle.core_state.specs.WorkEvents.{WorkEvent}
use Rattle.core_progress.specs.Rounds.{NoReply, marks_told, AreEvents}
use Rattle.core_progress.specs.WorkLeft.{is_marked}
use Rattle.core_progress.proofs.HostLeaves.{marks_stay, marked_anew}
use Rattle.core_progress.proofs.SettleFalls.{settle_falls}
use Rattle.core_progress.proofs.WorkAnswers.{idle_same}

module _ (tells : Type 0) (may : List Candidate → ℕ → Type 0) (h : ℕ) where
  -- after an end no event follows
  rest_of : (step : Step) (steps : List Step) (left next : CoreData) → OneOf (is_end step) ((steps ≡ []) × (left ≡ next)) (AreEvents tells may next steps left) → (steps ≡ []) ⊎ AreEvents tells may next steps left
  rest_of step steps left next on = by_test (is_end step) on where
    by_test : (b : Bool) → OneOf b ((steps ≡ []) × (left ≡ next)) (AreEvents tells may next steps left) → (steps ≡ []) ⊎ AreEvents tells may next steps left
    by_test true ends = inl ends.0
    by_test false goes = inr goes

  none_in : (steps : List Step) → steps ≡ [] → marks_told h steps ≡ 0
  none_in steps is = ap (marks_told h) is

  -- a recorder leaves the mark
  work_keeps : (core next : CoreData) → IsCore core → (recorder : ℕ) (told : WorkAnswer) → is_end (worked recorder told) ≡ false → WorkEvent tells may core recorder told next → is_marked core h ≡ true → is_marked next h ≡ true
  work_keeps core next kept recorder (Did what) on event m = (settle_falls tells may core next recorder what kept event).1.marks_ h m
  work_keeps core next kept recorder Idle on event m = ap (λ (c : CoreData). is_marked c h) (idle_same tells may core next recorder event).1.1 ∙ m
  work_keeps core next kept recorder (Stopped fault) on event m = absurd (false≢true (sym on))
  work_keeps core next kept recorder Memory on event m = absurd (false≢true (sym on))

  -- a host that is marked isn't told so again
  none_more : (steps : List Step) (core left : CoreData) → is_marked core h ≡ true → AreEvents tells may core steps left → NoReply h steps → marks_told h steps ≡ 0
  none_more [] core left m events none = refl
  none_more (worked recorder told ∷ steps) core left m events none = elim (cases_Bool (is_end (worked recorder told))) [
    | inl ends ↦ none_in steps (subst (λ (b : Bool). OneOf b ((steps ≡ []) × (left ≡ events.1)) (AreEvents tells may events.1 steps left)) ends events.3).0
    | inr goes ↦ none_more steps events.1 left (work_keeps core events.1 events.0 recorder told goes events.2 m)
        (subst (λ (b : Bool). OneOf b ((steps ≡ []) × (left ≡ events.1)) (AreEvents tells may events.1 steps left)) goes events.3) none
  ]
  none_more (called k call told ∷ steps) core left m events none = by_told told events.2 events.3 none (none_more steps) where
    by_told : (t : HostTold) → HostEvent tells core k call t events.1 → OneOf (is_end (called k call t)) ((steps ≡ []) × (left ≡ events.1)) (AreEvents tells may events.1 steps left) → NoReply h (called k call t ∷ steps) → ((c l : CoreData) → is_marked c h ≡ true → AreEvents tells may c steps l → NoReply h steps → marks_told h steps ≡ 0) → marks_told h (called k call t ∷ steps) ≡ 0
    by_told (replied index reply) event on quiet more = more events.1 left (marks_stay tells core events.1 events.0 k call (replied index reply) event h (λ same. absurd (quiet.0 same)) m) on quiet.1
    by_told marked event on quiet more = elim (cases_Bool (k == h)) [
      | inl same ↦ absurd (both_ways (is_marked core k) (marked_anew tells core events.1 events.0 k call event).0 (ap (is_marked core) (eqb-true k h same) ∙ m))
      | inr other ↦ let a = more events.1 left (marks_stay tells core events.1 events.0 k call marked event h (λ _. refl) m) on quiet in rw other (omega (arith, a))
    ]
    by_told (waits w) event on quiet more = more events.1 left (marks_stay tells core events.1 events.0 k call (waits w) event h (λ _. refl) m) on quiet
    by_told (halts fault) event on quiet more = none_in steps on.0
    by_told at_limit event on quiet more = none_in steps on.0
    by_told no_memory event on quiet more = none_in steps on.0

  none_at_most : (steps : List Step) → steps ≡ [] → marks_told h steps ≤ 1
  none_at_most steps is = let e = none_in steps is in omega (arith, e)

  pub at_most_one : (steps : List Step) (core left : CoreData) → AreEvents tells may core steps left → NoReply h steps → marks_told h steps ≤ 1
  at_most_one [] core left events none = omega arith
  at_most_one (worked recorder told ∷ steps) core left events none = elim (rest_of (worked recorder told) steps left events.1 events.3) [
    | inl ends ↦ none_at_most steps ends
    | inr goes ↦ at_most_one steps events.1 left goes none
  ]
  at_most_one (called k call told ∷ steps) core left events none = by_told told events.2 events.3 none (at_most_one steps) where
    by_told : (t : HostTold) → HostEvent tells core k call t events.1 → OneOf (is_end (called k call t)) ((steps ≡ []) × (left ≡ events.1)) (AreEvents tells may events.1 steps left) → NoReply h (called k call t ∷ steps) → ((c l : CoreData) → AreEvents tells may c steps l → NoReply h steps → marks_told h steps ≤ 1) → marks_told h (called k call t ∷ steps) ≤ 1
    by_told (replied index reply) event on quiet more = more events.1 left on quiet.1
    by_told marked event on quiet more = elim (cases_Bool (k == h)) [
      | inl same ↦
          let m = ap (is_marked events.1) (sym (eqb-true k h same)) ∙ (marked_anew tells core events.1 events.0 k call event).1 in
          let a = none_more steps events.1 left m on quiet in
          rw (same, a) (omega arith)
      | inr other ↦ let a = more events.1 left on quiet in rw other (omega (arith, a))
    ]
    by_told (waits w) event on quiet more = more events.1 left on quiet
    by_told (halts fault) event on quiet more = none_at_most steps on.0
    by_told at_limit event on quiet more = none_at_most steps on.0
    by_told no_memory event on quiet more = none_at_most steps on.0
