-- A closure that answers as a test does.
use Rattle.std.proofs.Common.{◌≡◌, ◌≤◌, ℕ, Bool, true, false, List, length, sym, subst}
use Rattle.std.specs.Fn.{FnReturnsAt}
use Rattle.victim_choice.specs.declared.choose.Candidate.{Candidate}
use Rattle.victim_rules.specs.Closures.{NarrowMay, Test, one, none}
use Rattle.victim_rules.specs.Rules.{IsFirstLeft, narrowed_candidates}
use Rattle.victim_rules.proofs.Places.{narrowed_at, narrowed_nowhere}

pub closure_narrows : {F : Type 0} (fn : Test F) (keeps : F) (test : Candidate → Bool) → ((c : Candidate) (answer : Bool) → FnReturnsAt fn keeps c answer → answer ≡ test c)
    → (given : List Candidate) (place : ℕ) → 1 ≤ length given → NarrowMay fn keeps given place → IsFirstLeft given (narrowed_candidates test given) place
closure_narrows fn keeps test answers given place some (one c there refuses keeps_it) =
    narrowed_at test given place c there (sym (answers c true keeps_it)) (λ before d below is. sym (answers d false (refuses before d below is)))
closure_narrows fn keeps test answers given place some (none refuses first) =
    subst (λ (n : ℕ). IsFirstLeft given (narrowed_candidates test given) n) (sym first) (narrowed_nowhere test given some (λ before d below is. sym (answers d false (refuses before d below is))))
