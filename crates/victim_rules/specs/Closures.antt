-- Which place a closure that tests candidates may answer.
--
-- A closure is known only at the candidates that it was called on, so the relation speaks of the front of the list.
use Rattle.std.specs.Prelude.{◌≡◌, ◌<◌, ℕ, Bool, true, false, List, length, slice_get, Some}
use Rattle.std.specs.Borrow.{Bor}
use Rattle.std.specs.Fn.{Shared, FnReturnsAt}
use Rattle.victim_choice.specs.declared.choose.Candidate.{Candidate}

-- a closure over candidates
abbrev pub Test : Type 0 → Type 1
Test F = Shared F (Bor Candidate × Unit {0}) Bool

-- it can be called on every candidate
abbrev pub IsTest : {F : Type 0} → Test F → F → Type 0
IsTest fn test = (c : Bor Candidate) → fn.pre test (c, tt)

-- it refused each candidate below a place
abbrev pub Refuses : {F : Type 0} → Test F → F → List Candidate → ℕ → Type 0
Refuses fn test given place = (before : ℕ) (c : Candidate) → before < place
    → slice_get given before ≡ Some c → FnReturnsAt fn test c false

-- the place of the first candidate that it keeps, or of the first of all where it keeps none
pub data NarrowMay {F : Type 0} (fn : Test F) (test : F) (given : List Candidate) (place : ℕ)
    : Type 0 where
  one : (c : Candidate) → slice_get given place ≡ Some c → Refuses fn test given place
      → FnReturnsAt fn test c true → NarrowMay fn test given place
  none : Refuses fn test given (length given) → place ≡ 0 → NarrowMay fn test given place
