-- A frame that was chosen.
use Rattle.std.specs.Prelude.{◌≡◌, ℕ, List, slice_get, Some}
use Rattle.victim_choice.specs.declared.choose.Candidate.{Candidate}

-- it is one of the candidates, at a place that may be answered
abbrev pub MayAnswer : (List Candidate → ℕ → Type 0) → List Candidate → Candidate → Type 0
MayAnswer may choices c = (place : ℕ) × may choices place × (slice_get choices place ≡ Some c)
