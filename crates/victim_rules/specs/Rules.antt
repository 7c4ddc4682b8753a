-- Whether a rule holds of a candidate, what rules leave of a list, and which place they answer.
use Rattle.std.specs.Prelude.{◌≡◌, ◌≢◌, ◌<◌, ◌==◌, ℕ, Bool, not, nat_lt, List, [], ◌∷◌, count_by}
use Rattle.std.specs.Prelude.{filter, slice_get, Some, if◌then◌else◌}
use Rattle.std.specs.List.{list_all, list_any}
use Rattle.victim_choice.specs.declared.choose.Candidate.{Candidate}
use Rattle.victim_rules.specs.declared.rule.Rule.{Rule}
use Rattle.victim_rules.specs.declared.rule.Rule.TheVariants.{Clean, Quota, Avoid}

-- how many candidates are of a volume
abbrev pub count_on : ℕ → List Candidate → ℕ
count_on volume given = count_by (λ (c : Candidate). c.volume == volume) given

-- whether a rule holds of a candidate, where the chooser was given this list
abbrev pub holds : List Candidate → Rule → Candidate → Bool
holds given Clean c = c.changed == 0
holds given (Quota most) c = nat_lt most (count_on c.volume given)
holds given (Avoid volume) c = not (c.volume == volume)

-- those of which a test holds, in their order, or all where it holds of none
abbrev pub narrowed_candidates : (Candidate → Bool) → List Candidate → List Candidate
narrowed_candidates test left = if list_any test left then filter test left else left

-- what each rule in turn leaves of those that are left
unfoldable pub narrowed_by : List Candidate → List Rule → List Candidate → List Candidate
narrowed_by given [] left = left
narrowed_by given (rule ∷ rules) left =
    narrowed_by given rules (narrowed_candidates (holds given rule) left)

-- all of these rules hold of a candidate
abbrev pub meets : List Candidate → List Rule → Candidate → Bool
meets given rules c = list_all (λ (rule : Rule). holds given rule c) rules

-- in the list that was given this is the place of the first of those that are left
pub record IsFirstLeft (given left : List Candidate) (place : ℕ) : Type 0 where
  pub chosen : Candidate
  pub others : List Candidate
  pub left_ : left ≡ chosen ∷ others
  pub there : slice_get given place ≡ Some chosen
  pub first : (before : ℕ) → before < place → slice_get given before ≢ Some chosen

-- rules may answer one place: of the first candidate that they leave
abbrev pub RulesMay : List Rule → List Candidate → ℕ → Type 0
RulesMay rules given place = IsFirstLeft given (narrowed_by given rules given) place
