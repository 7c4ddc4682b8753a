-- Up to eight rules in an array of eight.
use Rattle.std.specs.Prelude.{◌≡◌, ◌≤◌, ◌-◌, ◌++◌, ℕ, List, length, replicate, take}
use Rattle.victim_rules.specs.declared.rule.Rule.{Rule}
use Rattle.victim_rules.specs.declared.rule.Rule.TheVariants.{Clean}

-- with `Clean` in the places behind the last
abbrev pub padded_rules : List Rule → List Rule
padded_rules rules = rules ++ replicate (8 - length rules) Clean

-- an array that holds so many rules, and nothing else
pub record IsPadded (count : ℕ) (rules : List Rule) : Type 0 where
  pub few : count ≤ 8
  pub long : length (take count rules) ≡ count
  pub filled : padded_rules (take count rules) ≡ rules
