-- An array of eight with one rule more.
use Rattle.std.proofs.Common.{◌≡◌, ◌<◌, ◌+◌, ◌-◌, ℕ, suc, List, [], ◌∷◌, ◌++◌, length, replicate, take, set, refl, sym, ◌∙◌, ap, arith}
use Rattle.std.proofs.lemmas.List.{append_assoc, length_push, set_at, take_at}
use Rattle.victim_rules.specs.declared.rule.Rule.{Rule}
use Rattle.victim_rules.specs.declared.rule.Rule.TheVariants.{Clean}
use Rattle.victim_rules.specs.Padding.{IsPadded, padded_rules}

-- what is left of the room: one place, and the rest
room_at : (front : List Rule) (k : ℕ) → 8 - length front ≡ suc k → padded_rules front ≡ front ++ Clean ∷ replicate k Clean
room_at front k is = ap (λ (n : ℕ). front ++ replicate n Clean) is

filled_in : (front : List Rule) (rule : Rule) (k : ℕ) → 8 - length front ≡ suc k → set (padded_rules front) (length front) rule ≡ padded_rules (front ++ rule ∷ [])
filled_in front rule k is =
    let long : length (front ++ rule ∷ []) ≡ length front + 1 = length_push front rule in
    let less : 8 - length (front ++ rule ∷ []) ≡ k = omega (arith, is, long) in
    ap (λ (l : List Rule). set l (length front) rule) (room_at front k is)
    ∙ set_at front Clean (replicate k Clean) rule (length front) refl
    ∙ sym (append_assoc front (rule ∷ []) (replicate k Clean))
    ∙ ap (λ (n : ℕ). (front ++ rule ∷ []) ++ replicate n Clean) (sym less)

module _ (count : ℕ) (rules : List Rule) (rule : Rule) (is : IsPadded count rules) (room : count < 8) where
  abbrev after : List Rule
  after = set rules count rule

  after_is : after ≡ padded_rules (take count rules ++ rule ∷ [])
  after_is =
      let left : 8 - length (take count rules) ≡ suc (7 - count) = omega (arith, is.long, room) in
      ap (λ (l : List Rule). set l count rule) (sym is.filled)
      ∙ ap (λ (n : ℕ). set (padded_rules (take count rules)) n rule) (sym is.long)
      ∙ filled_in (take count rules) rule (7 - count) left

  pub pushed : take (count + 1) after ≡ take count rules ++ rule ∷ []
  pushed =
      let long : length (take count rules ++ rule ∷ []) ≡ count + 1 = omega (arith, length_push (take count rules) rule, is.long) in
      ap (take (count + 1)) after_is ∙ take_at (take count rules ++ rule ∷ []) (replicate (8 - length (take count rules ++ rule ∷ [])) Clean) (count + 1) long

  pub still_padded : IsPadded (count + 1) after
  still_padded = record {
    few = omega (arith, room);
    long = ap length pushed ∙ omega (arith, length_push (take count rules) rule, is.long);
    filled = ap padded_rules pushed ∙ sym after_is;
  }
