-- The rules of the parts of a text, one after another.
use Rattle.std.proofs.Common.{◌≡◌, ◌<◌, ◌≤◌, ◌+◌, ℕ, false, eqb, List, [], length, get_or, drop, Result, Ok, Err, sym, ◌∙◌, ap}
use Rattle.std.specs.Prelude.{codes}
use Rattle.std.specs.List.{slice_split}
use Rattle.std.specs.Str.{bytes_eq}
use Rattle.std.proofs.lemmas.Bool.{cond-false}
use Rattle.std.proofs.lemmas.List.{drop_all, drop_more}
use Rattle.victim_rules.specs.Texts.{Text, if_good, one_more, rules_behind, rules_of}
use Rattle.victim_rules.specs.declared.reading.RulesFault.{RulesFault}
use Rattle.victim_rules.specs.declared.rule.Rule.{Rule}

module _ (before : List Rule) (texts : List Text) (k : ℕ) where
  -- the next text
  pub next_is : (text : Text) → k < length texts → text ≡ get_or texts k text
      → rules_behind before (drop k texts) ≡ if_good (one_more before text) (λ rules. rules_behind rules (drop (k + 1) texts))
  unfolding rules_behind
  next_is text within is =
      ap (rules_behind before) (drop_more texts k text within)
      ∙ ap (λ (t : Text). if_good (one_more before t) (λ rules. rules_behind rules (drop (k + 1) texts))) (sym is)

  pub next_good : (text : Text) (rules : List Rule) → k < length texts → text ≡ get_or texts k text → one_more before text ≡ Ok rules
      → rules_behind before (drop k texts) ≡ rules_behind rules (drop (k + 1) texts)
  next_good text rules within is good =
      next_is text within is ∙ ap (λ (r : Result (List Rule) RulesFault). if_good r (λ given. rules_behind given (drop (k + 1) texts))) good

  pub next_bad : (text : Text) (fault : RulesFault) → k < length texts → text ≡ get_or texts k text → one_more before text ≡ Err fault
      → rules_behind before (drop k texts) ≡ Err fault
  next_bad text fault within is bad =
      next_is text within is ∙ ap (λ (r : Result (List Rule) RulesFault). if_good r (λ given. rules_behind given (drop (k + 1) texts))) bad

  pub all_read : length texts ≤ k → rules_behind before (drop k texts) ≡ Ok before
  unfolding rules_behind
  all_read end = ap (rules_behind before) (drop_all k texts end)

-- a text that isn't `lru` has those of its parts
pub rules_are : (text : Text) → bytes_eq text (codes "lru") ≡ false → rules_of text ≡ rules_behind [] (slice_split (λ b. eqb b 44) text)
rules_are text differs = cond-false (bytes_eq text (codes "lru")) _ _ differs
