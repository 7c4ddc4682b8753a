-- What words with rules mean.
use Rattle.std.proofs.Common.{◌≡◌, ◌<◌, true, false, List, [], map, drop, get_or, length, Option, Some, None, Result, Ok, Err, sym, ◌∙◌, ap, subst}
use Rattle.std.proofs.lemmas.Bool.{cond-true, cond-false}
use Rattle.std.proofs.lemmas.List.{drop-map, get_or-map}
use Rattle.command_words.specs.declared.command.Command.{Command}
use Rattle.command_words.specs.declared.command.Command.TheVariants.{Compare}
use Rattle.command_words.specs.declared.command.CommandFault.{CommandFault}
use Rattle.command_words.specs.declared.command.CommandFault.TheVariants.{Refused, Memory}
use Rattle.command_words.specs.Options.{Text}
use Rattle.command_words.specs.Outcomes.{Reads}
use Rattle.command_words.specs.Words.{asks_compare, asks_policy, meaning, one_word_or_more, policy_by, policy_of, command_without_rules, with_rules}
use Rattle.victim_rules.specs.declared.reading.RulesFault.{RulesFault}
use Rattle.victim_rules.specs.declared.rule.Rule.{Rule}

-- ---- rules, and what is asked for behind them

pub reads_ruled : (r : Result Command CommandFault) (given : Result (List Rule) RulesFault) (rules : List Rule) (asked : Option Command) (command : Command)
    → given ≡ Ok rules → asked ≡ Some command → Reads r (with_rules rules (Some command)) → Reads r (policy_by given asked)
reads_ruled r given rules asked command good some reads = subst (λ (o : Option Command). Reads r o) (sym (λ i. policy_by (good i) (some i))) reads

pub reads_unasked : (fault : CommandFault) (given : Result (List Rule) RulesFault) (rules : List Rule) (asked : Option Command)
    → given ≡ Ok rules → Reads (Err fault) asked → Reads (Err fault) (policy_by given asked)
reads_unasked Refused given rules asked good none = λ i. policy_by (good i) (none i)
reads_unasked Memory given rules asked good none = tt

pub reads_bad : (given : Result (List Rule) RulesFault) (bad : RulesFault) (asked : Option Command) → given ≡ Err bad → policy_by given asked ≡ None
reads_bad given bad asked is = ap (λ (g : Result (List Rule) RulesFault). policy_by g asked) is

-- ---- all the words

module _ {W : Type 0} (bytes : W → Text) (words : List W) where
  pub means_ruled : asks_policy (map bytes words) ≡ true → (rules : W) → 1 < length words → rules ≡ get_or words 1 rules
      → meaning (map bytes words) ≡ policy_of (bytes rules) (map bytes (drop 2 words))
  unfolding meaning
  means_ruled asks rules within is =
      cond-true (asks_policy (map bytes words)) _ _ asks
      ∙ (λ i. policy_of ((get_or-map bytes words 1 rules [] within ∙ ap bytes (sym is)) i) (drop-map bytes 2 words i))

  means_other : asks_policy (map bytes words) ≡ false → meaning (map bytes words) ≡ one_word_or_more (map bytes words)
  unfolding meaning
  means_other asks = cond-false (asks_policy (map bytes words)) _ _ asks

  pub means_compare : asks_policy (map bytes words) ≡ false → asks_compare (map bytes words) ≡ true → meaning (map bytes words) ≡ Some Compare
  means_compare asks compares = means_other asks ∙ cond-true (asks_compare (map bytes words)) _ _ compares

  pub means_unruled : asks_policy (map bytes words) ≡ false → asks_compare (map bytes words) ≡ false → meaning (map bytes words) ≡ command_without_rules (map bytes words)
  means_unruled asks compares = means_other asks ∙ cond-false (asks_compare (map bytes words)) _ _ compares
