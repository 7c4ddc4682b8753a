-- The text of rules: `lru` for none, or one to eight rules with commas between them.
use Rattle.std.specs.Prelude.{◌+◌, ◌==◌, ◌&&◌, ℕ, Bool, not, nat_le, nat_lt, List, []}
use Rattle.std.specs.Prelude.{◌∷◌, ◌++◌, codes, drop, length, slice_index, take, Option, Some}
use Rattle.std.specs.Prelude.{None, Result, Ok, Err, ok_or, if◌then◌else◌}
use Rattle.std.specs.List.{list_all, slice_split}
use Rattle.std.specs.Option.{option_map}
use Rattle.std.specs.Str.{bytes_eq}
use Rattle.mss_base.specs.Decimal.{is_digit, number_of}
use Rattle.victim_rules.specs.declared.reading.RulesFault.{RulesFault}
use Rattle.victim_rules.specs.declared.reading.RulesFault.TheVariants.{Bad}
use Rattle.victim_rules.specs.declared.rule.Rule.{Rule}
use Rattle.victim_rules.specs.declared.rule.Rule.TheVariants.{Clean, Quota, Avoid}

abbrev pub Text : Type 0
Text = List ℕ

-- more than one digit, of which the first is 0
abbrev pub begins_with_zero : Text → Bool
begins_with_zero text = nat_lt 1 (length text) && slice_index text 0 == 48

-- one to four digits without a leading zero
abbrev pub is_number : Text → Bool
is_number text = nat_le 1 (length text)
    && (nat_le (length text) 4 && (list_all is_digit text && not (begins_with_zero text)))

-- the number of a text, where it is spelled so and isn't above the most
abbrev pub number_up_to : ℕ → Text → Option ℕ
number_up_to most text =
    if is_number text && nat_le (number_of text) most then Some (number_of text) else None

-- what stands behind this front of a text, if it begins so
abbrev pub behind : Text → Text → Option Text
behind front text = if bytes_eq (take (length front) text) front
    then Some (drop (length front) text) else None

-- a quota, or a volume that is avoided
abbrev pub rule_by : Option Text → Option Text → Option Rule
rule_by (Some quota) avoided = option_map (λ most. Quota most) (number_up_to 1632 quota)
rule_by None (Some avoided) = option_map (λ volume. Avoid volume) (number_up_to 31 avoided)
rule_by None None = None

-- `clean`, `quota:` with a number up to 1,632, or `avoid:` with a volume
abbrev pub rule_of : Text → Option Rule
rule_of text = if bytes_eq text (codes "clean") then Some Clean
    else rule_by (behind (codes "quota:") text) (behind (codes "avoid:") text)

-- a rule more behind these, or the number of a bad one; a ninth is bad
abbrev pub one_more : List Rule → Text → Result (List Rule) RulesFault
one_more before text = if nat_lt (length before) 8
    then ok_or (option_map (λ rule. before ++ rule ∷ []) (rule_of text)) (Bad (length before + 1))
    else Err (Bad (length before + 1))

-- what follows, where nothing was bad so far
abbrev pub if_good : Result (List Rule) RulesFault
    → (List Rule → Result (List Rule) RulesFault) → Result (List Rule) RulesFault
if_good (Ok rules) next = next rules
if_good (Err fault) next = Err fault

-- the rules of some texts behind these, or the number of the first bad one
unfoldable pub rules_behind : List Rule → List Text → Result (List Rule) RulesFault
rules_behind before [] = Ok before
rules_behind before (text ∷ texts) =
    if_good (one_more before text) (λ rules. rules_behind rules texts)

-- the rules of a text, or the number of its first bad one, from 1
abbrev pub rules_of : Text → Result (List Rule) RulesFault
rules_of text = if bytes_eq text (codes "lru") then Ok []
    else rules_behind [] (slice_split (λ b. b == 44) text)
