-- What the words after the program's name ask for.
use Rattle.std.specs.Prelude.{ℕ, ◌≤◌, ⊤, Bool, ◌&&◌, ◌==◌, nat_le, List, [], ◌∷◌}
use Rattle.std.specs.Prelude.{drop, get_or, length, Option, Some, None, IfSome, codes}
use Rattle.std.specs.Prelude.{Result, Ok, Err, if◌then◌else◌}
use Rattle.std.specs.List.{find, list_all}
use Rattle.std.specs.Option.{option_map, option_and_then}
use Rattle.std.specs.Str.{bytes_eq}
use Rattle.mss_base.specs.Decimal.{is_digit, number_of}
use Rattle.command_words.specs.declared.command.Command.{Command}
use Rattle.command_words.specs.declared.command.Command.TheVariants.{Serial, Policy, Threads}
use Rattle.command_words.specs.declared.command.Command.TheVariants.{Show, Audit, Compare}
use Rattle.command_words.specs.declared.command.CopyAsked.{CopyAsked}
use Rattle.command_words.specs.Options.{Given, Text, given_in}
use Rattle.victim_rules.specs.Texts.{rules_of}
use Rattle.victim_rules.specs.declared.reading.RulesFault.{RulesFault}
use Rattle.victim_rules.specs.declared.rule.Rule.{Rule}

-- one to twenty digits
abbrev pub is_number : Text → Bool
is_number text = nat_le 1 (length text) && (nat_le (length text) 20 && list_all is_digit text)

-- the number of a text, where it is spelled so and lies within the range
abbrev pub number_in : ℕ → ℕ → Text → Option ℕ
number_in least most text =
    if is_number text && (nat_le least (number_of text) && nat_le (number_of text) most)
    then Some (number_of text) else None

-- the text that an option was given
abbrev pub text_of : Text → List Given → Option Text
text_of name givens = option_map (λ g. g.1) (find (λ g. bytes_eq g.0 name) givens)

-- up to a most, and 0 where it is left out
abbrev pub setting : ℕ → Option Text → Option ℕ
setting most None = Some 0
setting most (Some text) = number_in 0 most text

-- 1 to 1,000 programs, or no load where it is left out
abbrev pub load_setting : Option Text → Option (Option ℕ)
load_setting None = Some None
load_setting (Some text) = option_map (λ n. Some n) (number_in 1 1000 text)

-- a copy, where its volume and its point are in order
abbrev pub copy_by : Option ℕ → Option ℕ → Option (Option CopyAsked)
copy_by (Some volume) (Some after) = Some (Some (record { volume = volume; after = after }))
copy_by _ _ = None

-- of volume 0 to 31, after 0 to 4,096 entries of the history, where 0 may be left out; or no copy,
-- where both are left out. None where a point is named, but no volume.
abbrev pub copy_setting : Option Text → Option Text → Option (Option CopyAsked)
copy_setting None None = Some None
copy_setting None (Some after) = None
copy_setting (Some volume) after = copy_by (number_in 0 31 volume) (setting 4096 after)

-- what the options of a copy mean
abbrev pub copy_of : List Given → Option (Option CopyAsked)
copy_of givens = copy_setting (text_of (codes "copy") givens) (text_of (codes "after") givens)

-- a run of these settings, unless a copy of a load is asked for
abbrev pub serial_with : ℕ → ℕ → Option ℕ → Option CopyAsked → Option Command
serial_with order turns (Some programs) (Some copy) = None
serial_with order turns (Some programs) None = Some (Serial order turns (Some programs) None)
serial_with order turns None copy = Some (Serial order turns None copy)

-- `serial`, where each of its settings is in order, and they go together
abbrev pub serial_by : Option ℕ → Option ℕ → Option (Option ℕ) → Option (Option CopyAsked)
    → Option Command
serial_by (Some order) (Some turns) (Some load) (Some copy) = serial_with order turns load copy
serial_by _ _ _ _ = None

abbrev pub serial_options : List Text
serial_options =
    codes "order" ∷ codes "turns" ∷ codes "load" ∷ codes "copy" ∷ codes "after" ∷ []

-- what the options of `serial` mean
abbrev pub serial_of : List Given → Option Command
serial_of givens = serial_by
    (setting 18446744073709551615 (text_of (codes "order") givens))
    (setting 100000 (text_of (codes "turns") givens))
    (load_setting (text_of (codes "load") givens))
    (copy_of givens)

-- `threads`, where its setting is in order
abbrev pub threads_by : Option (Option CopyAsked) → Option Command
threads_by (Some copy) = Some (Threads copy)
threads_by None = None

abbrev pub threads_options : List Text
threads_options = codes "copy" ∷ codes "after" ∷ []

-- what the options of `threads` mean
abbrev pub threads_of : List Given → Option Command
threads_of givens = threads_by (copy_of givens)

-- 1 to 200 frames, and 200 where it is left out
abbrev pub frames_setting : Option Text → Option ℕ
frames_setting None = Some 200
frames_setting (Some text) = number_in 1 200 text

-- `audit`, where its setting is in order
abbrev pub audit_by : Option ℕ → Option Command
audit_by (Some frames) = Some (Audit frames)
audit_by None = None

abbrev pub audit_options : List Text
audit_options = codes "frames" ∷ []

-- what the options of `audit` mean
abbrev pub audit_of : List Given → Option Command
audit_of givens = audit_by (frames_setting (text_of (codes "frames") givens))

-- what a command with its options means
abbrev pub command_by : Text → List Given → Option Command
command_by name givens =
    if bytes_eq name (codes "serial") then serial_of givens
    else (if bytes_eq name (codes "threads") then threads_of givens
    else (if bytes_eq name (codes "show") then Some Show else audit_of givens))

-- what words without rules mean, if anything: a command's name, and then its options
abbrev pub command_without_rules : List Text → Option Command
command_without_rules [] = None
command_without_rules (name ∷ words) =
    if bytes_eq (codes "serial") name then option_and_then serial_of (given_in serial_options words)
    else (if bytes_eq (codes "threads") name
    then option_and_then threads_of (given_in threads_options words)
    else (if bytes_eq (codes "show") name then option_map (λ _. Show) (given_in [] words)
    else (if bytes_eq (codes "audit") name
    then option_and_then audit_of (given_in audit_options words) else None)))

-- a run by rules, where `serial` is asked for otherwise
abbrev pub with_rules : List Rule → Option Command → Option Command
with_rules rules (Some (Serial order turns load copy)) =
    Some (Policy rules order turns load copy)
with_rules rules _ = None

abbrev pub policy_by : Result (List Rule) RulesFault → Option Command → Option Command
policy_by (Ok rules) asked = with_rules rules asked
policy_by (Err fault) asked = None

-- the text of rules, and then options as behind `serial`
abbrev pub policy_of : Text → List Text → Option Command
policy_of rules options = policy_by (rules_of rules) (command_without_rules (codes "serial" ∷ options))

-- the first of two or more words is `policy`
abbrev pub asks_policy : List Text → Bool
asks_policy words = nat_le 2 (length words) && bytes_eq (get_or words 0 []) (codes "policy")

-- the one word is `compare`
abbrev pub asks_compare : List Text → Bool
asks_compare words = (length words == 1) && bytes_eq (get_or words 0 []) (codes "compare")

-- what words without rules mean, or the one word `compare`
abbrev pub one_word_or_more : List Text → Option Command
one_word_or_more words = if asks_compare words then Some Compare else command_without_rules words

-- what the words mean, if anything
unfoldable pub meaning : List Text → Option Command
meaning words =
    if asks_policy words then policy_of (get_or words 1 []) (drop 2 words)
    else one_word_or_more words

-- the numbers of a copy that whoever takes it relies on
abbrev pub IsCopyWithin : Option CopyAsked → Type 0
IsCopyWithin copy = IfSome copy (λ c. (c.volume ≤ 31) × (c.after ≤ 4096))

-- the numbers that whoever runs a command relies on
abbrev pub IsWithin : Command → Type 0
IsWithin (Serial order turns load copy) =
    (turns ≤ 100000) × IfSome load (λ n. (1 ≤ n) × (n ≤ 1000)) × IsCopyWithin copy
IsWithin (Policy rules order turns load copy) =
    (turns ≤ 100000) × IfSome load (λ n. (1 ≤ n) × (n ≤ 1000)) × IsCopyWithin copy
IsWithin (Threads copy) = IsCopyWithin copy
IsWithin Show = ⊤
IsWithin (Audit frames) = (1 ≤ frames) × (frames ≤ 200)
IsWithin Compare = ⊤
