-- What the parser's walk makes of the words: the two laws that `parse` rests on.
use Rattle.std.specs.Prelude.{◌≡◌, ℕ, true, false, List, [], Option, Some, None, map, fold, slice_get}
use Rattle.std.specs.Prelude.{if◌then◌else◌}
use Rattle.std.specs.List.{AllByRecursion}
use Rattle.std.specs.Str.{chars}
use Rattle.clap.specs.Lexer.{short_of}
use Rattle.clap.specs.Kinds.{Kinds, or_else}
use Rattle.clap.specs.Walk.{Held, Row, Rule, Walk, finished, is_empty, nothing_held, settled, walk_from, walked}
use Rattle.clap.specs.Faults.{check_fault, defaults_fault, fault_of, settle_fault, walk_fault}
use Rattle.clap.specs.Simple.{Shape, new_shape, subcommand_of}
use Rattle.command_words.specs.Options.{Text}
use Rattle.command_words.specs.Parser.{app, expected_rows, expected_top, rule_for}

abbrev pub rules_for : List Text → List Rule
rules_for = map rule_for

-- a command of these options, as it is built below one without help
abbrev pub leaf : Text → List Text → Shape
leaf name names = record (new_shape name) {
  rules = rules_for names;
  no_binary_name = true;
  disable_help_flag = true;
  disable_help_subcommand = true;
  is_built = true;
}

-- the faults at the end of a walk
abbrev pub tail_fault : Shape → Held → Kinds
tail_fault s end = or_else (settle_fault s.rules s.args_override_self end)
    (or_else (defaults_fault (settled s.rules end).rows s.rules) (check_fault s (finished s.rules end) false))

-- the faults of the words from where a walk stands on
abbrev pub verdict : Shape → Walk → List Text → Kinds
verdict s w words = or_else (walk_fault s [] w words) (tail_fault s (fold (walked s.rules []) w words).held)

-- the rows at its end, where there is no fault
abbrev pub outcome : Shape → Walk → List Text → Option (List Row)
outcome s w words =
    if is_empty (verdict s w words) then Some (finished s.rules (fold (walked s.rules []) w words).held) else None

-- a word that begins with a hyphen has a character behind it; true of each text
abbrev pub IsSpelled : Text → Type 0
IsSpelled word = (flags : Text) → short_of word ≡ Some flags → (x : ℕ) × (slice_get (chars flags) 0 ≡ Some x)

-- the walk of a command's words has the options that they spell, each once, and else a fault
abbrev pub LeafLaw : Type 0
LeafLaw = (name : Text) (names words : List Text) → AllByRecursion IsSpelled words
    → outcome (leaf name names) (walk_from nothing_held) words ≡ expected_rows names words

-- the walk of all words has the command that they name with its options, and else a fault
abbrev pub TopLaw : Type 0
TopLaw = (words : List Text) → AllByRecursion IsSpelled words
    → (if is_empty (fault_of app words) then Some (subcommand_of app words) else None) ≡ expected_top words
