-- The commands as the parser is told them, and what it makes of the words.
use Rattle.std.specs.Prelude.{false, true, List, [], ◌∷◌, ◌++◌, Option, Some, None, codes, map}
use Rattle.std.specs.List.{find}
use Rattle.std.specs.Option.{option_map}
use Rattle.std.specs.Str.{bytes_eq}
use Rattle.clap.specs.Simple.{App, Shape, new_rule, new_shape}
use Rattle.clap.specs.Walk.{Row, Rule, reading_by}
use Rattle.clap.specs.declared.builder.action.ArgAction.TheVariants.{Set}
use Rattle.clap.specs.declared.builder.value_parser.ValueParser.TheVariants as vp
use Rattle.clap.specs.declared.parser.matches.ValueSource.TheVariants.{CommandLine}
use Rattle.command_words.specs.Options.{Given, Text, given_in}
use Rattle.command_words.specs.Words.{audit_options, serial_options, threads_options}

-- a command's name, and the names of its options
abbrev pub CommandForm : Type 0
CommandForm = Text × List Text

abbrev pub serial : CommandForm
serial = (codes "serial", serial_options)

abbrev pub threads : CommandForm
threads = (codes "threads", threads_options)

abbrev pub show : CommandForm
show = (codes "show", [])

abbrev pub audit : CommandForm
audit = (codes "audit", audit_options)

abbrev pub commands : List CommandForm
commands = serial ∷ threads ∷ show ∷ audit ∷ []

-- ---- what the parser is told

abbrev pub option_rule : Text → Rule
option_rule name = record (new_rule name) { long = Some name }

abbrev pub command_shape : CommandForm → Shape
command_shape form = record (new_shape form.0) { rules = map option_rule form.1 }

-- a command with one option more
abbrev pub with_option : Text → Shape → Shape
with_option name shape = record shape { rules = shape.rules ++ option_rule name ∷ [] }

-- the program before it has commands
abbrev pub bare_app : App
bare_app = record {
  top = record (new_shape (codes "mss")) {
    no_binary_name = true;
    disable_help_flag = true;
    disable_help_subcommand = true;
    subcommand_required = true;
  };
  subs = [];
}

abbrev pub app : App
app = record {
  top = record bare_app.top { is_leaf = false };
  subs = command_shape serial ∷ command_shape threads ∷ command_shape show ∷ command_shape audit
      ∷ [];
}

-- ---- what it makes of the words

-- an option with one value, as it stands in the parser that was built
abbrev pub rule_for : Text → Rule
rule_for name = record (new_rule name) {
  long = Some name;
  action = Some Set;
  range = Some (record { start_inclusive = 1; end_inclusive = 1 });
  parser = Some vp.String;
}

-- the row of an option that was given
abbrev pub row_for : Given → Row
row_for given = record {
  id = given.0;
  values = given.1 ∷ [];
  count = None;
  source = Some CommandLine;
  reading = reading_by (rule_for given.0);
}

-- the rows of the options in a command's words
abbrev pub expected_rows : List Text → List Text → Option (List Row)
expected_rows names words = option_map (map row_for) (given_in names words)

abbrev pub expected_by : Option CommandForm → List Text → Option (Option (Text × List Row))
expected_by None words = None
expected_by (Some form) words = option_map (λ rows. Some (form.0, rows)) (expected_rows form.1 words)

-- the command that the first word names, with the rows of the options in the words behind it
abbrev pub expected_top : List Text → Option (Option (Text × List Row))
expected_top [] = None
expected_top (name ∷ words) = expected_by (find (λ form. bytes_eq form.0 name) commands) words
