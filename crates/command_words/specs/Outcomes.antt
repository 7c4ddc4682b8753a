-- What the calls answer.
use Rattle.std.specs.Prelude.{◌≡◌, ⊤, List, Option, Some, None, Result, Ok, Err}
use Rattle.clap.specs.Simple.{subcommand_rows_of}
use Rattle.clap.specs.declared.parser.matches.ArgMatches.{ArgMatches}
use Rattle.command_words.specs.declared.command.Command.{Command}
use Rattle.command_words.specs.declared.command.CommandFault.{CommandFault}
use Rattle.command_words.specs.declared.command.CommandFault.TheVariants.{Refused, Memory}
use Rattle.command_words.specs.Options.{Text}
use Rattle.command_words.specs.Parser.{expected_top}

-- the command that the words mean; a refusal, exactly where they mean none; or want of memory
abbrev pub Reads : Result Command CommandFault → Option Command → Type 0
Reads (Ok command) meant = meant ≡ Some command
Reads (Err Refused) meant = meant ≡ None
Reads (Err Memory) meant = ⊤

-- the command that the words name, with the rows of its options
abbrev pub Parses : Result ArgMatches CommandFault → List Text → Type 0
Parses (Ok matches) words = expected_top words ≡ Some (subcommand_rows_of matches)
Parses (Err Refused) words = expected_top words ≡ None
Parses (Err Memory) words = ⊤
