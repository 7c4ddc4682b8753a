-- From the rows of a parse to what the words mean.
use Rattle.std.proofs.Common.{◌≡◌, Bool, true, false, List, [], ◌∷◌, map, Option, Some, None, cond, refl, ap, ◌∙◌}
use Rattle.std.specs.Prelude.{codes, slice_get, if◌then◌else◌}
use Rattle.std.specs.List.{find}
use Rattle.std.specs.Option.{option_map, option_and_then}
use Rattle.std.specs.Str.{bytes_eq}
use Rattle.clap.specs.Matches.{subcommand_name_of}
use Rattle.clap.specs.Simple.{subcommand_rows_of}
use Rattle.clap.specs.Walk.{Row, first_of}
use Rattle.clap.specs.declared.parser.matches.ArgMatches.{ArgMatches}
use Rattle.clap.specs.declared.parser.matches.ArgMatches.TheViews.{out-ArgMatches}
use Rattle.command_words.specs.declared.command.Command.{Command}
use Rattle.command_words.specs.declared.command.Command.TheVariants.{Show}
use Rattle.command_words.specs.Options.{Given, Text, given_in}
use Rattle.command_words.specs.Parser.{CommandForm, audit, expected_by, expected_top, row_for, serial, show, threads}
use Rattle.command_words.specs.Words.{audit_of, audit_options, command_by, serial_of, serial_options, text_of, threads_of, threads_options, command_without_rules}

-- the text of an option, by its row
pub text_by_row : (name : Text) (givens : List Given) → first_of name (map row_for givens) ≡ text_of name givens
text_by_row name [] = refl
text_by_row name (g ∷ givens) = go (bytes_eq g.0 name) (text_by_row name givens)
  where
    go : (b : Bool) → first_of name (map row_for givens) ≡ text_of name givens
        → option_and_then (λ (r : Row). slice_get r.values 0) (cond b (Some (row_for g)) (find (λ (r : Row). bytes_eq r.id name) (map row_for givens)))
        ≡ option_map (λ (h : Given). h.1) (cond b (Some g) (find (λ (h : Given). bytes_eq h.0 name) givens))
    go true rest = refl
    go false rest = rest

both_parts : {B : Type 0} (f : B → Text × List Row) (o : Option B) (name : Text) (rows : List Row) → Some name ≡ option_map (λ b. (f b).0) o → Some rows ≡ option_map (λ p. p.1) (option_map f o)
    → option_map f o ≡ Some (name, rows)
both_parts f None name rows named told = absurd cc
both_parts f (Some b) name rows named told =
    let first : (f b).0 ≡ name = cc in
    let second : (f b).1 ≡ rows = cc in
    λ i. Some (first i, second i)

-- the command that was met has this name and these rows
pub met : (m : ArgMatches) (name : Text) (rows : List Row) → Some name ≡ subcommand_name_of m → Some rows ≡ option_map (λ p. p.1) (subcommand_rows_of m) → Some (subcommand_rows_of m) ≡ Some (Some (name, rows))
met m name rows named told = ap (λ (o : Option (Text × List Row)). Some o) (both_parts _ (out-ArgMatches m).subcommand name rows named told)

abbrev row_pair : Text → List Row → Option (Text × List Row)
row_pair name rows = Some (name, rows)

-- what the words mean, by the command that they name and the rows of its options
module _ (name : Text) (rows : List Row) (result : Option Command)
    (is : (givens : List Given) → rows ≡ map row_for givens → result ≡ command_by name givens) where
  by_form : (form : CommandForm) (read : Option (List Given)) → option_map (row_pair form.0) (option_map (map row_for) read) ≡ Some (Some (name, rows))
      → result ≡ option_and_then (command_by form.0) read
  by_form form None e = absurd cc
  by_form form (Some givens) e =
      let same : ◌≡◌ {A = Text × List Row} (name, rows) (form.0, map row_for givens) = cc in
      is givens (ap (λ (p : Text × List Row). p.1) same) ∙ ap (λ (p : Text × List Row). command_by p.0 givens) same

  plain : (command : Command) (read : Option (List Given)) → option_and_then (λ _. Some command) read ≡ option_map (λ _. command) read
  plain command None = refl
  plain command (Some givens) = refl

  by_name : (words : List Text) (a b c d : Bool)
      → expected_by (if a then Some serial else (if b then Some threads else (if c then Some show else (if d then Some audit else None)))) words ≡ Some (Some (name, rows))
      → result ≡ (if a then option_and_then serial_of (given_in serial_options words)
      else (if b then option_and_then threads_of (given_in threads_options words)
      else (if c then option_map (λ _. Show) (given_in [] words)
      else (if d then option_and_then audit_of (given_in audit_options words) else None))))
  by_name words true b c d e = by_form serial (given_in serial_options words) e
  by_name words false true c d e = by_form threads (given_in threads_options words) e
  by_name words false false true d e = by_form show (given_in [] words) e ∙ plain Show (given_in [] words)
  by_name words false false false true e = by_form audit (given_in audit_options words) e
  by_name words false false false false e = absurd cc

  pub meant : (words : List Text) → expected_top words ≡ Some (Some (name, rows)) → result ≡ command_without_rules words
  meant [] e = absurd cc
  meant (word ∷ words) e =
      by_name words (bytes_eq (codes "serial") word) (bytes_eq (codes "threads") word) (bytes_eq (codes "show") word) (bytes_eq (codes "audit") word) e
