use Rattle.std.proofs.Common.{◌≡◌, true, List, map, string_bytes, Option, Some, None, refl, sym, ap, subst, ◌∙◌, []}
use Rattle.std.specs.Prelude.{if◌then◌else◌}
use Rattle.clap.specs.Faults.{fault_of, is_simple_and_free}
use Rattle.clap.specs.Kinds.{HasKind, Kinds}
use Rattle.clap.specs.Values.{kind_of}
use Rattle.clap.specs.Simple.{App, is_simple, subcommand_of}
use Rattle.clap.specs.Walk.{Row, is_empty}
use Rattle.command_words.specs.Options.{Text}
use Rattle.command_words.specs.Parser.{app}
use Rattle.command_words.proofs.Parsing.{parse_failed}
use Rattle.command_words.proofs.Spelled.{all_spelled}
use Rattle.command_words.proofs.Tops.{top_is}
use Rattle.command_words.proofs.parser.parse.Goals as goal

simple : is_simple app ≡ true
simple = refl

free : is_simple_and_free app ≡ true
free = refl

pub returns-in-Ok : goal.returns-in-Ok
returns-in-Ok c =
    let words = map string_bytes c.args.words.now in
    let made = c.in_ok-parser.ensures in
    let none : fault_of app words ≡ [] = ap (λ (a : App). fault_of a words) (sym made) ∙ c.in-Ok.ensures.kinds (ap is_simple_and_free made ∙ free) in
    let rows = (c.in-Ok.ensures.matches (ap is_simple made ∙ simple)).1 ∙ ap (λ (a : App). subcommand_of a words) made in
    sym (top_is words (all_spelled c.args.words.now))
    ∙ ap (λ (ks : Kinds). if is_empty ks then Some (subcommand_of app words) else None) none ∙ ap (λ (o : Option (Text × List Row)). Some o) (sym rows)

pub returns-in-Err : goal.returns-in-Err
returns-in-Err c =
    let words = map string_bytes c.args.words.now in
    let made = c.in_ok-parser.ensures in
    let has : HasKind (fault_of app words) c.in-Err.error = subst (λ (a : App). HasKind (fault_of a words) c.in-Err.error) made (c.in-Err.ensures.kinds (ap is_simple_and_free made ∙ free)) in
    parse_failed c.fault_of.result (kind_of c.in-Err.error) (fault_of app words) words (subcommand_of app words) (λ is full. c.fault_of.ensures.refused is (c.kind.ensures ∙ full)) has (top_is words (all_spelled c.args.words.now))
