use Rattle.std.proofs.Common.{◌≡◌, ap, ◌∙◌}
use Rattle.std.specs.Prelude.{codes}
use Rattle.std.specs.Option.{option_map}
use Rattle.clap.specs.Matches.{found_of}
use Rattle.clap.specs.Walk.{first_of}
use Rattle.clap.proofs.WalkLemmas.{first_value-rows}
use Rattle.command_words.specs.Words.{load_setting, serial_by, setting, text_of}
use Rattle.command_words.proofs.Meanings.{text_by_row}
use Rattle.command_words.proofs.read.serial_of.Goals as goal

pub returns-clause-value : goal.returns-clause-value
returns-clause-value c = λ givens rows.
    let found = found_of c.args.options.now in
    let order : option_map (λ t. t.now) c.get_str.result ≡ text_of (codes "order") givens = c.get_str.ensures ∙ first_value-rows found (codes "order") ∙ ap (first_of (codes "order")) rows ∙ text_by_row (codes "order") givens in
    let turns : option_map (λ t. t.now) c.get_str-2.result ≡ text_of (codes "turns") givens = c.get_str-2.ensures ∙ first_value-rows found (codes "turns") ∙ ap (first_of (codes "turns")) rows ∙ text_by_row (codes "turns") givens in
    let load : option_map (λ t. t.now) c.get_str-3.result ≡ text_of (codes "load") givens = c.get_str-3.ensures ∙ first_value-rows found (codes "load") ∙ ap (first_of (codes "load")) rows ∙ text_by_row (codes "load") givens in
    let o = c.setting-order.ensures.value ∙ ap (setting 18446744073709551615) order in
    let t = c.setting-turns.ensures.value ∙ ap (setting 100000) turns in
    let l = c.load_setting-load.ensures.value ∙ ap load_setting load in
    let copied = c.copy_of-copy.ensures.value givens rows in
    c.serial_by.ensures.value ∙ (λ i. serial_by (o i) (t i) (l i) (copied i))
