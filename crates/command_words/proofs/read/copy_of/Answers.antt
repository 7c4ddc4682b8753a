use Rattle.std.proofs.Common.{◌≡◌, ap, ◌∙◌}
use Rattle.std.specs.Prelude.{codes}
use Rattle.std.specs.Option.{option_map}
use Rattle.clap.specs.Matches.{found_of}
use Rattle.clap.specs.Walk.{first_of}
use Rattle.clap.proofs.WalkLemmas.{first_value-rows}
use Rattle.command_words.specs.Words.{copy_setting, text_of}
use Rattle.command_words.proofs.Meanings.{text_by_row}
use Rattle.command_words.proofs.read.copy_of.Goals as goal

pub returns-clause-value : goal.returns-clause-value
returns-clause-value c = λ givens rows.
    let found = found_of c.args.options.now in
    let volume : option_map (λ t. t.now) c.get_str.result ≡ text_of (codes "copy") givens = c.get_str.ensures ∙ first_value-rows found (codes "copy") ∙ ap (first_of (codes "copy")) rows ∙ text_by_row (codes "copy") givens in
    let after : option_map (λ t. t.now) c.get_str-2.result ≡ text_of (codes "after") givens = c.get_str-2.ensures ∙ first_value-rows found (codes "after") ∙ ap (first_of (codes "after")) rows ∙ text_by_row (codes "after") givens in
    c.copy_setting.ensures.value ∙ (λ i. copy_setting (volume i) (after i))
