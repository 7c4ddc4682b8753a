use Rattle.std.proofs.Common.{◌≡◌, ap, ◌∙◌}
use Rattle.std.specs.Prelude.{codes}
use Rattle.std.specs.Option.{option_map}
use Rattle.clap.specs.Matches.{found_of}
use Rattle.clap.specs.Walk.{first_of}
use Rattle.clap.proofs.WalkLemmas.{first_value-rows}
use Rattle.command_words.specs.Words.{audit_by, frames_setting, text_of}
use Rattle.command_words.proofs.Meanings.{text_by_row}
use Rattle.command_words.proofs.read.audit_of.Goals as goal

pub returns-clause-value : goal.returns-clause-value
returns-clause-value c = λ givens rows.
    let found = found_of c.args.options.now in
    let frames : option_map (λ t. t.now) c.get_str.result ≡ text_of (codes "frames") givens = c.get_str.ensures ∙ first_value-rows found (codes "frames") ∙ ap (first_of (codes "frames")) rows ∙ text_by_row (codes "frames") givens in
    c.audit_by.ensures.value ∙ ap audit_by (c.frames_setting-frames.ensures.value ∙ ap frames_setting frames)
