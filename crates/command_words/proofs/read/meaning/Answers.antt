use Rattle.std.proofs.Common.{◌∙◌}
use Rattle.clap.specs.Matches.{found_of}
use Rattle.clap.specs.Walk.{rows_of}
use Rattle.command_words.proofs.Meanings.{meant, met}
use Rattle.command_words.proofs.read.meaning.Goals as goal

pub returns-in-Some-clause-value : goal.returns-in-Some-clause-value
returns-in-Some-clause-value c = λ words expected.
    let name = c.in-Some.name.now in
    let rows = rows_of (found_of c.in-Some.options.now) in
    meant name rows c.command_by.result c.command_by.ensures.value words
    (expected ∙ met c.args.matches.now name rows c.in-Some.ensures.name c.in-Some.ensures.rows)
