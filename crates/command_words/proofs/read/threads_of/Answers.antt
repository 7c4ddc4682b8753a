use Rattle.std.proofs.Common.{ap, ◌∙◌}
use Rattle.command_words.specs.Words.{threads_by}
use Rattle.command_words.proofs.read.threads_of.Goals as goal

pub returns-clause-value : goal.returns-clause-value
returns-clause-value c = λ givens rows. c.threads_by.ensures.value ∙ ap threads_by (c.copy_of-copy.ensures.value givens rows)
