-- Nineteen blank tracks are a cylinder without records.
use Rattle.std.proofs.lemmas.Result.{IfOk-weaker}
use Rattle.plain_machine.proofs.StateFacts.{blank_responds}
use Rattle.plain_machine.proofs.volume.run_blank.Goals as goal

pub returns-clause-answer : goal.returns-clause-answer
returns-clause-answer c =
    IfOk-weaker c.run.result _ _ (λ reply a. blank_responds c.in_ok-blank.blank c.run.new.self c.args.host.now _ _ _ c.run.new.host reply c.in_ok-blank.ensures a) c.run.ensures.answer
