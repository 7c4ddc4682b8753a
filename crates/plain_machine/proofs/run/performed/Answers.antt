use Rattle.plain_machine.specs.Outcomes.{cylinder_of}
use Rattle.plain_machine.proofs.RunFacts.{done_answers}
use Rattle.plain_machine.proofs.run.performed.Goals as goal

pub returns-in-Ok-clause-answer : goal.returns-in-Ok-clause-answer
returns-in-Ok-clause-answer c =
    done_answers c.args.command c.args.chained c.args.host.now c.cleared-ready.result c.cleared-ready.ensures c.args.tracks.now c.outcome.new.tracks
    c.in-Ok.done _ _ c.finished.ensures.reply_ c.finished.ensures.host_ (cylinder_of c.args.tracks.now) c.args.argument.now c.in-Ok.ensures
