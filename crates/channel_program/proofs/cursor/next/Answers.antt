use Rattle.std.proofs.Common.{arith}
use Rattle.channel_program.proofs.Cursors.{next_command}
use Rattle.channel_program.proofs.cursor.next.Goals as goal

pub returns-clause-call : goal.returns-clause-call
returns-clause-call c =
    let whole = c.as_slice-words.ensures.words in
    next_command c.args.program.now c.as_slice-words.result.now _ c.standing-next.result.0 c.in-Some.next c.standing-next.result.1 c.in-Some-reached.word
    whole (rw whole at c.standing-next.ensures) c.in-Some.is (rw whole at c.in-Some-reached.ensures) (omega arith)
