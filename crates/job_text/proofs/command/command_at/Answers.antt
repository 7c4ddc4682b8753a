use Rattle.std.proofs.Common.{rules, sym, ◌∙◌}
use Rattle.channel_commands.specs.Views.{argument_bytes}
use Rattle.job_text.proofs.Commands.{bare_command, argued_command}
use Rattle.job_text.proofs.command.command_at.Goals as goal

pub returns-then-next-eq10 : goal.returns-then-next-eq10
returns-then-next-eq10 c = search (rules, bare_command)

pub returns : goal.returns
returns c =
    let read = rw c.in-Some-2.is at c.in_ok-argument.ensures in
    argued_command c.args.text.now c.in-Some.rest.now c.in-Some-last_word.digits.now c.in-Some-last_word.behind.now (argument_bytes c.in-Some-2.argument)
    c.in-Some.high c.in-Some.low c.in-Some.next c.in-Some-pair_value.code
    c.in-Some.ensures c.if-next-ne32.false c.in-Some-last_word.ensures (sym c.pair_value.ensures ∙ c.in-Some-pair_value.is) read.0 read.1
