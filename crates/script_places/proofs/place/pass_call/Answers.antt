use Rattle.std.proofs.Common.{map}
use Rattle.job_text.specs.Views.{item_of}
use Rattle.script_places.proofs.PlaceFacts.{passed_end, goes_where, ends_by_check, ends_by_limit}
use Rattle.script_places.proofs.place.pass_call.Goals as goal
use Rattle.channel_commands.specs.Views.{reply_of}

pub returns-in-Command : goal.returns-in-Command
returns-in-Command c = λ at more within. c.pass_command.ensures at more within (goes_where _ at c.args.place.now _ _ (c.in-Command.is) within.knows (reply_of c.args.reply.now))

pub returns-in-ProgramCheck : goal.returns-in-ProgramCheck
returns-in-ProgramCheck c = λ at more within.
    passed_end (map item_of c.args.items.now) c.args.place.now (reply_of c.args.reply.now) _ _ at more within (ends_by_check _ at c.args.place.now c.in-ProgramCheck.is within.knows (reply_of c.args.reply.now)) c.enter.ensures

pub returns-in-ChainLimit : goal.returns-in-ChainLimit
returns-in-ChainLimit c = λ at more within.
    passed_end (map item_of c.args.items.now) c.args.place.now (reply_of c.args.reply.now) _ _ at more within (ends_by_limit _ at c.args.place.now c.in-ChainLimit.is within.knows (reply_of c.args.reply.now)) c.enter-in-ChainLimit.ensures
