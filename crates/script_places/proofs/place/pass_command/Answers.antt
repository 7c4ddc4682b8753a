use Rattle.std.proofs.Common.{map}
use Rattle.job_text.specs.Views.{item_of}
use Rattle.script_places.proofs.PlaceFacts.{passed_end, ended_there}
use Rattle.script_places.proofs.place.pass_command.Goals as goal
use Rattle.channel_commands.specs.Views.{reply_of}

pub returns-in-Ended : goal.returns-in-Ended
returns-in-Ended c = λ at more within same.
    passed_end (map item_of c.args.items.now) c.args.place.now (reply_of c.args.reply.now) _ _ at more within (ended_there _ at c.args.place.now.cursor (reply_of c.args.reply.now) same c.in-Ended.ensures.call) c.enter.ensures
