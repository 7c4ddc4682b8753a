use Rattle.std.proofs.Common.{sym, ◌∙◌}
use Rattle.channel_commands.specs.Views.{call_of}
use Rattle.host_events.proofs.RuleParts.{data_stands}
use Rattle.host_events.proofs.rule.data_rule.Goals as goal

-- a search, read or write that passes the checks is on a volume
pub unreachable-requires : goal.unreachable-requires
unreachable-requires g c =
    data_stands c.args.asked.now.state.now (call_of c.args.asked.now.call.now) c.in_ok-command.command (sym c.requires ∙ c.in_ok-command.was) c.in_default.is
