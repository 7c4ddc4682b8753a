use Rattle.std.proofs.Common.{Some}
use Rattle.command_words.specs.declared.command.Command.TheVariants.{Compare}
use Rattle.session_report.specs.Parties.{sink_between, source_between}
use Rattle.victim_rules.specs.Closures.{NarrowMay}
use Rattle.mss_top.proofs.ComparedJobs.{compare_going}
use Rattle.mss_top.proofs.comparing.compare_beside.Goals as goal

pub returns-clause-ended : goal.returns-clause-ended
returns-clause-ended g c = record { sessions = c.compare_input-status.result.sessions.items; ended = c.compare_input-status.ensures }

pub returns-clause-going : goal.returns-clause-going
returns-clause-going g c =
    let did = c.compare_input-status in
    compare_going (Some Compare) (NarrowMay g.F.Fn c.args.other) (source_between g.I.Source c.args.input.now did.new.input) (sink_between g.O.Sink c.args.output.now did.new.output)
    did.result.status did.result.sessions.items did.ensures
