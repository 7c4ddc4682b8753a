use Rattle.std.proofs.Common.{Some}
use Rattle.job_runs.specs.Parties.{devices}
use Rattle.session_report.specs.Parties.{sink_between, source_between}
use Rattle.mss_top.specs.Admission.{command_of}
use Rattle.mss_top.proofs.Broken.{run_broken}
use Rattle.mss_top.proofs.Running.{ends_run}
use Rattle.mss_top.proofs.run.run_with.Goals as goal

pub returns-in-Ok-admit-clause-ended : goal.returns-in-Ok-admit-clause-ended
returns-in-Ok-admit-clause-ended g c = ends_run (Some (command_of c.args.settings)) (g.C.Choose.may c.args.chooser)
    (source_between g.I.Source c.args.input.now c.admit.new.input)
    (devices g.S.Site c.args.site c.run_admitted.result.site)
    (sink_between g.O.Sink c.args.output.now c.run_admitted.new.output)
    c.run_admitted.result.status c.in-Ok-admit.run' c.run_admitted.result.session c.in-Ok-admit.ensures.admits c.run_admitted.ensures.ended

pub returns-in-Ok-admit-clause-unread : goal.returns-in-Ok-admit-clause-unread
returns-in-Ok-admit-clause-unread g c = λ stop.
    run_broken g.S.Site c.args.site (Some (command_of c.args.settings))
    (source_between g.I.Source c.args.input.now c.admit.new.input)
    (devices g.S.Site c.args.site c.run_admitted.result.site)
    (sink_between g.O.Sink c.args.output.now c.run_admitted.new.output)
    c.in-Ok-admit.run' c.run_admitted.result.session c.in-Ok-admit.ensures.admits (c.run_admitted.ensures.unread stop)
