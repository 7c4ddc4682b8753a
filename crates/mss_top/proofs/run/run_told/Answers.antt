use Rattle.job_runs.specs.Parties.{Devices, devices}
use Rattle.std.proofs.Common.{Option, subst}
use Rattle.volume_copy.specs.Copies.{AskedCopy}
use Rattle.mss_top.specs.Admission.{task_of}
use Rattle.job_runs.specs.Runs.{ReportBrokeOff, JobEnds}
use Rattle.session_report.specs.Parties.{Stream, sink_between}
use Rattle.mss_top.proofs.Broken.{load_unread}
use Rattle.mss_top.proofs.Running.{runs_job, runs_load}
use Rattle.mss_top.proofs.run.run_told.Goals as goal

pub returns-in-None-clause-runs : goal.returns-in-None-clause-runs
returns-in-None-clause-runs g c = runs_job (g.C.Choose.may c.args.chooser) c.args.run.now.settings.load (task_of c.args.run.now.job c.args.run.now.settings.copy) _ c.args.run.now.turns.items
    (devices g.S.Site c.args.site c.run_job.result.site)
    (sink_between g.O.Sink c.args.output.now c.run_job.new.output) c.run_job.result.outcome c.deref.ensures.value c.in-None.is
    (subst (λ (o : Option AskedCopy). JobEnds (g.C.Choose.may c.args.chooser) (record { job = c.args.run.now.job; copy = o }) c.deref.result.now (devices g.S.Site c.args.site c.run_job.result.site) (sink_between g.O.Sink c.args.output.now c.run_job.new.output) c.run_job.result.outcome) c.requires.copy c.run_job.ensures.ends)

pub returns-in-Some-clause-runs : goal.returns-in-Some-clause-runs
returns-in-Some-clause-runs g c = runs_load (g.C.Choose.may c.args.chooser) c.args.run.now.settings.load (task_of c.args.run.now.job c.args.run.now.settings.copy) c.in-Some.programs _ c.args.run.now.turns.items
    (devices g.S.Site c.args.site c.run_load.result.site)
    (sink_between g.O.Sink c.args.output.now c.run_load.new.output) c.run_load.result.outcome c.deref-in-Some.ensures.value c.in-Some.is c.run_load.ensures.ends

pub returns-in-Some-clause-unread : goal.returns-in-Some-clause-unread
returns-in-Some-clause-unread g c =
    let site : Devices = devices g.S.Site c.args.site c.run_load.result.site in
    let sink : Stream = sink_between g.O.Sink c.args.output.now c.run_load.new.output in
    load_unread (g.C.Choose.may c.args.chooser) c.args.run.now.job c.in-Some.programs _ site sink (ReportBrokeOff g.S.Site c.args.site c.args.run.now.job site sink) c.run_load.result.outcome c.run_load.ensures.ends
