use Rattle.std.proofs.Common.{subst}
use Rattle.core_state.specs.Sessions.{session_data}
use Rattle.job_runs.specs.Copies.{job_with}
use Rattle.job_runs.specs.Parties.{Devices, devices}
use Rattle.job_runs.specs.Runs.{OnUnread, ReportBrokeOff}
use Rattle.job_runs.specs.declared.run.Outcome.{Outcome}
use Rattle.session_report.specs.Parties.{Stream, sink_between}
use Rattle.thread_runs.specs.Runs.{EndsAtOnce}
use Rattle.thread_runs.proofs.AtOnce.{played_halts}
use Rattle.mss_top.proofs.Broken.{job_broken}
use Rattle.mss_top.proofs.at_once.run_job_at_once.Goals as goal

pub returns-in-Ran-clause-ended : goal.returns-in-Ran-clause-ended
returns-in-Ran-clause-ended g c =
    let ran = c.run_at_once-job in
    let site : Devices = devices g.S.Site c.args.site ran.result.job.site in
    let sink : Stream = sink_between g.O.Sink c.args.output.now ran.new.output in
    record {
      end = c.in-Ran.end;
      answer = c.in-Ran.told;
      mid = record { bytes = g.O.Sink.told ran.new.output; faults = g.O.Sink.faults ran.new.output };
      session = subst (λ (o : Outcome). EndsAtOnce (job_with c.args.job.now c.args.copier) site sink o ran.result.hosts.items) c.in-Ran.is ran.ensures.ends;
      closes = c.close.ensures;
    }

pub returns-in-Ran-clause-unread : goal.returns-in-Ran-clause-unread
returns-in-Ran-clause-unread g c = λ stop none.
    let ran = c.run_at_once-job in
    let site : Devices = devices g.S.Site c.args.site ran.result.job.site in
    let put : Stream = sink_between g.O.Sink c.args.output.now ran.new.output in
    let sink : Stream = sink_between g.O.Sink c.args.output.now c.close.new.output in
    let hosts = ran.result.hosts.items in
    let ends = subst (λ (o : Outcome). EndsAtOnce (job_with c.args.job.now c.args.copier) site put o hosts) c.in-Ran.is ran.ensures.ends in
    job_broken g.S.Site c.args.site c.args.job.now site sink (record { bytes = g.O.Sink.told ran.new.output; faults = g.O.Sink.faults ran.new.output })
    (session_data c.in-Ran.session) c.in-Ran.end c.in-Ran.told c.close.result
    (played_halts (job_with c.args.job.now c.args.copier) _ c.in-Ran.end hosts (session_data c.in-Ran.session) ends.played)
    c.close.ensures (subst (λ (o : Outcome). OnUnread o (ReportBrokeOff g.S.Site c.args.site c.args.job.now site put)) c.in-Ran.is ran.ensures.unread) stop none
