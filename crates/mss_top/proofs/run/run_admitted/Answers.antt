use Rattle.std.proofs.Common.{subst}
use Rattle.core_state.specs.Sessions.{session_data}
use Rattle.job_runs.specs.Parties.{Devices, devices}
use Rattle.job_runs.specs.Runs.{OnUnread, ReportBrokeOff}
use Rattle.job_runs.specs.declared.run.Outcome.{Outcome}
use Rattle.session_report.specs.Parties.{Stream, sink_between}
use Rattle.mss_top.specs.Admission.{task_of}
use Rattle.mss_top.specs.Serial.{RunsAdmitted}
use Rattle.mss_top.proofs.Broken.{halts_of, job_broken}
use Rattle.mss_top.proofs.run.run_admitted.Goals as goal

pub returns-in-Ran-clause-ended : goal.returns-in-Ran-clause-ended
returns-in-Ran-clause-ended g c =
    let ran = c.run_told-site in
    let site : Devices = devices g.S.Site c.args.site ran.result.site in
    let sink : Stream = sink_between g.O.Sink c.args.output.now ran.new.output in
    record {
      end = c.in-Ran.end;
      answer = c.in-Ran.told;
      mid = record { bytes = g.O.Sink.told ran.new.output; faults = g.O.Sink.faults ran.new.output };
      session = subst (λ (o : Outcome). RunsAdmitted (g.C.Choose.may c.args.chooser) c.args.run.now.settings.load (task_of c.args.run.now.job c.args.run.now.settings.copy) c.args.run.now.turns.items site sink o) c.in-Ran.is ran.ensures.runs;
      closes = c.close.ensures;
    }

pub returns-in-Ran-clause-unread : goal.returns-in-Ran-clause-unread
returns-in-Ran-clause-unread g c = λ stop none.
    let ran = c.run_told-site in
    let may = g.C.Choose.may c.args.chooser in
    let run = c.args.run.now in
    let site : Devices = devices g.S.Site c.args.site ran.result.site in
    let put : Stream = sink_between g.O.Sink c.args.output.now ran.new.output in
    let sink : Stream = sink_between g.O.Sink c.args.output.now c.close.new.output in
    job_broken g.S.Site c.args.site run.job site sink (record { bytes = g.O.Sink.told ran.new.output; faults = g.O.Sink.faults ran.new.output })
    (session_data c.in-Ran.session) c.in-Ran.end c.in-Ran.told c.close.result
    (halts_of may run.settings.load (task_of run.job run.settings.copy) run.turns.items site put c.in-Ran.end c.in-Ran.told (session_data c.in-Ran.session) (subst (λ (o : Outcome). RunsAdmitted may run.settings.load (task_of run.job run.settings.copy) run.turns.items site put o) c.in-Ran.is ran.ensures.runs))
    c.close.ensures (subst (λ (o : Outcome). OnUnread o (ReportBrokeOff g.S.Site c.args.site run.job site put)) c.in-Ran.is ran.ensures.unread) stop none
