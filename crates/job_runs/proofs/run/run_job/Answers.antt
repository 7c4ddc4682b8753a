use Rattle.std.proofs.Common.{Option, arith, subst}
use Rattle.core_state.specs.Sessions.{session_data}
use Rattle.session_report.specs.Parties.{Stream, sink_between}
use Rattle.mss_restart.proofs.Repaired.{written_on}
use Rattle.volume_copy.specs.Beside.{asked_copy}
use Rattle.volume_copy.specs.Copies.{AskedCopy}
use Rattle.job_runs.specs.Copies.{job_with}
use Rattle.job_runs.specs.Runs.{TellsSession}
use Rattle.job_runs.specs.Parties.{Devices, devices}
use Rattle.job_runs.proofs.SessionFacts.{broke_off_of, ends_of, unstopped_of}
use Rattle.job_runs.proofs.run.run_job.Goals as goal
use Rattle.core_state.specs.CoreValue.{seen_site}

pub put_report-requires-clause-halts : goal.put_report-requires-clause-halts
put_report-requires-clause-halts g c = c.in-Ok.ensures.played.halts

pub returns-in-Ok : goal.returns-in-Ok
returns-in-Ok g c =
    let p = c.in-Ok.played in
    let told = g.S.Site.told in
    let put = c.put_report in
    let sink : Stream = sink_between g.O.Sink c.args.output.now put.new.output in
    let read = put.ensures.site in
    let site : Devices = devices g.S.Site p.site put.result.site in
    let tells_it = subst (λ (o : Option AskedCopy). TellsSession (record { job = c.args.job.now; copy = o }) (told c.args.site) site sink p.end (session_data p.session) put.result.outcome) c.in-Ok.ensures.asked
    (put.ensures.tells (told c.args.site) c.in-Ok.ensures.played.promised.plain c.in-Ok.ensures.copy) in
    record {
      only_reads_fail = λ but none. unstopped_of (job_with c.args.job.now c.args.copier) (told c.args.site) site sink p.end (session_data p.session) put.result.outcome tells_it (c.in-Ok.ensures.only_reads_fail but none);
      devices = written_on g.S.Site c.args.site p.site put.result.site c.in-Ok.ensures.devices
          (record { written = omega (arith, read.unwritten); later = read.later; sound = read.sound });
      ends = ends_of g.S.Site (g.C.Choose.may c.args.chooser) (job_with c.args.job.now c.args.copier) c.args.turns.now (seen_site g.S.Site c.args.site) p.site put.result.site p.end (session_data p.session)
          c.in-Ok.ensures.played sink put.result.outcome tells_it;
      unread = broke_off_of g.S.Site c.args.job.now c.args.site p.site put.result.site p.end (session_data p.session) p.rows
          c.in-Ok.ensures.played.halts c.in-Ok.ensures.rows c.in-Ok.ensures.devices.sound read sink (asked_copy c.args.copier) put.result.outcome tells_it
          (put.ensures.unread (told c.args.site) c.in-Ok.ensures.played.promised.plain);
    }
