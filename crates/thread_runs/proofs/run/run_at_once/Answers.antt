use Rattle.std.proofs.Common.{Option, subst}
use Rattle.mss_base.specs.Sound.{StaysSound}
use Rattle.core_state.specs.Sessions.{session_data}
use Rattle.session_report.specs.Parties.{Stream, sink_between}
use Rattle.volume_copy.specs.Beside.{asked_copy}
use Rattle.volume_copy.specs.Copies.{AskedCopy}
use Rattle.job_runs.specs.Copies.{job_with}
use Rattle.job_runs.specs.Runs.{TellsSession}
use Rattle.job_runs.specs.Parties.{Devices, devices}
use Rattle.job_runs.proofs.SessionFacts.{broke_off_of, unstopped_of}
use Rattle.thread_runs.proofs.AtOnce.{played_halts, ends_at_once}
use Rattle.thread_runs.proofs.run.run_at_once.Goals as goal
use Rattle.core_state.specs.CoreValue.{seen_site}

pub put_report-requires-clause-halts : goal.put_report-requires-clause-halts
put_report-requires-clause-halts g c =
    let done = c.play_on-done.result in
    let p = done.played in
    let was = seen_site g.S.Site c.args.site in
    let site : Devices = devices g.S.Site c.args.site p.site in
    played_halts (job_with c.args.job.now c.args.copier) site p.end done.hosts.items (session_data p.session) (c.play_on-done.ensures.session was c.in-Ok.ensures.begun)

pub returns-in-Ok-clause-ends : goal.returns-in-Ok-clause-ends
returns-in-Ok-clause-ends g c =
    let done = c.play_on-done.result in
    let p = done.played in
    let was = seen_site g.S.Site c.args.site in
    let told = g.S.Site.told in
    let put = c.put_report in
    let played = c.play_on-done.ensures.session was c.in-Ok.ensures.begun in
    let sink : Stream = sink_between g.O.Sink c.args.output.now put.new.output in
    ends_at_once g.S.Site (job_with c.args.job.now c.args.copier) was p.site put.result.site p.end done.hosts.items (session_data p.session) played sink put.result.outcome (subst (λ (o : Option AskedCopy). TellsSession (record { job = c.args.job.now; copy = o }) (told c.args.site) (devices g.S.Site p.site put.result.site) sink p.end (session_data p.session) put.result.outcome) c.play_on-done.ensures.asked
    (put.ensures.tells (told c.args.site) played.promised.plain (c.play_on-done.ensures.copy (seen_site g.S.Site c.args.site) c.in-Ok.ensures.begun)))

pub returns-in-Ok-clause-unread : goal.returns-in-Ok-clause-unread
returns-in-Ok-clause-unread g c =
    let done = c.play_on-done.result in
    let p = done.played in
    let told = g.S.Site.told in
    let put = c.put_report in
    let played = c.play_on-done.ensures.session (seen_site g.S.Site c.args.site) c.in-Ok.ensures.begun in
    let sink : Stream = sink_between g.O.Sink c.args.output.now put.new.output in
    let whole : Devices = devices g.S.Site c.args.site p.site in
    let sound : StaysSound g.S.Site.never_fails_but c.args.site p.site = λ but never. c.play_on-done.ensures.devices.sound but (c.in-Ok.ensures.devices.sound but never) in
    broke_off_of g.S.Site c.args.job.now c.args.site p.site put.result.site p.end (session_data p.session) p.rows
    (played_halts (job_with c.args.job.now c.args.copier) whole p.end done.hosts.items (session_data p.session) played) c.play_on-done.ensures.rows sound put.ensures.site sink (asked_copy c.args.copier) put.result.outcome
    (subst (λ (o : Option AskedCopy). TellsSession (record { job = c.args.job.now; copy = o }) (told c.args.site) (devices g.S.Site p.site put.result.site) sink p.end (session_data p.session) put.result.outcome) c.play_on-done.ensures.asked
    (put.ensures.tells (told c.args.site) played.promised.plain (c.play_on-done.ensures.copy (seen_site g.S.Site c.args.site) c.in-Ok.ensures.begun))) (put.ensures.unread (told c.args.site) played.promised.plain)

pub returns-in-Ok-clause-only_reads_fail : goal.returns-in-Ok-clause-only_reads_fail
returns-in-Ok-clause-only_reads_fail g c = λ but never.
    let p = c.play_on-done.result.played in
    let told = g.S.Site.told in
    let put = c.put_report in
    let played = c.play_on-done.ensures.session (seen_site g.S.Site c.args.site) c.in-Ok.ensures.begun in
    let sink : Stream = sink_between g.O.Sink c.args.output.now put.new.output in
    let site : Devices = devices g.S.Site p.site put.result.site in
    unstopped_of (job_with c.args.job.now c.args.copier) (told c.args.site) site sink p.end (session_data p.session) put.result.outcome (subst (λ (o : Option AskedCopy). TellsSession (record { job = c.args.job.now; copy = o }) (told c.args.site) (devices g.S.Site p.site put.result.site) sink p.end (session_data p.session) put.result.outcome) c.play_on-done.ensures.asked
    (put.ensures.tells (told c.args.site) played.promised.plain (c.play_on-done.ensures.copy (seen_site g.S.Site c.args.site) c.in-Ok.ensures.begun)))
    (c.play_on-done.ensures.only_reads_fail but (c.in-Ok.ensures.devices.sound but never) c.in-Ok.ensures.begun.begins.going)
