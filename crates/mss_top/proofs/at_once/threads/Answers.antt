use Rattle.std.proofs.Common.{Option, Some, map, string_bytes, sym, ◌∙◌, ap, subst}
use Rattle.command_words.specs.Words.{meaning}
use Rattle.command_words.specs.declared.command.Command.{Command}
use Rattle.job_runs.specs.Parties.{Devices, devices}
use Rattle.session_report.specs.Parties.{Stream, sink_between, source_between}
use Rattle.mss_top.specs.Serial.{OnUnstopped}
use Rattle.mss_top.specs.Threads.{EndsThreads, ThreadsBrokeOff}
use Rattle.mss_top.proofs.CompletedThreads.{threads_complete}
use Rattle.mss_top.proofs.at_once.threads.Goals as goal

pub returns-in-Ok-Threads-clause-ended : goal.returns-in-Ok-Threads-clause-ended
returns-in-Ok-Threads-clause-ended g c =
    let ran = c.run_threads in
    let input : Stream = source_between g.I.Source c.args.input.now ran.new.input in
    let site : Devices = devices g.S.Site c.args.site ran.result.run.site in
    let sink : Stream = sink_between g.O.Sink c.args.output.now ran.new.output in
    subst (λ (asked : Option Command). EndsThreads asked input site sink ran.result.run.status ran.result.hosts.items ran.result.run.session)
    (sym (c.in-Ok-Threads.ensures.asks ∙ ap (λ (k : Command). Some k) c.in-Ok-Threads.field-0-is)) ran.ensures.ended

pub returns-in-Ok-Threads-clause-complete : goal.returns-in-Ok-Threads-clause-complete
returns-in-Ok-Threads-clause-complete g c = λ job well.
    let ran = c.run_threads in
    let input : Stream = source_between g.I.Source c.args.input.now ran.new.input in
    let site : Devices = devices g.S.Site c.args.site ran.result.run.site in
    let sink : Stream = sink_between g.O.Sink c.args.output.now ran.new.output in
    threads_complete (meaning (map string_bytes c.args.words.now)) input site sink job well ran.result.run.status ran.result.hosts.items ran.result.run.session
    (subst (λ (asked : Option Command). EndsThreads asked input site sink ran.result.run.status ran.result.hosts.items ran.result.run.session)
    (sym (c.in-Ok-Threads.ensures.asks ∙ ap (λ (k : Command). Some k) c.in-Ok-Threads.field-0-is)) ran.ensures.ended)

pub returns-in-Ok-Threads-clause-unread : goal.returns-in-Ok-Threads-clause-unread
returns-in-Ok-Threads-clause-unread g c = λ stop.
    let ran = c.run_threads in
    let input : Stream = source_between g.I.Source c.args.input.now ran.new.input in
    let site : Devices = devices g.S.Site c.args.site ran.result.run.site in
    let sink : Stream = sink_between g.O.Sink c.args.output.now ran.new.output in
    subst (λ (asked : Option Command). OnUnstopped ran.result.run.session (ThreadsBrokeOff g.S.Site c.args.site asked input site sink))
    (sym (c.in-Ok-Threads.ensures.asks ∙ ap (λ (k : Command). Some k) c.in-Ok-Threads.field-0-is)) (ran.ensures.unread stop)
