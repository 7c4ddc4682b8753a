use Rattle.std.proofs.Common.{Option, Some, map, string_bytes, sym, ◌∙◌, ap, subst}
use Rattle.command_words.specs.Words.{meaning}
use Rattle.command_words.specs.declared.command.Command.{Command}
use Rattle.job_runs.specs.Parties.{Devices, devices}
use Rattle.session_report.specs.Parties.{Stream, sink_between, source_between}
use Rattle.mss_top.specs.Serial.{EndsCommand, OnUnstopped, RunBrokeOff}
use Rattle.mss_top.proofs.Completed.{run_complete}
use Rattle.mss_top.proofs.run.serial.Goals as goal

pub returns-in-Ok-Serial-clause-ended : goal.returns-in-Ok-Serial-clause-ended
returns-in-Ok-Serial-clause-ended g c =
    let input : Stream = source_between g.I.Source c.args.input.now c.run_with.new.input in
    let site : Devices = devices g.S.Site c.args.site c.run_with.result.site in
    let sink : Stream = sink_between g.O.Sink c.args.output.now c.run_with.new.output in
    subst (λ (asked : Option Command). EndsCommand asked (g.C.Choose.may c.args.chooser) input site sink c.run_with.result.status c.run_with.result.session)
    (sym (c.in-Ok-Serial.ensures.asks ∙ ap (λ (k : Command). Some k) c.in-Ok-Serial.field-0-is)) c.run_with.ensures.ended

pub returns-in-Ok-Serial-clause-complete : goal.returns-in-Ok-Serial-clause-complete
returns-in-Ok-Serial-clause-complete g c = λ settings job well.
    let input : Stream = source_between g.I.Source c.args.input.now c.run_with.new.input in
    let site : Devices = devices g.S.Site c.args.site c.run_with.result.site in
    let sink : Stream = sink_between g.O.Sink c.args.output.now c.run_with.new.output in
    let may = g.C.Choose.may c.args.chooser in
    run_complete (meaning (map string_bytes c.args.words.now)) input site sink settings job well c.run_with.result.status may c.run_with.result.session
    (subst (λ (asked : Option Command). EndsCommand asked may input site sink c.run_with.result.status c.run_with.result.session)
    (sym (c.in-Ok-Serial.ensures.asks ∙ ap (λ (k : Command). Some k) c.in-Ok-Serial.field-0-is)) c.run_with.ensures.ended)

pub returns-in-Ok-Serial-clause-unread : goal.returns-in-Ok-Serial-clause-unread
returns-in-Ok-Serial-clause-unread g c = λ stop.
    let input : Stream = source_between g.I.Source c.args.input.now c.run_with.new.input in
    let site : Devices = devices g.S.Site c.args.site c.run_with.result.site in
    let sink : Stream = sink_between g.O.Sink c.args.output.now c.run_with.new.output in
    subst (λ (asked : Option Command). OnUnstopped c.run_with.result.session (RunBrokeOff g.S.Site c.args.site asked input site sink))
    (sym (c.in-Ok-Serial.ensures.asks ∙ ap (λ (k : Command). Some k) c.in-Ok-Serial.field-0-is)) (c.run_with.ensures.unread stop)
