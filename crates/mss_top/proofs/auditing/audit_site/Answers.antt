use Rattle.std.proofs.Common.{inr, map, string_bytes, Some, ◌∙◌, ap}
use Rattle.command_words.specs.Words.{meaning}
use Rattle.command_words.specs.declared.command.Command.{Command}
use Rattle.job_runs.specs.Parties.{Devices, devices}
use Rattle.session_report.specs.Parties.{Stream, sink_between}
use Rattle.mss_top.proofs.Audited.{audit_complete}
use Rattle.mss_top.proofs.Broken.{line_unstopped}
use Rattle.mss_top.proofs.auditing.audit_site.Goals as goal

pub returns-in-Ok-Audit-clause-ended : goal.returns-in-Ok-Audit-clause-ended
returns-in-Ok-Audit-clause-ended g c = inr (record {
  frames = c.in-Ok-Audit.frames;
  command = c.in-Ok-Audit.ensures.asks ∙ ap (λ (k : Command). Some k) c.in-Ok-Audit.field-0-is;
  audits = c.audit_for.ensures.ended;
})

pub returns-in-Ok-Audit-clause-complete : goal.returns-in-Ok-Audit-clause-complete
returns-in-Ok-Audit-clause-complete g c = λ frames well.
    let site : Devices = devices g.S.Site c.args.site c.audit_for.result.site in
    let sink : Stream = sink_between g.O.Sink c.args.output.now c.audit_for.new.output in
    audit_complete (meaning (map string_bytes c.args.words.now)) site sink frames well c.audit_for.result.status (inr (record {
      frames = c.in-Ok-Audit.frames;
      command = c.in-Ok-Audit.ensures.asks ∙ ap (λ (k : Command). Some k) c.in-Ok-Audit.field-0-is;
      audits = c.audit_for.ensures.ended;
    }))

pub returns-in-Err-clause-unread : goal.returns-in-Err-clause-unread
returns-in-Err-clause-unread g c = λ stop.
    absurd (line_unstopped c.in-Err.line (sink_between g.O.Sink c.args.output.now c.refuse-in-Err.new.output) c.refuse-in-Err.result.status c.refuse-in-Err.ensures.put stop)
