use Rattle.std.proofs.Common.{Option, Some, map, string_bytes, sym, ◌∙◌, ap, subst}
use Rattle.mss_base.specs.Content.{content}
use Rattle.command_words.specs.Words.{meaning}
use Rattle.command_words.specs.declared.command.Command.{Command}
use Rattle.job_runs.specs.Parties.{Devices, devices}
use Rattle.session_report.specs.Parties.{Stream, sink_between}
use Rattle.mss_top.specs.Showing.{EndsShown, LooksByOneCopy}
use Rattle.mss_top.proofs.Broken.{line_unstopped}
use Rattle.mss_top.proofs.Looked.{look_complete}
use Rattle.mss_top.proofs.Obeyed.{refused_exactly}
use Rattle.mss_top.proofs.OneLook.{line_by_one}
use Rattle.mss_top.proofs.showing.show.Goals as goal

pub returns-in-Ok-Show-clause-ended : goal.returns-in-Ok-Show-clause-ended
returns-in-Ok-Show-clause-ended g c =
    let site : Devices = devices g.S.Site c.args.site c.list_site.result.site in
    let sink : Stream = sink_between g.O.Sink c.args.output.now c.list_site.new.output in
    subst (λ (asked : Option Command). EndsShown asked site sink c.list_site.result.status)
    (sym (c.in-Ok-Show.ensures.asks ∙ ap (λ (k : Command). Some k) c.in-Ok-Show.field-0-is)) c.list_site.ensures.ended

pub returns-in-Ok-Show-clause-complete : goal.returns-in-Ok-Show-clause-complete
returns-in-Ok-Show-clause-complete g c = λ well.
    let site : Devices = devices g.S.Site c.args.site c.list_site.result.site in
    let sink : Stream = sink_between g.O.Sink c.args.output.now c.list_site.new.output in
    look_complete (meaning (map string_bytes c.args.words.now)) site sink well c.list_site.result.status
    (subst (λ (asked : Option Command). EndsShown asked site sink c.list_site.result.status)
    (sym (c.in-Ok-Show.ensures.asks ∙ ap (λ (k : Command). Some k) c.in-Ok-Show.field-0-is)) c.list_site.ensures.ended)

pub returns-in-Ok-Show-clause-one_copy : goal.returns-in-Ok-Show-clause-one_copy
returns-in-Ok-Show-clause-one_copy g c = λ looks.
    let sink : Stream = sink_between g.O.Sink c.args.output.now c.list_site.new.output in
    c.list_site.ensures.one_copy
    (subst (λ (asked : Option Command). LooksByOneCopy asked g.S.Site c.args.site sink) (c.in-Ok-Show.ensures.asks ∙ ap (λ (k : Command). Some k) c.in-Ok-Show.field-0-is) looks)

pub returns-in-Err-clause-one_copy : goal.returns-in-Err-clause-one_copy
returns-in-Err-clause-one_copy g c = λ looks.
    let k = content (g.S.Site.told c.args.site) in
    line_by_one k (sink_between g.O.Sink c.args.output.now c.refuse-in-Err.new.output) looks.sink_none c.in-Err.line c.refuse-in-Err.result.status
    (refused_exactly (meaning (map string_bytes c.args.words.now)) k c.in-Err.line c.in-Err.ensures.asks looks.command) c.refuse-in-Err.ensures.put

pub returns-in-Err-clause-unread : goal.returns-in-Err-clause-unread
returns-in-Err-clause-unread g c = λ stop.
    absurd (line_unstopped c.in-Err.line (sink_between g.O.Sink c.args.output.now c.refuse-in-Err.new.output) c.refuse-in-Err.result.status c.refuse-in-Err.ensures.put stop)
