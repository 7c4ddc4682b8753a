use Rattle.std.proofs.Common.{Err, sym, ap, ◌∙◌}
use Rattle.std.proofs.lemmas.Result.{err_from_is_err_and}
use Rattle.report_text.proofs.LineLemmas.{begun_behind}
use Rattle.session_report.proofs.Framing.{history_long}
use Rattle.session_report.proofs.reporting.put_opening.Goals as goal

pub returns-in_err-put_history-clause-begun : goal.returns-in_err-put_history-clause-begun
returns-in_err-put_history-clause-begun g c = λ told memory.
    let p = err_from_is_err_and c.from_residual.result c.from_residual.ensures.1 in
    c.in_err-put_history.ensures.begun told (sym (p.1 ∙ ap Err p.2) ∙ memory)

pub returns-clause-begun : goal.returns-clause-begun
returns-clause-begun g c = λ told memory.
    begun_behind c.put_changes.result (g.O.Sink.told c.args.output.now) (g.O.Sink.told c.put_history.new.output) (g.O.Sink.told c.put_changes.new.output) _ _
    (history_long _) (c.in_ok-put_history.ensures.bytes told) (c.put_changes.ensures.bytes told)
