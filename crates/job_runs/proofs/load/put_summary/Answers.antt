use Rattle.std.proofs.Common.{Err, refl, sym, ◌∙◌, ap, subst}
use Rattle.std.proofs.lemmas.Result.{err_from_is_err_and}
use Rattle.session_report.specs.Answers.{Answer, SinkCounts, broken, whole}
use Rattle.job_runs.proofs.load.put_summary.Goals as goal

pub returns-in_err-summary : goal.returns-in_err-summary
returns-in_err-summary g c =
    let p = err_from_is_err_and c.from_residual.result c.from_residual.ensures.1 in
    record {
      put = broken (p.1 ∙ ap Err p.2) c.in_err-summary.ensures.cause.failed c.in_err-summary.ensures.bytes;
      counted = subst (λ (a : Answer). SinkCounts (g.O.Sink.faults c.args.output.now) (g.O.Sink.faults c.summary.new.output) a) (sym (p.1 ∙ ap Err p.2)) c.in_err-summary.ensures.cause.failed;
    }

pub returns : goal.returns
returns g c = record { put = whole refl c.in_ok-summary.ensures.bytes; counted = c.in_ok-summary.ensures.cause.same }
