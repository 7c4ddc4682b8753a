use Rattle.std.specs.Option.{option_map}
use Rattle.mss_base.proofs.Putting.{puts_stops}
use Rattle.report_text.proofs.LineLemmas.{puts_failed}
use Rattle.session_report.specs.CopyTexts.{behind_text}
use Rattle.session_report.specs.Reports.{last_text}
use Rattle.session_report.proofs.Framing.{grows_by, line_behind}
use Rattle.session_report.proofs.reporting.put_closing.Goals as goal

pub returns-in_err-put_behind-clause-bytes : goal.returns-in_err-put_behind-clause-bytes
returns-in_err-put_behind-clause-bytes g c = λ told.
    puts_failed c.from_residual.result _ (g.O.Sink.told c.args.output.now) (g.O.Sink.told c.put_behind.new.output) _ c.from_residual.ensures.1
    (puts_stops (g.O.Sink.told c.args.output.now) (g.O.Sink.told c.put_behind.new.output) (behind_text (option_map (λ c. c.now) c.args.copy)) (last_text c.args.last) (c.in_err-put_behind.ensures.bytes told))

pub returns-clause-ended : goal.returns-clause-ended
returns-clause-ended g c = λ told. line_behind _ _ _ _ (grows_by _ _ _ (c.in_ok-put_behind.ensures.bytes told)) (c.in_ok-put_last.ensures.bytes told)
