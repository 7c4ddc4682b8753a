use Rattle.std.proofs.Common.{◌++◌}
use Rattle.session_report.specs.Summaries.{counts_text, cylinders_text, load_text, pages_text}
use Rattle.report_text.proofs.LineLemmas.{puts_failed}
use Rattle.session_report.proofs.Lines.{put_two, stops_first, stops_second}
use Rattle.mss_base.proofs.Putting.{puts_after}
use Rattle.session_report.proofs.summing.put_counts.Goals as goal

pub returns-in_err-put_load-clause-bytes : goal.returns-in_err-put_load-clause-bytes
unfolding counts_text
returns-in_err-put_load-clause-bytes g c = λ told.
    puts_failed c.from_residual.result _ (g.O.Sink.told c.args.output.now) (g.O.Sink.told c.put_load.new.output) (load_text c.args.programs c.args.history.now ++ pages_text c.args.console.now ++ cylinders_text c.args.console.now) c.from_residual.ensures.1
    (stops_first (g.O.Sink.told c.args.output.now) (g.O.Sink.told c.put_load.new.output) (load_text c.args.programs c.args.history.now) (pages_text c.args.console.now) (cylinders_text c.args.console.now) (c.in_err-put_load.ensures.bytes told))

pub returns-in_err-put_pages-clause-bytes : goal.returns-in_err-put_pages-clause-bytes
unfolding counts_text
returns-in_err-put_pages-clause-bytes g c = λ told.
    puts_failed c.from_residual-in_err-put_pages.result _ (g.O.Sink.told c.args.output.now) (g.O.Sink.told c.put_pages.new.output) (load_text c.args.programs c.args.history.now ++ pages_text c.args.console.now ++ cylinders_text c.args.console.now) c.from_residual-in_err-put_pages.ensures.1
    (stops_second (g.O.Sink.told c.args.output.now) (g.O.Sink.told c.put_load.new.output) (g.O.Sink.told c.put_pages.new.output) (load_text c.args.programs c.args.history.now) (pages_text c.args.console.now) (cylinders_text c.args.console.now) (c.in_ok-put_load.ensures.bytes told) (c.in_err-put_pages.ensures.bytes told))

pub returns-clause-bytes : goal.returns-clause-bytes
unfolding counts_text
returns-clause-bytes g c = λ told.
    puts_after c.put_cylinders.result (g.O.Sink.told c.args.output.now) (g.O.Sink.told c.put_pages.new.output) (g.O.Sink.told c.put_cylinders.new.output) (load_text c.args.programs c.args.history.now ++ pages_text c.args.console.now) (cylinders_text c.args.console.now)
    (put_two (g.O.Sink.told c.args.output.now) (g.O.Sink.told c.put_load.new.output) (g.O.Sink.told c.put_pages.new.output) (load_text c.args.programs c.args.history.now) (pages_text c.args.console.now) (c.in_ok-put_load.ensures.bytes told) (c.in_ok-put_pages.ensures.bytes told)) (c.put_cylinders.ensures.bytes told)
