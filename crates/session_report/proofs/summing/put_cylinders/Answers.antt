use Rattle.std.proofs.Common.{codes, ◌++◌}
use Rattle.session_report.specs.Summaries.{count_line, count_of, cylinders_text}
use Rattle.session_report.specs.declared.summing.Kind.TheVariants as kind
use Rattle.report_text.proofs.LineLemmas.{puts_failed}
use Rattle.session_report.proofs.Lines.{put_two, stops_first, stops_second}
use Rattle.mss_base.proofs.Putting.{puts_after}
use Rattle.session_report.proofs.summing.put_cylinders.Goals as goal

pub returns-in_err-put_count-clause-bytes : goal.returns-in_err-put_count-clause-bytes
unfolding cylinders_text
returns-in_err-put_count-clause-bytes g c = λ told.
    puts_failed c.from_residual.result _ (g.O.Sink.told c.args.output.now) (g.O.Sink.told c.put_count.new.output) (count_line (codes "staged ") (count_of kind.Staged c.args.console.now) ++ count_line (codes "changed ") (count_of kind.Changed c.args.console.now) ++ count_line (codes "destaged ") (count_of kind.Destaged c.args.console.now)) c.from_residual.ensures.1
    (stops_first (g.O.Sink.told c.args.output.now) (g.O.Sink.told c.put_count.new.output) (count_line (codes "staged ") (count_of kind.Staged c.args.console.now)) (count_line (codes "changed ") (count_of kind.Changed c.args.console.now)) (count_line (codes "destaged ") (count_of kind.Destaged c.args.console.now)) (c.in_err-put_count.ensures.bytes told))

pub returns-in_err-put_count-2-clause-bytes : goal.returns-in_err-put_count-2-clause-bytes
unfolding cylinders_text
returns-in_err-put_count-2-clause-bytes g c = λ told.
    puts_failed c.from_residual-in_err-put_count-2.result _ (g.O.Sink.told c.args.output.now) (g.O.Sink.told c.put_count-2.new.output) (count_line (codes "staged ") (count_of kind.Staged c.args.console.now) ++ count_line (codes "changed ") (count_of kind.Changed c.args.console.now) ++ count_line (codes "destaged ") (count_of kind.Destaged c.args.console.now)) c.from_residual-in_err-put_count-2.ensures.1
    (stops_second (g.O.Sink.told c.args.output.now) (g.O.Sink.told c.put_count.new.output) (g.O.Sink.told c.put_count-2.new.output) (count_line (codes "staged ") (count_of kind.Staged c.args.console.now)) (count_line (codes "changed ") (count_of kind.Changed c.args.console.now)) (count_line (codes "destaged ") (count_of kind.Destaged c.args.console.now)) (c.in_ok-put_count.ensures.bytes told) (c.in_err-put_count-2.ensures.bytes told))

pub returns-clause-bytes : goal.returns-clause-bytes
unfolding cylinders_text
returns-clause-bytes g c = λ told.
    puts_after c.put_count-3.result (g.O.Sink.told c.args.output.now) (g.O.Sink.told c.put_count-2.new.output) (g.O.Sink.told c.put_count-3.new.output) (count_line (codes "staged ") (count_of kind.Staged c.args.console.now) ++ count_line (codes "changed ") (count_of kind.Changed c.args.console.now)) (count_line (codes "destaged ") (count_of kind.Destaged c.args.console.now))
    (put_two (g.O.Sink.told c.args.output.now) (g.O.Sink.told c.put_count.new.output) (g.O.Sink.told c.put_count-2.new.output) (count_line (codes "staged ") (count_of kind.Staged c.args.console.now)) (count_line (codes "changed ") (count_of kind.Changed c.args.console.now)) (c.in_ok-put_count.ensures.bytes told) (c.in_ok-put_count-2.ensures.bytes told)) (c.put_count-3.ensures.bytes told)
