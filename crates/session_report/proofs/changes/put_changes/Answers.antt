use Rattle.std.proofs.Common.{◌∙◌, arith}
use Rattle.report_text.specs.Texts.{numbered_lines}
use Rattle.session_report.specs.Reports.{changes_text, message_line}
use Rattle.report_text.proofs.LineLemmas.{puts_failed, lines_go_on, lines_stop}
use Rattle.session_report.proofs.changes.put_changes.Goals as goal

pub returns-in_err-put_message-clause-bytes : goal.returns-in_err-put_message-clause-bytes
unfolding changes_text
returns-in_err-put_message-clause-bytes g c = λ told.
    puts_failed c.from_residual.result _ (g.O.Sink.told c.args.output.now) (g.O.Sink.told c.put_message.new.output) (numbered_lines message_line 1 c.args.console.now) c.from_residual.ensures.1
    (lines_stop message_line (g.O.Sink.told c.args.output.now) (g.O.Sink.told c.loop-message.output) (g.O.Sink.told c.put_message.new.output) c.loop-message.number c.loop-message.message-index c.args.console.now c.message-item.result
    (numbered_lines message_line 1 c.args.console.now) c.loop-message-test.true c.message-item.is (c.loop-message.invariant.put told) (c.in_err-put_message.ensures.bytes told))

pub loop-message-preserved : goal.loop-message-preserved
loop-message-preserved g c = record {
  put = λ told. lines_go_on message_line (g.O.Sink.told c.args.output.now) (g.O.Sink.told c.loop-message.output) (g.O.Sink.told c.put_message.new.output) c.loop-message.number c.loop-message.message-index c.args.console.now c.message-item.result
      (numbered_lines message_line 1 c.args.console.now) c.loop-message-test.true c.message-item.is (c.loop-message.invariant.put told) (c.in_ok-put_message.ensures.bytes told);
  number = omega arith;
  same = c.in_ok-put_message.ensures.cause.same ∙ c.loop-message.invariant.same;
}
