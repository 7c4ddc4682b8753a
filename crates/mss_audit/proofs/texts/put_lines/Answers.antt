use Rattle.std.proofs.Common.{◌∙◌, arith}
use Rattle.report_text.specs.Texts.{numbered_lines}
use Rattle.report_text.proofs.LineLemmas.{puts_failed, lines_go_on, lines_stop}
use Rattle.mss_audit.specs.Texts.{lines_text, finding_line}
use Rattle.mss_audit.proofs.texts.put_lines.Goals as goal

pub returns-in_err-put_line-clause-bytes : goal.returns-in_err-put_line-clause-bytes
unfolding lines_text
returns-in_err-put_line-clause-bytes g c = λ told.
    puts_failed c.from_residual.result _ (g.O.Sink.told c.args.output.now) (g.O.Sink.told c.put_line.new.output) (numbered_lines finding_line 1 c.args.findings.now) c.from_residual.ensures.1
    (lines_stop finding_line (g.O.Sink.told c.args.output.now) (g.O.Sink.told c.loop-finding.output) (g.O.Sink.told c.put_line.new.output) c.loop-finding.number c.loop-finding.finding-index c.args.findings.now c.finding-item.result
    (numbered_lines finding_line 1 c.args.findings.now) c.loop-finding-test.true c.finding-item.is (c.loop-finding.invariant.put told) (c.in_err-put_line.ensures.bytes told))

pub loop-finding-preserved : goal.loop-finding-preserved
loop-finding-preserved g c = record {
  put = λ told. lines_go_on finding_line (g.O.Sink.told c.args.output.now) (g.O.Sink.told c.loop-finding.output) (g.O.Sink.told c.put_line.new.output) c.loop-finding.number c.loop-finding.finding-index c.args.findings.now c.finding-item.result
      (numbered_lines finding_line 1 c.args.findings.now) c.loop-finding-test.true c.finding-item.is (c.loop-finding.invariant.put told) (c.in_ok-put_line.ensures.bytes told);
  number = omega arith;
  same = c.in_ok-put_line.ensures.cause.same ∙ c.loop-finding.invariant.same;
}
