use Rattle.std.proofs.Common.{◌∙◌, arith}
use Rattle.report_text.specs.Texts.{numbered_lines}
use Rattle.compared_runs.specs.Texts.{lines_text, policy_line}
use Rattle.report_text.proofs.LineLemmas.{puts_failed, lines_go_on, lines_stop}
use Rattle.compared_runs.proofs.texts.put_lines.Goals as goal

pub returns-in_err-put_policy-clause-bytes : goal.returns-in_err-put_policy-clause-bytes
unfolding lines_text
returns-in_err-put_policy-clause-bytes g c = λ told.
    puts_failed c.from_residual.result _ (g.O.Sink.told c.args.output.now) (g.O.Sink.told c.put_policy.new.output) (numbered_lines policy_line 1 c.args.sessions.now) c.from_residual.ensures.1
    (lines_stop policy_line (g.O.Sink.told c.args.output.now) (g.O.Sink.told c.loop-session.output) (g.O.Sink.told c.put_policy.new.output) c.loop-session.number c.loop-session.session-index c.args.sessions.now c.session-item.result
    (numbered_lines policy_line 1 c.args.sessions.now) c.loop-session-test.true c.session-item.is (c.loop-session.invariant.put told) (c.in_err-put_policy.ensures.bytes told))

pub loop-session-preserved : goal.loop-session-preserved
loop-session-preserved g c = record {
  put = λ told. lines_go_on policy_line (g.O.Sink.told c.args.output.now) (g.O.Sink.told c.loop-session.output) (g.O.Sink.told c.put_policy.new.output) c.loop-session.number c.loop-session.session-index c.args.sessions.now c.session-item.result
      (numbered_lines policy_line 1 c.args.sessions.now) c.loop-session-test.true c.session-item.is (c.loop-session.invariant.put told) (c.in_ok-put_policy.ensures.bytes told);
  number = omega arith;
  same = c.in_ok-put_policy.ensures.cause.same ∙ c.loop-session.invariant.same;
}
