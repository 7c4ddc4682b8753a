use Rattle.std.proofs.Common.{◌≡◌, ◌+◌, drop}
use Rattle.mss_base.proofs.Putting.{Part}
use Rattle.report_text.specs.Texts.{numbered_lines}
use Rattle.compared_runs.specs.Texts.{policy_line}
use Rattle.compared_runs.proofs.texts.put_lines.Given as goal

abbrev pub invariant-loop-session : goal.invariant-loop-session
invariant-loop-session g l = record {
  put : g.O.Sink.tells → Part (g.O.Sink.told l.initial.output) (g.O.Sink.told l.output) (numbered_lines policy_line l.number (drop l.session-index l.sessions)) (numbered_lines policy_line 1 l.sessions);
  number : l.number ≡ l.session-index + 1;
  same : g.O.Sink.faults l.output ≡ g.O.Sink.faults l.initial.output;
}
