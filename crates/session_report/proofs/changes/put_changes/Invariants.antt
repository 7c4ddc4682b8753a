use Rattle.std.proofs.Common.{◌≡◌, ◌+◌, drop}
use Rattle.mss_base.proofs.Putting.{Part}
use Rattle.report_text.specs.Texts.{numbered_lines}
use Rattle.session_report.specs.Reports.{message_line}
use Rattle.session_report.proofs.changes.put_changes.Given as goal

abbrev pub invariant-loop-message : goal.invariant-loop-message
invariant-loop-message g l = record {
  put : g.O.Sink.tells → Part (g.O.Sink.told l.initial.output) (g.O.Sink.told l.output) (numbered_lines message_line l.number (drop l.message-index l.console)) (numbered_lines message_line 1 l.console);
  number : l.number ≡ l.message-index + 1;
  same : g.O.Sink.faults l.output ≡ g.O.Sink.faults l.initial.output;
}
