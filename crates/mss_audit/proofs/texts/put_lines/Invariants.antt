use Rattle.std.proofs.Common.{◌≡◌, ◌+◌, drop}
use Rattle.mss_base.proofs.Putting.{Part}
use Rattle.report_text.specs.Texts.{numbered_lines}
use Rattle.mss_audit.specs.Texts.{finding_line}
use Rattle.mss_audit.proofs.texts.put_lines.Given as goal

abbrev pub invariant-loop-finding : goal.invariant-loop-finding
invariant-loop-finding g l = record {
  put : g.O.Sink.tells → Part (g.O.Sink.told l.initial.output) (g.O.Sink.told l.output) (numbered_lines finding_line l.number (drop l.finding-index l.findings)) (numbered_lines finding_line 1 l.findings);
  number : l.number ≡ l.finding-index + 1;
  same : g.O.Sink.faults l.output ≡ g.O.Sink.faults l.initial.output;
}
