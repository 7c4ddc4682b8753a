use Rattle.std.proofs.Common.{◌≡◌, ◌+◌, ◌++◌, drop}
use Rattle.mss_base.proofs.Putting.{Part}
use Rattle.report_text.specs.Texts.{numbered_lines, entry_text}
use Rattle.report_text.proofs.report.put_entries.Given as goal

abbrev pub invariant-loop-entry : goal.invariant-loop-entry
invariant-loop-entry g l = record {
  put : g.O.Sink.tells → Part (g.O.Sink.told l.initial.output) (g.O.Sink.told l.output) (l.buffer.items ++ numbered_lines entry_text l.number (drop l.entry-index l.entries)) (numbered_lines entry_text 1 l.entries);
  number : l.number ≡ l.entry-index + 1;
  same : g.O.Sink.faults l.output ≡ g.O.Sink.faults l.initial.output;
}
