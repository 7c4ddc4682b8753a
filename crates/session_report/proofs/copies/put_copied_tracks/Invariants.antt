use Rattle.std.proofs.Common.{◌≡◌, ◌+◌, ◌*◌, ◌++◌}
use Rattle.report_text.specs.Texts.{tracks_text}
use Rattle.session_report.specs.CopyTexts.{copied_tracks}
use Rattle.session_report.proofs.copies.put_copied_tracks.Given as goal

abbrev pub invariant-loop-head : goal.invariant-loop-head
invariant-loop-head g l = record {
  put : g.O.Sink.tells → g.O.Sink.told l.output ≡ g.O.Sink.told l.fn.output ++ tracks_text (copied_tracks l.copier.tracks) (l.cylinder * 19 + l.head);
  same : g.O.Sink.faults l.output ≡ g.O.Sink.faults l.fn.output;
}

abbrev pub invariant-loop-cylinder : goal.invariant-loop-cylinder
invariant-loop-cylinder g l = record {
  put : g.O.Sink.tells → g.O.Sink.told l.output ≡ g.O.Sink.told l.fn.output ++ tracks_text (copied_tracks l.copier.tracks) (l.cylinder * 19);
  same : g.O.Sink.faults l.output ≡ g.O.Sink.faults l.fn.output;
}
