use Rattle.std.proofs.Common.{◌+◌, ◌*◌, Some}
use Rattle.report_text.specs.Texts.{tracks_text}
use Rattle.session_report.specs.Parts.{row_tracks}
use Rattle.session_report.proofs.VolumeTexts.{IsPutting}
use Rattle.session_report.proofs.volumes.put_tracks.Given as goal

abbrev pub invariant-loop-head : goal.invariant-loop-head
invariant-loop-head g l =
    IsPutting g.S.Site g.O.Sink.tells l.fn.site l.site
    (g.O.Sink.told l.fn.output) (g.O.Sink.told l.output) (g.O.Sink.faults l.fn.output) (g.O.Sink.faults l.output)
    (λ c. tracks_text (row_tracks c (Some l.row)) (l.cylinder * 19 + l.head))

abbrev pub invariant-loop-cylinder : goal.invariant-loop-cylinder
invariant-loop-cylinder g l =
    IsPutting g.S.Site g.O.Sink.tells l.fn.site l.site
    (g.O.Sink.told l.fn.output) (g.O.Sink.told l.output) (g.O.Sink.faults l.fn.output) (g.O.Sink.faults l.output)
    (λ c. tracks_text (row_tracks c (Some l.row)) (l.cylinder * 19))
