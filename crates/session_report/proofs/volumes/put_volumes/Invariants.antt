use Rattle.std.proofs.Common.{take}
use Rattle.volume_table.specs.Listed.{row_in_list}
use Rattle.shown_volumes.specs.Shown.{shown_by}
use Rattle.session_report.specs.Reports.{volumes_text}
use Rattle.session_report.proofs.VolumeTexts.{IsPutting}
use Rattle.session_report.proofs.volumes.put_volumes.Given as goal

abbrev pub invariant-loop-entry : goal.invariant-loop-entry
invariant-loop-entry g l =
    IsPutting g.S.Site g.O.Sink.tells l.fn.site l.site
    (g.O.Sink.told l.fn.output) (g.O.Sink.told l.output) (g.O.Sink.faults l.fn.output) (g.O.Sink.faults l.output)
    (λ c. volumes_text (shown_by (row_in_list l.rows) c) (take l.entry-index l.volumes))
