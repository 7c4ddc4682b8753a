use Rattle.std.proofs.Common.{◌≡◌}
use Rattle.mss_base.specs.Content.{content}
use Rattle.mss_base.specs.Sites.{OnlyReads}
use Rattle.mss_base.specs.Configs.{serial_in}
use Rattle.shown_volumes.specs.Sound.{HasSerialsAsked}
use Rattle.volume_table.specs.Listed.{row_in_list}
use Rattle.mss_restart.specs.Survey.{CanReadTable, KeepsFirst}
use Rattle.std.proofs.Common.{None}
use Rattle.mss_restart.proofs.ReadRows.{SoFar}
use Rattle.mss_restart.proofs.rows.read_rows.Given as goal

abbrev pub invariant-loop-number : goal.invariant-loop-number
invariant-loop-number g l = record {
  read : g.S.Site.tells → SoFar (g.S.Site.faults l.initial.site) (g.S.Site.faults l.site) l.number (serial_in l.volumes) (content (g.S.Site.told l.initial.site)) l.rows l.unread;
  serials : HasSerialsAsked (serial_in l.volumes) (row_in_list l.rows);
  counts : KeepsFirst (g.S.Site.faults l.initial.site) (g.S.Site.faults l.site) l.unread;
  works : CanReadTable g.S.Site l.initial.site → l.unread ≡ None;
  devices : OnlyReads g.S.Site l.initial.site l.site;
}
