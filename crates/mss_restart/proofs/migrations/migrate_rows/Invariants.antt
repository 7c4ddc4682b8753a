use Rattle.std.proofs.Common.{◌≡◌, [], length}
use Rattle.mss_base.specs.Content.{content}
use Rattle.mss_restart.specs.Opening.{AreKnown}
use Rattle.mss_restart.specs.Creations.{AreMigrated, RepairsOthers, WritesOn}
use Rattle.mss_restart.proofs.Repaired.{IsRepaired}
use Rattle.mss_restart.proofs.migrations.migrate_rows.Given as goal

abbrev pub invariant-loop-number : goal.invariant-loop-number
invariant-loop-number g l = record {
  shows : g.S.Site.tells → IsRepaired (g.S.Site.told l.initial.site) (g.S.Site.told l.site);
  known : g.S.Site.tells → AreKnown l.rows l.used.items (content (g.S.Site.told l.site));
  places : length l.used.items ≡ 32;
  complete : g.S.Site.tells → AreMigrated l.number (g.S.Site.told l.initial.site) (g.S.Site.told l.site);
  others : g.S.Site.tells → RepairsOthers [] (g.S.Site.told l.initial.site) (g.S.Site.told l.site);
  count : g.S.Site.faults l.site ≡ g.S.Site.faults l.initial.site;
  devices : WritesOn g.S.Site l.initial.site l.site;
}
