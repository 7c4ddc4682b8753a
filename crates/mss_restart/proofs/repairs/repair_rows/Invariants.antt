use Rattle.std.proofs.Common.{◌≡◌, ◌<◌, ℕ, false, [], length}
use Rattle.mss_base.specs.Content.{content}
use Rattle.table_pair.specs.Repairs.{HoldsToldRow}
use Rattle.table_pair.specs.Slots.{HasSlots, used_at}
use Rattle.mss_restart.specs.Creations.{AreRenewed, AreRepaired, RepairsOthers, WritesOn}
use Rattle.mss_restart.proofs.Repaired.{IsRepaired}
use Rattle.mss_restart.proofs.repairs.repair_rows.Given as goal

abbrev pub invariant-loop-number : goal.invariant-loop-number
invariant-loop-number g l = record {
  repaired : g.S.Site.tells → IsRepaired (g.S.Site.told l.initial.site) (g.S.Site.told l.site);
  held : g.S.Site.tells → (v : ℕ) → v < l.number → HoldsToldRow v (content (g.S.Site.told l.initial.site)) (content (g.S.Site.told l.site));
  slots : g.S.Site.tells → (v : ℕ) → v < l.number → HasSlots (used_at l.used.items v) v (content (g.S.Site.told l.site));
  renewed : g.S.Site.tells → l.is_old ≡ false → AreRenewed l.number (content (g.S.Site.told l.site));
  places : length l.used.items ≡ 32;
  complete : g.S.Site.tells → AreRepaired l.number (g.S.Site.told l.initial.site) (g.S.Site.told l.site);
  others : g.S.Site.tells → RepairsOthers [] (g.S.Site.told l.initial.site) (g.S.Site.told l.site);
  count : g.S.Site.faults l.site ≡ g.S.Site.faults l.initial.site;
  devices : WritesOn g.S.Site l.initial.site l.site;
}
