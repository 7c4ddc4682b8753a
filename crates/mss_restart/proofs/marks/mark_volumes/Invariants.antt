use Rattle.std.proofs.Common.{◌≡◌, ◌≤◌, ◌+◌, length, drop}
use Rattle.std.specs.Prelude.{IsSome}
use Rattle.std.specs.List.{AllByRecursion}
use Rattle.volume_table.specs.Listed.{row_in_list}
use Rattle.mss_restart.specs.Creations.{WritesOn}
use Rattle.mss_restart.specs.Opening.{to_mark}
use Rattle.mss_restart.proofs.Creating.{AreRising, IsOpening}
use Rattle.mss_restart.proofs.Counting.{AreComing, AreLogged}
use Rattle.mss_restart.proofs.marks.mark_volumes.Given as goal

abbrev pub invariant-loop-entry : goal.invariant-loop-entry
invariant-loop-entry g l = record {
  opening : g.S.Site.tells → IsOpening (to_mark (row_in_list l.initial.rows) l.volumes) (row_in_list l.initial.rows) (g.S.Site.told l.initial.site) (g.S.Site.told l.site) l.rows l.used.items (to_mark (row_in_list l.rows) (drop l.entry-index l.volumes));
  coming : AreComing (to_mark (row_in_list l.initial.rows) l.volumes) (row_in_list l.initial.rows) (g.S.Site.writes l.initial.site) (g.S.Site.writes l.site) (row_in_list l.rows) l.marks.items (to_mark (row_in_list l.rows) (drop l.entry-index l.volumes));
  logged : g.S.Site.tells → AreLogged (to_mark (row_in_list l.initial.rows) l.volumes) (row_in_list l.initial.rows) (g.S.Site.told l.initial.site) (g.S.Site.told l.site) (row_in_list l.rows) l.marks.items (to_mark (row_in_list l.rows) (drop l.entry-index l.volumes));
  there : AllByRecursion (λ v. IsSome (row_in_list l.rows v.0)) (drop l.entry-index l.volumes);
  places : length l.used.items ≡ 32;
  rising : AreRising (drop l.entry-index l.volumes);
  room : length l.volumes ≤ l.marks.spare + l.entry-index;
  count : g.S.Site.faults l.site ≡ g.S.Site.faults l.initial.site;
  devices : WritesOn g.S.Site l.initial.site l.site;
}
