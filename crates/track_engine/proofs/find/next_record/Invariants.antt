use Rattle.std.proofs.Common.{◌≡◌, ◌-◌}
use Rattle.mss_base.specs.Content.{content}
use Rattle.ckd_plain.specs.Index.{next_within}
use Rattle.track_engine.specs.Tracks.{tracks_at, IsBlockOf}
use Rattle.mss_base.specs.Sites.{OnlyReads}
use Rattle.track_engine.proofs.find.next_record.Given as goal

-- the block of the host's head is brought, and the looks that are left find what all looks find
abbrev pub invariant-loop : goal.invariant-loop
invariant-loop g l = record {
  found : g.S.Site.tells → next_within (20 - l.counter) (tracks_at (content (g.S.Site.told l.fn.site)) l.place.unit l.place.first_block) l.host l.first l.multi
      ≡ next_within 20 (tracks_at (content (g.S.Site.told l.fn.site)) l.place.unit l.place.first_block) l.fn.from l.first l.multi;
  block : g.S.Site.tells → IsBlockOf (content (g.S.Site.told l.fn.site)) l.place.unit l.place.first_block l.host.head (g.S.Site.brought l.site);
  volume : l.host.mounted ≡ l.fn.from.mounted;
  reads : OnlyReads g.S.Site l.fn.site l.site;
  same : g.S.Site.faults l.site ≡ g.S.Site.faults l.fn.site;
}
