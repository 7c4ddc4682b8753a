-- Room that an event makes before it changes anything.
use Rattle.std.specs.Prelude.{◌≡◌, ◌≤◌}
use Rattle.mss_base.specs.Sound.{StaysSound}
use Rattle.mss_base.specs.declared.site.Site.{Ghosts}

-- a site has no less room than before, and nothing else of it has changed
pub record Reserves {S : Type 0} (g : Ghosts S) (old new : S) : Type 0 where
  pub log : g.tells → g.told new ≡ g.told old
  pub room : g.spare old ≤ g.spare new
  pub unwritten : g.writes new ≡ g.writes old
  pub same : g.faults new ≡ g.faults old
  pub sound : StaysSound g.never_fails_but old new
