-- What a call leaves of a site, whatever the site is.
use Rattle.std.specs.Prelude.{◌≡◌, ◌≤◌, ◌+◌, ℕ, Bool, length, Result, IsOk, OnErr}
use Rattle.mss_base.specs.Counts.{HasCause, Rises}
use Rattle.mss_base.specs.Sound.{StaysSound}
use Rattle.mss_base.specs.declared.place.UnitNo.{UnitNo}
use Rattle.mss_base.specs.declared.site.Site.{Ghosts}

-- a site that was read at most
pub record OnlyReads {S : Type 0} (g : Ghosts S) (old new : S) : Type 0 where
  pub log : g.tells → g.told new ≡ g.told old
  pub room : g.spare new ≡ g.spare old
  pub unwritten : g.writes new ≡ g.writes old
  pub later : g.faults old ≤ g.faults new
  pub sound : StaysSound g.never_fails_but old new

-- a site that was read, and written so many times at most
pub record MayWrite {S : Type 0} (g : Ghosts S) (most : ℕ) (old new : S) : Type 0 where
  pub room : g.spare old ≤ g.spare new + most
  pub written : g.writes old ≤ g.writes new
  pub later : g.faults old ≤ g.faults new
  pub sound : StaysSound g.never_fails_but old new

-- What a call that only writes and syncs leaves of a site, whatever the site tells: it makes so many items of the log at most. It fails
-- only where the count of faults rose, and then it has written, or tried to; where no write may fail it is done.
pub record WritesAtMost {S T E : Type 0} (g : Ghosts S) (most : ℕ) (old new : S) (result : Result T E) : Type 0 where
  pub devices : MayWrite g most old new
  pub few : g.tells → length (g.told new).log ≤ length (g.told old).log + most
  pub cause : HasCause (g.faults old) (g.faults new) result
  pub counted : OnErr result (Rises (g.writes old) (g.writes new))
  pub works : (but : UnitNo → Bool) → g.never_fails_but old but → IsOk result
