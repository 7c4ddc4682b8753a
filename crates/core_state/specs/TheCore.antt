-- A core that is whole.
use Rattle.std.specs.Prelude.{◌≡◌, ◌≤◌, ℕ, length, None}
use Rattle.mss_base.specs.Content.{SiteLog}
use Rattle.core_state.specs.declared.session.TheConstants.{ENTRY_LIMIT}
use Rattle.core_state.specs.CoreValue.{CoreValue}
use Rattle.core_state.specs.Counted.{IsCounted}
use Rattle.core_state.specs.IsCore.{IsCore, IsTold}
use Rattle.core_state.specs.SessionData.{data_of}

-- the lengths of its lists, which also a stopped core keeps
pub record IsShaped {S C : Type 0} (v : CoreValue S C) : Type 0 where
  pub rows_ : length v.rows ≡ 32
  pub used_ : length v.used ≡ 32
  pub hosts_ : length v.hosts ≡ 8
  pub owners_ : length v.owners ≡ v.config.frames
  pub moving_ : length v.moving ≡ v.config.frames
  pub tasks_ : length v.tasks ≡ v.config.recorders
  pub recorders_ : length v.recorders ≡ v.config.recorders
  pub few : length v.history ≤ ENTRY_LIMIT
  pub marked : length v.marks ≡ length v.history

-- its parts agree while it isn't stopped; what it is told holds where its devices tell
pub record IsWhole {S C : Type 0} (tells : Type 0) (site : SiteLog) (v : CoreValue S C)
    : Type 0 where
  pub shaped : IsShaped v
  pub kept : v.stopped ≡ None → IsCore v
  pub told : tells → IsTold site v

-- what the type of a core keeps, over every site: writes and faults are the site's counts now
pub record IsKept {S C : Type 0} (tells : Type 0) (site : SiteLog) (writes faults : ℕ)
    (v : CoreValue S C) : Type 0 where
  pub whole : IsWhole tells site v
  pub counted : IsCounted writes faults v.requests (data_of v)
