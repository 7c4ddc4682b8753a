-- What a session promises, in plain volumes.
use Rattle.std.specs.Prelude.{◌≡◌, ◌<◌, ℕ, List, length, Ok, None}
use Rattle.mss_base.specs.Configs.{ConfigData, IsConfig}
use Rattle.mss_base.specs.Content.{Content, SiteLog, Tear, content, image}
use Rattle.ckd_track.specs.Data.{Volumes}
use Rattle.ckd_plain.specs.Data.{State}
use Rattle.ckd_plain.specs.Plain.{start_of}
use Rattle.ckd_plain.specs.History.{EntryData, IsLegal, after}
use Rattle.shown_volumes.specs.Shown.{rows_of, volumes_shown}
use Rattle.mss_restart.specs.OneCopy.{ArePaired}
use Rattle.core_state.specs.Agrees.{Agrees, rows_after}
use Rattle.core_state.specs.CoreValue.{CoreData, DevicesSeen}
use Rattle.core_state.specs.IsCore.{IsTold}
use Rattle.core_state.specs.SessionData.{SessionData}
use Rattle.core_state.specs.StopRule.{StopsWell}
use Rattle.core_restart.specs.Begins.{Begins}
use Rattle.core_restart.specs.Opening.{OpensSynced, opened_in}
use Rattle.core_restart.specs.TakingUp.{BeginsWith, LeavesAll, LeavesFront, Stop, left_by, shown_for}

-- ---- how a session begins

-- a restart over these devices made this core, of which nothing has happened yet
pub record BeganOver (config : ConfigData) (was : DevicesSeen) (core : CoreData) : Type 0 where
  pub whole : IsConfig config
  pub opened : OpensSynced (Unit {0}) config was core.site (Ok (opened_in core))
  pub begins : Begins config tt core.site.writes core.site.faults core
  pub with_ : BeginsWith config (shown_for config (content was.told)) core.site.told core
  pub told : IsTold core.site.told core
  -- the count of writes is how long the log is
  pub counted : core.site.writes ≡ length core.site.told.log

-- ---- plain volumes

-- the plain machine when a session begins: with the volumes that the content shows, the further
-- ones of the configuration, blank, and the marks that it asks for
abbrev pub plain_start : ConfigData → Content → State
plain_start config c = start_of (shown_for config c)

-- the plain volumes after a history from there
abbrev pub plain_volumes : ConfigData → Content → List EntryData → Volumes
plain_volumes config c history = (after (plain_start config c) history).volumes

-- What the hosts were told is what plain volumes tell, in one history; and unless the session was
-- stopped, the devices show those volumes after it. The changes of rows that the console tells agree
-- with the history, and lead from the rows at the start to those at the end. Where each copy of a row
-- told it alone, it does so still, unless the session was stopped.
pub record IsPlainSession (config : ConfigData) (was now : SiteLog) (s : SessionData)
    : Type 0 where
  pub legal : IsLegal (plain_start config (content was)) s.history
  pub shows : s.stopped ≡ None → volumes_shown (content now) ≡ plain_volumes config (content was) s.history
  pub agrees : Agrees config.frames s.first_write (rows_of (content was))
      (plain_start config (content was)) s.history s.marks s.console
  pub rows_ : s.stopped ≡ None
      → rows_of (content now) ≡ rows_after (rows_of (content was)) s.console
  pub paired : s.stopped ≡ None → ArePaired (content was) → ArePaired (content now)

-- ---- stops

-- What a stop at any moment leaves, inside a write too, whatever it makes of writes that aren't firm.
-- While the site was opened, behind the sync of all units: the volumes of before, after a front of
-- the opening changes. From then on: the plain volumes after the answered entries, or what the next
-- one may have made of them. Of each a restart is no refusal.
pub record StopsAnywhere (config : ConfigData) (was now : SiteLog) (s : SessionData) : Type 0 where
  pub opening_ : (k : ℕ) → length was.log < k → k < s.first_write → (tear : Tear)
      → LeavesFront config (content was) (image now k tear)
  pub session_ : StopsWell config.frames s.first_write (plain_start config (content was))
      s.history s.marks now
  pub restarts : (stop : Stop s.first_write now) → LeavesAll config (left_by stop)
