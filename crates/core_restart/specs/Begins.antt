-- The core with which a session begins.
use Rattle.std.specs.Prelude.{◌≡◌, ℕ, false, [], length, replicate, None}
use Rattle.mss_base.specs.Configs.{ConfigData}
use Rattle.volume_table.specs.Listed.{row_in_list}
use Rattle.ckd_plain.specs.Plain.{fresh_host}
use Rattle.cartridge_store.specs.Places.{place_of, home_of}
use Rattle.accessors.specs.Rails.{rail_start}
use Rattle.victim_choice.specs.Order.{first_order}
use Rattle.core_state.specs.CoreValue.{CoreValue}
use Rattle.core_restart.specs.Owners.{AreOwners}
use Rattle.core_restart.specs.Console.{FreeNone}

-- Nothing has happened: no entry, no event, no request, no task. The recorders are empty, each
-- cartridge is in its cell, the accessors are at the ends of their rail. A frame belongs to the page
-- that has it by the rows, none moves, and frame 0 is the least recently touched. There is a count of
-- slots in use for each of the 32 volumes. The console tells what the opening did to the volumes, and
-- of no freed frame. So many writes and faults were counted by now.
pub record Begins {S C : Type 0} (config : ConfigData) (chooser : C) (writes faults : ℕ)
    (core : CoreValue S C) : Type 0 where
  pub config_ : core.config ≡ config
  pub chooser_ : core.chooser ≡ chooser
  pub used_ : length core.used ≡ 32
  pub owners_ : AreOwners config.frames (row_in_list core.rows) core.owners
  pub moving_ : core.moving ≡ replicate config.frames false
  pub recency_ : core.recency ≡ first_order config.frames
  pub no_requests : core.requests ≡ []
  pub no_tasks : core.tasks ≡ replicate config.recorders None
  pub empty : core.recorders ≡ replicate config.recorders None
  pub at_home : (cartridge : ℕ) → place_of core.store cartridge ≡ home_of cartridge
  pub rail_ : core.rail ≡ rail_start
  pub fresh : core.hosts ≡ replicate 8 fresh_host
  pub no_entries : core.history ≡ []
  pub no_marks : core.marks ≡ []
  pub freed_none : FreeNone core.console
  pub no_events : core.events ≡ []
  pub first_write_ : core.first_write ≡ writes
  pub first_faults_ : core.first_faults ≡ faults
  pub going : core.stopped ≡ None
