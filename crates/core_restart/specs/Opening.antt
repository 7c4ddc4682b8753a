-- What restart makes of a site, and what it answers.
use Rattle.std.specs.Prelude.{◌≡◌, ◌⊎◌, ◌≤◌, [], ◌∷◌, Result, Ok, Err}
use Rattle.mss_base.specs.Configs.{ConfigData}
use Rattle.mss_base.specs.Content.{Got, synced_all}
use Rattle.mss_base.specs.Counts.{Rises}
use Rattle.shown_volumes.specs.declared.refused.Refused.{Refused}
use Rattle.shown_volumes.specs.declared.refused.Refused.TheVariants.{Stopped, Memory}
use Rattle.mss_restart.specs.declared.opening.Opened.{Opened}
use Rattle.mss_restart.specs.Answers.{AnswersOpening, OpensSite, steps_of}
use Rattle.core_state.specs.CoreValue.{CoreValue, DevicesSeen}
use Rattle.core_state.specs.Devices.{FailSync}
use Rattle.core_restart.specs.Console.{steps_in}

-- the site that the core has, or that is handed back
abbrev pub site_left : {S C : Type 0} → Result (CoreValue S C) (S × Refused) → S
site_left (Ok core) = core.site
site_left (Err refused) = refused.0

-- the rows of the core, with their slots in use, and the steps that its console tells, as one list; no
-- room is told
abbrev pub opened_in : {S C : Type 0} → CoreValue S C → Opened
opened_in core = record {
  rows = core.rows;
  used = record { items = core.used; spare = 0 };
  creations = record { items = steps_in core.console; spare = 0 };
  marks = record { items = []; spare = 0 };
}

-- a core has what was opened
pub record HasOpened {S C : Type 0} (opened : Opened) (core : CoreValue S C) : Type 0 where
  pub rows_ : core.rows ≡ opened.rows
  pub used_ : core.used ≡ opened.used.items
  pub steps_ : steps_in core.console ≡ steps_of opened

-- what was opened, or why the site is refused
abbrev pub opening_answer : {S C : Type 0} → Result (CoreValue S C) (S × Refused)
    → Result Opened Refused
opening_answer (Ok core) = Ok (opened_in core)
opening_answer (Err refused) = Err refused.1

-- what restart makes of a site that tells, and what of every site it answers: as the opening of its
-- rows does
abbrev pub OpensTold : ConfigData → DevicesSeen → DevicesSeen → Result Opened Refused → Type 0
OpensTold config old new answer = OpensSite old.faults new.faults config old.told new.told answer

abbrev pub OpensAny : ConfigData → DevicesSeen → DevicesSeen → Result Opened Refused → Type 0
OpensAny config old new answer =
    AnswersOpening config (record {
      written = old.writes;
      writes = new.writes;
      before = old.faults;
      now = new.faults;
    }) answer

-- ---- all that earlier runs wrote is made firm first

-- all units were synced, and that was all
pub record SyncsAll (tells : Type 0) (old new : DevicesSeen) : Type 0 where
  pub told : tells → Got (synced_all ∷ []) old.told new.told
  pub made : Rises old.writes new.writes
  pub later : old.writes ≤ new.writes
  pub unfailed : new.faults ≡ old.faults

-- nothing was done
pub record StaysUnsynced (tells : Type 0) (old new : DevicesSeen) : Type 0 where
  pub told : tells → new.told ≡ old.told
  pub unwritten : new.writes ≡ old.writes
  pub unfailed : new.faults ≡ old.faults

-- why nothing is opened: memory ran out before anything was done, or the sync failed, and its count
-- of faults is told
abbrev pub IsUnsynced : Type 0 → DevicesSeen → DevicesSeen → Refused → Type 0
IsUnsynced tells old new why =
    (StaysUnsynced tells old new × (why ≡ Memory))
    ⊎ (FailSync tells old new × (why ≡ Stopped new.faults))

-- all was synced, and then opened
pub record OpensSynced (tells : Type 0) (config : ConfigData) (old new : DevicesSeen)
    (answer : Result Opened Refused) : Type 0 where
  pub synced : DevicesSeen
  pub sync : SyncsAll tells old synced
  pub told : tells → OpensTold config synced new answer
  pub any : OpensAny config synced new answer

-- what a restart makes of its devices, and answers: nothing is opened, or what is synced
pub data Restarts (tells : Type 0) (config : ConfigData) (old new : DevicesSeen)
    (answer : Result Opened Refused) : Type 0 where
  not_opened : (why : Refused) → answer ≡ Err why → IsUnsynced tells old new why
      → Restarts tells config old new answer
  opened : OpensSynced tells config old new answer → Restarts tells config old new answer
