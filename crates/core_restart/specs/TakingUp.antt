-- What a restart takes up: content in which its configuration finds no fault, as a stop leaves it.
use Rattle.std.specs.Prelude.{◌≡◌, ◌⊎◌, ◌≤◌, ◌<◌, ◌+◌, ℕ, Bool, List, [], length, map, Some, None, Result, Ok, Err, IfOk}
use Rattle.mss_base.specs.Configs.{ConfigData, VolumeData, IsConfig, serial_in, marked_in}
use Rattle.std.specs.List.Sorted.{IsStrictlySortedBy}
use Rattle.std.specs.Ordering.{nat_cmp}
use Rattle.mss_base.specs.Content.{Content, SiteLog, Item, Tear, Got, content, image}
use Rattle.ckd_track.specs.Data.{Volumes}
use Rattle.ckd_plain.specs.Plain.{start_of}
use Rattle.shown_volumes.specs.declared.refused.Refused.{Refused}
use Rattle.shown_volumes.specs.declared.refused.Refused.TheVariants.{Stopped, Memory}
use Rattle.shown_volumes.specs.Shown.{rows_of, volumes_shown}
use Rattle.shown_volumes.specs.Sound.{SoundAs}
use Rattle.shown_volumes.specs.Faults.{first_fault}
use Rattle.mss_restart.specs.declared.opening.Opened.{Opened}
use Rattle.mss_restart.specs.Opening.{ShowsFront, opened_all, opening_changes}
use Rattle.core_state.specs.CoreValue.{CoreValue, DevicesSeen}
use Rattle.core_state.specs.IsCore.{IsTold, opening_of}
use Rattle.core_restart.specs.Opening.{OpensSynced, Restarts}

-- what `restart` answers
abbrev pub Answer : Type 0 → Type 0 → Type 0
Answer S C = Result (CoreValue S C) (S × Refused)

-- a volume is there with this serial and this mark
pub record IsThere (volumes : Volumes) (volume : ℕ) (serial : List ℕ) (mark : Bool) : Type 0 where
  pub serial_ : volumes.serial volume ≡ Some serial
  pub mark_ : volumes.read_only volume ≡ mark

-- each of these volumes is there, with its serial and its mark
abbrev pub AreThere : List VolumeData → Volumes → Type 0
AreThere asked volumes =
    (volume : ℕ) (serial : List ℕ) → serial_in asked volume ≡ Some serial
    → IsThere volumes volume serial (marked_in asked volume)

-- volumes in rising order of number
abbrev pub AreRising : List VolumeData → Type 0
AreRising volumes = IsStrictlySortedBy nat_cmp (map (λ v. v.0) volumes)

-- a configuration finds no fault in a content
abbrev pub IsFaultless : ConfigData → Content → Type 0
IsFaultless config c = first_fault config.frames (serial_in config.volumes) c ≡ None

-- the volumes that a content shows, with the further ones of a configuration, blank, and with the marks
-- that it asks for
abbrev pub shown_for : ConfigData → Content → Volumes
shown_for config c = opened_all (opening_changes (rows_of c) config.volumes) (volumes_shown c)

-- no call failed, and the count of faults could tell
pub record NoneFailed (before now : ℕ) : Type 0 where
  pub same : now ≡ before
  pub could_rise : before < 18446744073709551615

-- ---- a core that begins

-- nothing has happened in a core whose session begins with these volumes: its devices are sound and
-- show them, and each volume of the configuration is among them
pub record BeginsWith {S C : Type 0} (config : ConfigData) (volumes : Volumes) (site : SiteLog)
    (core : CoreValue S C) : Type 0 where
  pub opening_ : opening_of site core ≡ start_of volumes
  pub shows : SoundAs config.frames volumes (content site)
  pub there : AreThere config.volumes volumes
  pub rising : AreRising config.volumes
  pub no_entries : core.history ≡ []

-- such a core, or that memory ran out
abbrev pub IsTakenUp : {S C : Type 0} → ConfigData → Volumes → SiteLog → Answer S C → Type 0
IsTakenUp config volumes site (Ok core) = BeginsWith config volumes site core
IsTakenUp config volumes site (Err refused) = refused.1 ≡ Memory

-- a core, or that memory ran out
abbrev pub IsNoRefusal : {S C : Type 0} → Answer S C → Type 0
IsNoRefusal (Ok core) = Unit {0}
IsNoRefusal (Err refused) = refused.1 ≡ Memory

-- of a site that tells: content without a fault isn't refused where no call fails, and a core
-- begins with the volumes that were shown, the further ones, blank, and the marks that are asked for
pub record TakesUp {S C : Type 0} (config : ConfigData) (old new : DevicesSeen)
    (answer : Answer S C) : Type 0 where
  pub faultless : IsFaultless config (content old.told) → NoneFailed old.faults new.faults
      → IsNoRefusal answer
  pub begins : IfOk answer (BeginsWith config (shown_for config (content old.told)) new.told)

-- a restart over this content, of which no call failed
pub record RestartsOver {S C : Type 0} (config : ConfigData) (c : Content)
    (old new : DevicesSeen) (answer : Answer S C) : Type 0 where
  pub from : content old.told ≡ c
  pub takes_up : TakesUp config old new answer
  pub none_failed : NoneFailed old.faults new.faults

-- ---- stops

-- a moment from so many items of a site on, and what a stop there puts at the places that it leaves
-- open, if anything
pub record Stop (first : ℕ) (site : SiteLog) : Type 0 where
  pub moment : ℕ
  pub since : first ≤ moment
  pub until : moment ≤ length site.log
  pub tear : Tear

-- what the devices hold after it
abbrev pub left_by : {first : ℕ} {site : SiteLog} → Stop first site → Content
left_by {first} {site} stop = image site stop.moment stop.tear

-- a session of a configuration, each of whose volumes was there when it began
pub record IsSession {S C : Type 0} (site : SiteLog) (core : CoreValue S C) : Type 0 where
  pub told : IsTold site core
  pub there : AreThere core.config.volumes (opening_of site core).volumes
  pub rising : AreRising core.config.volumes

-- a core later in a session: writes were added to the log, and configuration and beginning stayed
pub record IsLater {S C : Type 0} (old : SiteLog) (core : CoreValue S C) (new : SiteLog)
    (left : CoreValue S C) : Type 0 where
  pub config_ : left.config ≡ core.config
  pub first_write_ : left.first_write ≡ core.first_write
  pub items : List Item
  pub grown : Got items old new

-- what a stop within a session leaves: content without a fault, in which no volume is missing or has
-- another mark
pub record LeavesAll (config : ConfigData) (c : Content) : Type 0 where
  pub faultless : IsFaultless config c
  pub all_there : AreThere config.volumes (volumes_shown c)
  pub none_changed : opening_changes (rows_of c) config.volumes ≡ []

-- a restart that opened content without a fault, whatever it answered
pub record OpensFaultless (config : ConfigData) (old new : DevicesSeen)
    (answer : Result Opened Refused) : Type 0 where
  pub whole : IsConfig config
  pub faultless : IsFaultless config (content old.told)
  pub opens : OpensSynced (Unit {0}) config old new answer

-- what a stop within a restart leaves: content without a fault, which shows the volumes of before
-- after a front of the opening changes, and of which the same volumes come in the end
pub record LeavesFront (config : ConfigData) (old c : Content) : Type 0 where
  pub faultless : IsFaultless config c
  pub front : ShowsFront config.frames (opening_changes (rows_of old) config.volumes) (volumes_shown old) c
  pub in_the_end : shown_for config c ≡ shown_for config old

-- a start over devices that tell, however it ended
pub record StartsOver (config : ConfigData) (old new : DevicesSeen)
    (answer : Result Opened Refused) : Type 0 where
  pub whole : IsConfig config
  pub restarts : Restarts (Unit {0}) config old new answer

-- what a stop within an opening leaves: of content with a fault just what was there
pub record LeavesOpening (config : ConfigData) (old c : Content) : Type 0 where
  pub faultless : IsFaultless config old → LeavesFront config old c
  pub faulty : (IsFaultless config old → ⊥) → c ≡ old

-- where nothing was made firm, and so nothing was written, a stop within a start leaves what one
-- before it would have left
abbrev pub StopsUnsynced : SiteLog → SiteLog → Type 0
StopsUnsynced old new =
    (stop : Stop (length old.log) new) → left_by stop ≡ image old (length old.log) stop.tear

-- and from the sync of all units on what one within an opening does
abbrev pub StopsSynced : ConfigData → SiteLog → SiteLog → Type 0
StopsSynced config old new =
    (stop : Stop (length old.log + 1) new) → LeavesOpening config (content old) (left_by stop)

-- What a stop within a start leaves, by what it answers. Where it refuses a fault, or a row that it
-- couldn't read, that is just what was there.
abbrev pub StopsStart : ConfigData → SiteLog → SiteLog → Result Opened Refused → Type 0
StopsStart config old new (Ok opened) = StopsSynced config old new
StopsStart config old new (Err (Stopped fault)) = StopsUnsynced old new ⊎ StopsSynced config old new
StopsStart config old new (Err Memory) = StopsUnsynced old new ⊎ StopsSynced config old new
StopsStart config old new (Err e) = (stop : Stop (length old.log + 1) new) → left_by stop ≡ content old
