-- The devices of a run, from one moment to a later one.
use Rattle.mss_base.specs.declared.site.Site.{Ghosts}
use Rattle.core_state.specs.CoreValue.{DevicesSeen, seen_site}
use Rattle.session_report.specs.Parties.{ToldDevices}

-- what is seen of a site at both moments, and whether clauses may speak of what it holds
pub record Devices : Type 1 where
  pub tells : Type 0
  pub was : DevicesSeen
  pub now : DevicesSeen

-- the devices of a site, between two of its states
abbrev pub devices : {S : Type 0} → Ghosts S → S → S → Devices
devices g old new = record {
  tells = g.tells;
  was = seen_site g old;
  now = seen_site g new;
}

-- the same up to a moment, and from a moment on
abbrev pub until : Devices → DevicesSeen → Devices
until site mid = record site { now = mid }

abbrev pub since : Devices → DevicesSeen → Devices
since site mid = record site { was = mid }

-- as a report sees them
abbrev pub told_devices : Devices → ToldDevices
told_devices site = record {
  tells = site.tells;
  was = site.was.told;
  now = site.now.told;
  faults_was = site.was.faults;
  faults_now = site.now.faults;
}
