-- A session as plain data.
use Rattle.std.specs.Prelude.{◌≡◌, ◌≤◌}
use Rattle.core_state.specs.SessionData.{SessionData}
use Rattle.core_state.specs.declared.session.Session.{Session}

abbrev pub session_data : Session → SessionData
session_data s = record {
  history = s.history.items;
  marks = s.marks.items;
  console = s.console.items;
  events = s.events.items;
  first_write = s.first_write;
  first_faults = s.first_faults;
  stopped = s.stopped;
}

-- all that a session tells is as it was, whatever its room
pub record TellsTheSame (old new : Session) : Type 0 where
  pub told : session_data new ≡ session_data old
  pub history : new.history.items ≡ old.history.items
  pub marks : new.marks.items ≡ old.marks.items
  pub console : new.console.items ≡ old.console.items
  pub events : new.events.items ≡ old.events.items
  pub first_write : new.first_write ≡ old.first_write
  pub first_faults : new.first_faults ≡ old.first_faults
  pub stopped : new.stopped ≡ old.stopped

-- there is room for what one event tells
pub record HasRoom (session : Session) : Type 0 where
  pub entry : 1 ≤ session.history.spare
  pub mark : 1 ≤ session.marks.spare
  pub message : 1 ≤ session.console.spare
  pub event : 1 ≤ session.events.spare
