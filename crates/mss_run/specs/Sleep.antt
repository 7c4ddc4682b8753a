-- Who finds nothing to do, and may sleep.
use Rattle.std.specs.Prelude.{◌≡◌, ◌<◌, ℕ, Bool, false, slice_index_or}
use Rattle.channel_commands.specs.Data.{CallData}
use Rattle.core_state.specs.CoreValue.{CoreData}
use Rattle.quiet_events.specs.Quiet.{HasNoWork, WaitsInVain}
use Rattle.mss_run.specs.declared.present.Presence.{Presence}

-- a recorder's own worker is in
abbrev pub has_worker : ℕ → Presence → Bool
has_worker recorder p = slice_index_or p.workers recorder false

-- a recorder, if it is configured, has nothing to do
abbrev pub FindsNoWork : CoreData → ℕ → Type 0
FindsNoWork core recorder = recorder < core.config.recorders → HasNoWork core recorder

-- each recorder that nobody works for has nothing to do
abbrev pub NoneIsLeft : CoreData → Presence → Type 0
NoneIsLeft core p = (recorder : ℕ) → has_worker recorder p ≡ false → FindsNoWork core recorder

-- a host can but wait with its call, and has no recorder to work for
pub record FindsNothing (core : CoreData) (p : Presence) (h : ℕ) (call : CallData) : Type 0 where
  pub waits : WaitsInVain core h call
  pub left : NoneIsLeft core p
