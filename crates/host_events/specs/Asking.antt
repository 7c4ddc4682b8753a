-- A host's call beside its core.
use Rattle.std.specs.Prelude.{◌≡◌, ℕ, true, List}
use Rattle.channel_commands.specs.Views.{call_of}
use Rattle.core_state.specs.CoreValue.{CoreValue}
use Rattle.core_state.specs.HostRules.{data_command}
use Rattle.ckd_plain.specs.declared.host.HostState.{HostState}
use Rattle.fault_queue.specs.Requests.{request_of}
use Rattle.core_state.specs.Pins.{host_at, is_on}
use Rattle.host_events.specs.declared.rule.Asked.{Asked}

-- state and request are the host's, and the command is the one that the call is
pub record IsAsked {S C : Type 0} (core : CoreValue S C) (asked : Asked) : Type 0 where
  pub state_ : asked.state.now ≡ host_at core.hosts asked.host
  pub command_ : asked.command ≡ data_command asked.state.now (call_of asked.call.now)
  pub request_ : asked.request ≡ request_of core.requests asked.host

-- no other host has the volume mounted
abbrev pub IsAlone : List HostState → ℕ → ℕ → Type 0
IsAlone hosts h volume = (other : ℕ) → is_on volume (host_at hosts other).mounted ≡ true → other ≡ h
