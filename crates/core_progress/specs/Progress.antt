-- Who goes on when the recorders have nothing left to do.
use Rattle.std.specs.Prelude.{◌≡◌, ◌≤◌, ◌<◌, ℕ, Bool, true, false, Option, Some, None, is_some}
use Rattle.std.specs.Option.{option_map}
use Rattle.channel_commands.specs.Data.{CallData}
use Rattle.fault_queue.specs.declared.queue.Request.{Request}
use Rattle.fault_queue.specs.declared.queue.RequestState.TheVariants.{Queued}
use Rattle.fault_queue.specs.Requests.{request_of}
use Rattle.core_state.specs.declared.rule.HostRule.{HostRule}
use Rattle.core_state.specs.declared.rule.HostRule.TheVariants.{IsBusy, IsMoving, IsHeld, Faults}
use Rattle.core_state.specs.declared.rule.Waiting.{Waiting}
use Rattle.core_state.specs.declared.rule.Waiting.TheVariants.{Fault}
use Rattle.core_state.specs.declared.rule.WorkRule.TheVariants.{IsIdle}
use Rattle.core_state.specs.CoreValue.{CoreData}
use Rattle.core_state.specs.Pins.{owns}
use Rattle.core_state.specs.HostRules.{request_for, host_rule}
use Rattle.core_state.specs.HostEvents.{HostTold, replied, waits, no_memory}
use Rattle.core_state.specs.WorkRules.{work_rule}
use Rattle.core_progress.specs.WorkLeft.{is_marked, run_left}

-- ---- recorders

-- there are recorders, and each is idle
pub record AreIdle (core : CoreData) : Type 0 where
  pub some : 1 ≤ core.config.recorders
  pub each : (i : ℕ) → i < core.config.recorders → work_rule core i ≡ IsIdle

-- ---- hosts, each with its next call, if it has one

abbrev pub NextCalls : Type 0
NextCalls = ℕ → Option CallData

abbrev pub HasCall : NextCalls → ℕ → Type 0
HasCall calls h = (call : CallData) × (calls h ≡ Some call)

abbrev pub SomeoneCalls : NextCalls → Type 0
SomeoneCalls calls = (h : ℕ) × HasCall calls h

-- a host that owns its volume, by an open chain or a request, has a call
abbrev pub OwnersCall : CoreData → NextCalls → Type 0
OwnersCall core calls =
    (h volume : ℕ) → owns core.hosts core.requests h volume ≡ true → HasCall calls h

-- ---- who is kept waiting

-- a call that meets this rule is told to wait, and nothing is asked for it; asked: its cylinder
-- was asked for before
abbrev pub keeps_waiting : Bool → HostRule → Bool
keeps_waiting asked (IsBusy owner) = true
keeps_waiting asked (IsMoving cylinder) = true
keeps_waiting asked (IsHeld frame) = true
keeps_waiting asked (Faults volume cylinder) = asked
keeps_waiting asked _ = false

abbrev pub is_kept_waiting : CoreData → ℕ → CallData → Bool
is_kept_waiting core h call =
    keeps_waiting (is_some (request_for core h call)) (host_rule core h call)

-- some host has a call that isn't kept waiting
abbrev pub SomeoneGoesOn : CoreData → NextCalls → Type 0
SomeoneGoesOn core calls =
    (h : ℕ) × (call : CallData) × (calls h ≡ Some call) × (is_kept_waiting core h call ≡ false)

-- the host waits for a request that it hadn't
pub record AsksFirst (core : CoreData) (h : ℕ) (call : CallData) (w : Waiting) (core' : CoreData)
    : Type 0 where
  pub new : request_for core h call ≡ None
  pub request : Request
  pub made : request_of core'.requests h ≡ Some request
  pub queued : request.state ≡ Queued
  pub told : w ≡ Fault request.cylinder

-- what a call that isn't kept waiting is told: no wait, or the one for its new request
abbrev pub GoesOn : CoreData → ℕ → CallData → HostTold → CoreData → Type 0
GoesOn core h call (waits w) core' = AsksFirst core h call w core'
GoesOn core h call _ core' = Unit {0}

-- ---- what work leaves of a run

-- the volume and the cylinder that a host asks for
abbrev pub place_asked : Request → ℕ × ℕ
place_asked r = (r.volume, r.cylinder)

abbrev pub asked_by : CoreData → ℕ → Option (ℕ × ℕ)
asked_by core h = option_map place_asked (request_of core.requests h)

-- no entry comes, the hosts stay, and each asks for what it asked for before
pub record StillAsk (core left : CoreData) : Type 0 where
  pub history_ : left.history ≡ core.history
  pub hosts_ : left.hosts ≡ core.hosts
  pub asked_ : (h : ℕ) → asked_by left h ≡ asked_by core h

-- who is marked stays so, who owns a volume had a call before, and the run has no more left
pub record LeavesRun (core left : CoreData) : Type 0 where
  pub asks : StillAsk core left
  pub marks_ : (h : ℕ) → is_marked core h ≡ true → is_marked left h ≡ true
  pub owners_ : (calls : NextCalls) → OwnersCall core calls → OwnersCall left calls
  pub less : run_left left ≤ run_left core

-- ---- what a host is told

abbrev pub is_reply : HostTold → Bool
is_reply (replied index reply) = true
is_reply _ = false

-- the host is told to wait, or memory is refused
abbrev pub IsKeptOff : HostTold → Type 0
IsKeptOff (waits w) = Unit {0}
IsKeptOff no_memory = Unit {0}
IsKeptOff _ = ⊥
