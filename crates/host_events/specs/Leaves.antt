-- What an event of a host adds, and what it leaves as it was.
use Rattle.std.specs.Prelude.{◌≡◌, ◌≢◌, ◌⊎◌, ℕ, List, [], ◌∷◌, ◌++◌, length, Option, Some, is_some}
use Rattle.mss_base.specs.Content.{Content, SiteLog, content, Writes}
use Rattle.mss_base.specs.declared.place.UnitNo.TheVariants.{Cartridge}
use Rattle.channel_commands.specs.Data.{CallData, ReplyData, stopped}
use Rattle.fault_queue.specs.Requests.{request_of, put_request}
use Rattle.fault_queue.specs.declared.queue.Request.{Request}
use Rattle.core_state.specs.declared.session.Event.{Event}
use Rattle.core_state.specs.declared.session.Event.TheVariants.{Host}
use Rattle.core_state.specs.declared.rule.WorkAnswer.TheVariants.{Stopped}
use Rattle.core_state.specs.Chains.{Step, called, worked, OneOf}
use Rattle.core_state.specs.CoreValue.{CoreData}
use Rattle.core_state.specs.Devices.{StillHold}
use Rattle.core_state.specs.HostEvents.{HostTold, replied, halts, IsSame}
use Rattle.core_state.specs.Pins.{host_at}
use Rattle.core_state.specs.Steps.{with_event, entry_of}

-- ---- the history

pub record KeepsHistory (core core' : CoreData) : Type 0 where
  pub history : core'.history ≡ core.history
  pub marks : core'.marks ≡ core.marks

-- one entry more, of this host and call, with this reply and fault; its mark is the count of writes
pub record AddsEntry (core : CoreData) (h : ℕ) (call : CallData) (reply : ReplyData)
    (fault : Option ℕ) (core' : CoreData) : Type 0 where
  pub history : core'.history
      ≡ core.history ++ entry_of core.history h call reply fault ∷ []
  pub marks : core'.marks ≡ core.marks ++ core'.site.writes ∷ []

-- A reply is that of one entry more, at the place that is told. A core that stops has an entry that
-- says so, with the fault; one that was stopped before has none more. Any other answer adds none.
abbrev pub EntersAsTold : CoreData → ℕ → CallData → HostTold → CoreData → Type 0
EntersAsTold core h call (replied index reply) core' =
    (index ≡ length core.history)
    × (fault : Option ℕ) × AddsEntry core h call reply fault core'
EntersAsTold core h call (halts fault) core' =
    OneOf (is_some core.stopped) (KeepsHistory core core')
    (AddsEntry core h call stopped (Some fault) core')
EntersAsTold core h call _ core' = KeepsHistory core core'

-- ---- others

-- each other host, and its request, are as before
pub record LeavesOthers (core : CoreData) (h : ℕ) (core' : CoreData) : Type 0 where
  pub hosts_ : (other : ℕ) → other ≢ h → host_at core'.hosts other ≡ host_at core.hosts other
  pub requests_ : (other : ℕ) → other ≢ h
      → request_of core'.requests other ≡ request_of core.requests other

-- no cartridge and no accessor moves; each frame keeps its page, and stays in use or not
pub record LeavesMachine (core core' : CoreData) : Type 0 where
  pub store : core'.store ≡ core.store
  pub rail : core'.rail ≡ core.rail
  pub recorders : core'.recorders ≡ core.recorders
  pub owners : core'.owners ≡ core.owners
  pub moving : core'.moving ≡ core.moving

-- nothing changes; or only the host's request does, which is this one then, or none, and the event
-- is put down
abbrev pub ChangesRequestAtMost : Type 0 → CoreData → ℕ → CoreData → Type 0
ChangesRequestAtMost tells core h core' =
    IsSame tells core core'
    ⊎ ((q : Option Request) × StillHold tells core.site core'.site
    × (core' ≡ with_event (Host h)
    (record core { site = core'.site; requests = put_request core.requests h q })))

-- ---- the events

-- something has changed beside the devices and the events
abbrev pub IsChanged : CoreData → CoreData → Type 0
IsChanged core core' = record core' { site = core.site; events = core.events } ≢ core

-- nothing has changed; or something has, and this event is put down last
abbrev pub NotesChange : Type 0 → CoreData → Event → CoreData → Type 0
NotesChange tells core event core' =
    IsSame tells core core'
    ⊎ (IsChanged core core' × (core'.events ≡ core.events ++ event ∷ []))

-- ---- the devices

-- at each moment each block of each cartridge is as before
abbrev pub LeavesCartridges : SiteLog → SiteLog → Type 0
LeavesCartridges old new =
    Writes (λ (now : Content). (cartridge block : ℕ)
    → now (Cartridge cartridge) block ≡ content old (Cartridge cartridge) block)
    old new

-- ---- a stopped core

-- each event, of a host or a recorder, answers this fault
abbrev pub AllHalt : ℕ → List Step → Type 0
AllHalt fault [] = Unit {0}
AllHalt fault (called h call told ∷ steps) = (told ≡ halts fault) × AllHalt fault steps
AllHalt fault (worked recorder told ∷ steps) = (told ≡ Stopped fault) × AllHalt fault steps
