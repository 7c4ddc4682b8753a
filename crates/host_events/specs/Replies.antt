-- What a reply leaves of a session and of a core.
use Rattle.std.specs.Prelude.{ℕ, [], ◌∷◌, ◌++◌, Option}
use Rattle.mss_base.specs.Content.{SiteLog}
use Rattle.channel_commands.specs.Data.{CallData, ReplyData}
use Rattle.ckd_plain.specs.declared.host.HostState.{HostState}
use Rattle.fault_queue.specs.declared.queue.Request.{Request}
use Rattle.fault_queue.specs.Requests.{without_request}
use Rattle.core_state.specs.declared.session.Event.TheVariants.{Host}
use Rattle.core_state.specs.CoreValue.{CoreData, CoreValue}
use Rattle.core_state.specs.Counted.{IsCounted}
use Rattle.core_state.specs.Entered.{core_with_entry}
use Rattle.core_state.specs.HostEvents.{HostTold, no_memory, IsSame, Given, Replies}
use Rattle.core_state.specs.Pins.{put_host}
use Rattle.core_state.specs.SessionData.{SessionData, data_of, with_last_entry, with_last_event}
use Rattle.core_state.specs.Steps.{entry_of}
use Rattle.core_state.specs.TheCore.{IsWhole}

-- a session with the entry of a call, and its event
abbrev pub with_reply : ℕ → CallData → ReplyData → Option ℕ → ℕ → SessionData → SessionData
with_reply h call reply fault mark d =
    with_last_event (Host h) (with_last_entry (entry_of d.history h call reply fault) mark d)

-- a core whose host is replied: the host is this one, and its request has ended
abbrev pub after_answer : {S C : Type 0} → CoreValue S C → ℕ → ℕ → CallData → Option ℕ
    → ReplyData × HostState → CoreValue S C
after_answer v mark h call fault answer =
    record (core_with_entry v v.site (entry_of v.history h call answer.0 fault) mark
    (put_host v.hosts h answer.1) (without_request h v.requests) v.tasks v.stopped) {
      events = v.events ++ Host h ∷ [];
    }

-- a core with a request of a host that had none
abbrev pub after_asking : {S C : Type 0} → CoreValue S C → ℕ → Request → CoreValue S C
after_asking v h r =
    record v { requests = v.requests ++ (h, r) ∷ []; events = v.events ++ Host h ∷ [] }

-- what the type of a core keeps of its value
pub record IsUpheld {S C : Type 0} (tells : Type 0) (site : SiteLog) (writes faults : ℕ)
    (v : CoreValue S C) : Type 0 where
  pub whole : IsWhole tells site v
  pub counted : IsCounted writes faults v.requests (data_of v)

-- the reply, or want of memory
abbrev pub RepliesOr : Type 0 → CoreData → ℕ → CallData → Given → HostTold → CoreData → Type 0
RepliesOr tells core h call given no_memory core' = IsSame tells core core'
RepliesOr tells core h call given told core' = Replies tells core h call given told core'
