-- Why a host's call is answered as it is.
use Rattle.std.specs.Prelude.{◌≡◌, ◌≢◌, ◌⊎◌, ℕ, ◌/◌, ◌≤◌, ◌<◌, Bool, true, length, Some, None}
use Rattle.mss_base.specs.Content.{content}
use Rattle.mss_base.specs.Counts.{Rises, IsFaultSince}
use Rattle.mss_base.specs.Places.{frame_block}
use Rattle.channel_commands.specs.declared.command.Command.{Command}
use Rattle.channel_commands.specs.Codes.{is_write}
use Rattle.channel_commands.specs.Data.{CallData, is_command, ReplyData, done, equipment_check}
use Rattle.channel_commands.specs.Data.{no_space, stopped}
use Rattle.ckd_plain.specs.declared.host.HostState.{HostState}
use Rattle.volume_table.specs.Row.{RowValue, frame_of, state_of}
use Rattle.volume_table.specs.Listed.{row_in_list}
use Rattle.shown_volumes.specs.Shown.{RowsOf}
use Rattle.shown_volumes.specs.Sound.{frame_in}
use Rattle.fault_queue.specs.declared.queue.Request.{Request}
use Rattle.fault_queue.specs.declared.queue.RequestState.TheVariants.{Moving}
use Rattle.fault_queue.specs.Requests.{request_of}
use Rattle.core_state.specs.declared.rule.Waiting.TheVariants.{Busy, Fault, Held}
use Rattle.core_state.specs.Agrees.{UnderHost}
use Rattle.core_state.specs.Counted.{fault_asked}
use Rattle.core_state.specs.CoreValue.{CoreValue, CoreData}
use Rattle.core_state.specs.declared.session.TheConstants.{ENTRY_LIMIT}
use Rattle.core_state.specs.Devices.{answer_on}
use Rattle.core_state.specs.HostEvents.{HostTold, replied, marked, waits, halts, at_limit}
use Rattle.core_state.specs.HostEvents.{no_memory, response}
use Rattle.core_state.specs.HostRules.{data_command, would_bind, taken_from}
use Rattle.core_state.specs.Pins.{host_at, owns}
use Rattle.core_state.specs.Running.{IsNotBusy, IsNotAwaited}
use Rattle.host_events.specs.Leaves.{AddsEntry}
use Rattle.host_events.specs.Runs.{run_by}

-- the core goes on, and has room for an entry
pub record Goes {S C : Type 0} (v : CoreValue S C) : Type 0 where
  pub going : v.stopped ≡ None
  pub few : length v.history < ENTRY_LIMIT

-- the page under a host has no frame, and each frame has a page of a volume that some host has
-- bound
abbrev pub HasNoSpaceFor : ℕ → RowsOf → (ℕ → HostState) → ℕ → Type 0
HasNoSpaceFor frames rows hosts h =
    UnderHost rows (hosts h) (λ r cylinder. frame_of r (cylinder / 8) ≡ None)
    × ((frame : ℕ) → frame < frames → (volume : ℕ) × (page : ℕ) × (other : ℕ)
    × (frame_in rows volume page ≡ Some frame) × ((hosts other).mounted ≡ Some (volume, true)))

-- ---- what a call may find, in the order in which it is asked

module _ (core : CoreData) (h : ℕ) (call : CallData) where
  abbrev pub IsAtLimit : Type 0
  IsAtLimit = (core.stopped ≡ None) × (ENTRY_LIMIT ≤ length core.history)

  -- a command on a volume that another host owns
  pub record IsKeptOff (owner : ℕ) : Type 0 where
    pub goes : Goes core
    pub commands : is_command call ≡ true
    pub volume : ℕ
    pub bind : Bool
    pub mounted : (host_at core.hosts h).mounted ≡ Some (volume, bind)
    pub owns_ : owns core.hosts core.requests owner volume ≡ true
    pub other : owner ≢ h

  -- a call in a core that goes on, which isn't kept off
  pub record IsLetIn : Type 0 where
    pub goes : Goes core
    pub free : is_command call ≡ true → IsNotBusy core h

  -- no search, read or write, while a recorder serves the host's request for this cylinder
  pub record LeavesServed (cylinder : ℕ) : Type 0 where
    pub let_in : IsLetIn
    pub none : data_command (host_at core.hosts h) call ≡ None
    pub q : Request
    pub asked : request_of core.requests h ≡ Some q
    pub moves : q.state ≡ Moving
    pub cylinder_ : q.cylinder ≡ cylinder

  -- a mount with bind that would be accepted, of a volume from which a task takes this frame
  pub record BindsTaken (frame : ℕ) : Type 0 where
    pub let_in : IsLetIn
    pub quiet : IsNotAwaited core h
    pub volume : ℕ
    pub binds : would_bind core (host_at core.hosts h) call ≡ Some volume
    pub takes : taken_from volume core.tasks ≡ Some frame

  -- any other call that is no search, read or write, or fails a check
  pub record NeedsNoLook : Type 0 where
    pub let_in : IsLetIn
    pub quiet : IsNotAwaited core h
    pub none : data_command (host_at core.hosts h) call ≡ None
    pub untaken : (volume : ℕ) → would_bind core (host_at core.hosts h) call ≡ Some volume
        → taken_from volume core.tasks ≡ None

  -- a search, read or write
  pub record Looks (c : Command) : Type 0 where
    pub let_in : IsLetIn
    pub is : data_command (host_at core.hosts h) call ≡ Some c

  -- one whose staging failed
  pub record IsFailed (fault : ℕ) : Type 0 where
    pub c : Command
    pub looks : Looks c
    pub fails : fault_asked core.requests h ≡ Some fault

  -- one whose staging didn't fail, on a cylinder with P
  pub record LooksAt (c : Command) (P : RowValue → ℕ → Type 0) : Type 0 where
    pub looks : Looks c
    pub unfailed : fault_asked core.requests h ≡ None
    pub under : UnderHost (row_in_list core.rows) (host_at core.hosts h) P

  -- there is no space for its page
  pub record FindsNoSpace : Type 0 where
    pub c : Command
    pub at : LooksAt c (λ r cylinder. frame_of r (cylinder / 8) ≡ None)
    pub full : HasNoSpaceFor core.config.frames (row_in_list core.rows) (host_at core.hosts) h

  -- its cylinder, which is this one, isn't staged, and there is space or it needs none
  pub record IsUnstaged (cylinder : ℕ) : Type 0 where
    pub c : Command
    pub at : LooksAt c (λ r under. state_of r under < 2)
    pub space : HasNoSpaceFor core.config.frames (row_in_list core.rows) (host_at core.hosts) h → ⊥
    pub cylinder_ : cylinder ≡ (host_at core.hosts h).cylinder

  -- a write on a cylinder that is staged and not changed yet
  pub record IsToMark : Type 0 where
    pub c : Command
    pub at : LooksAt c (λ r cylinder. (state_of r cylinder ≡ 2) ⊎ (state_of r cylinder ≡ 3))
    pub writes : is_write c ≡ true

  -- one on a cylinder that is staged, and changed where it is a write
  abbrev pub IsToRun : Command → Type 0
  IsToRun c =
      LooksAt c (λ r cylinder. (2 ≤ state_of r cylinder)
      × (is_write c ≡ true → state_of r cylinder ≡ 4))

-- ---- each answer has its cause

-- the plain machine's reply to a call, on the cylinder under the host in this frame
abbrev pub plain_reply_on : CoreData → ℕ → CallData → Command → ℕ → ReplyData
plain_reply_on core h call c frame =
    (answer_on
    (run_by (host_at core.hosts h) (frame_block frame (host_at core.hosts h).cylinder 0) c call)
    (content core.site.told)).reply

-- a search, read or write on the frame of its page, which has the plain machine's reply
abbrev pub RunsPlainly : CoreData → ℕ → CallData → ReplyData → Type 0
RunsPlainly core h call reply =
    (c : Command) × (frame : ℕ) × IsToRun core h call c
    × UnderHost (row_in_list core.rows) (host_at core.hosts h)
    (λ r cylinder. frame_of r (cylinder / 8) ≡ Some frame)
    × (reply ≡ plain_reply_on core h call c frame)

-- An equipment check has the fault of the staging that failed, or the count behind a read of this
-- event that failed. Every other reply but want of space comes with or without a look at the
-- tracks; it is the plain one, with a look on devices that tell what they hold (`IsPlainReply`).
abbrev pub CauseOfReply : CoreData → ℕ → CallData → ReplyData → CoreData → Type 0
CauseOfReply core h call equipment_check core' =
    ((fault : ℕ) × IsFailed core h call fault
    × AddsEntry core h call equipment_check (Some fault) core')
    ⊎ ((c : Command) × IsToRun core h call c × Rises core.site.faults core'.site.faults
    × AddsEntry core h call equipment_check (Some core'.site.faults) core')
CauseOfReply core h call no_space core' = FindsNoSpace core h call
CauseOfReply core h call stopped core' = ⊥
CauseOfReply core h call (done status bytes) core' =
    (NeedsNoLook core h call × (done status bytes ≡ (response core h call).0))
    ⊎ ((c : Command) × IsToRun core h call c)
CauseOfReply core h call reply core' =
    NeedsNoLook core h call × (reply ≡ (response core h call).0)

-- the plain reply, without a look or with one
abbrev pub IsPlainReply : CoreData → ℕ → CallData → ReplyData → Type 0
IsPlainReply core h call reply =
    (NeedsNoLook core h call × (reply ≡ (response core h call).0))
    ⊎ RunsPlainly core h call reply

-- the core was stopped, or a write of this event failed
abbrev pub CauseOfStop : CoreData → ℕ → CallData → ℕ → CoreData → Type 0
CauseOfStop core h call fault core' =
    (core.stopped ≡ Some fault)
    ⊎ ((c : Command) × Looks core h call c × (is_write c ≡ true)
    × IsFaultSince core.site.faults core'.site.faults fault)

-- memory may be refused wherever the core goes on
abbrev pub CauseOf : CoreData → ℕ → CallData → HostTold → CoreData → Type 0
CauseOf core h call (replied index reply) core' = CauseOfReply core h call reply core'
CauseOf core h call (halts fault) core' = CauseOfStop core h call fault core'
CauseOf core h call at_limit core' = IsAtLimit core h call
CauseOf core h call (waits (Busy owner)) core' = IsKeptOff core h call owner
CauseOf core h call (waits (Held frame)) core' = BindsTaken core h call frame
CauseOf core h call (waits (Fault cylinder)) core' =
    LeavesServed core h call cylinder ⊎ IsUnstaged core h call cylinder
CauseOf core h call marked core' = IsToMark core h call
CauseOf core h call no_memory core' = Goes core

-- ---- each cause has its answer

abbrev pub OrNoMemory : HostTold → HostTold → Type 0
OrNoMemory told answer = (told ≡ answer) ⊎ (told ≡ no_memory)

-- marked, unless the row's write fails
abbrev pub IsOfMark : HostTold → Type 0
IsOfMark marked = Unit {0}
IsOfMark (halts fault) = Unit {0}
IsOfMark no_memory = Unit {0}
IsOfMark _ = ⊥

-- a reply, unless a write fails
abbrev pub IsOfRun : HostTold → Type 0
IsOfRun (replied index (done status bytes)) = Unit {0}
IsOfRun (replied index equipment_check) = Unit {0}
IsOfRun (halts fault) = Unit {0}
IsOfRun no_memory = Unit {0}
IsOfRun _ = ⊥

-- in place of any answer but the first two, memory may be refused
pub record AnswersEachCause (core : CoreData) (h : ℕ) (call : CallData) (told : HostTold) : Type 0
  where
    pub stopped_ : (fault : ℕ) → core.stopped ≡ Some fault → told ≡ halts fault
    pub full : IsAtLimit core h call → told ≡ at_limit
    pub busy : (owner : ℕ) → IsKeptOff core h call owner → OrNoMemory told (waits (Busy owner))
    pub served : (cylinder : ℕ) → LeavesServed core h call cylinder
        → OrNoMemory told (waits (Fault cylinder))
    pub taken : (frame : ℕ) → BindsTaken core h call frame → OrNoMemory told (waits (Held frame))
    pub responds : NeedsNoLook core h call
        → OrNoMemory told (replied (length core.history) (response core h call).0)
    pub failed : (fault : ℕ) → IsFailed core h call fault
        → OrNoMemory told (replied (length core.history) equipment_check)
    pub no_space_ : FindsNoSpace core h call
        → OrNoMemory told (replied (length core.history) no_space)
    pub unstaged : (cylinder : ℕ) → IsUnstaged core h call cylinder
        → OrNoMemory told (waits (Fault cylinder))
    pub marks : IsToMark core h call → IsOfMark told
    pub runs : (c : Command) → IsToRun core h call c → IsOfRun told
