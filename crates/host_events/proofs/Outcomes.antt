-- What an event of a host does, case by case: what holds of each outcome holds of the event.
use Rattle.std.proofs.Common.{◌≡◌, ℕ, Bool, List, length, Option, Some, None, refl, sym, subst}
use Rattle.std.specs.Option.{ForSome}
use Rattle.channel_commands.specs.declared.command.Command.{Command}
use Rattle.channel_commands.specs.Data.{CallData, command as ask, ReplyData, done, equipment_check, no_space}
use Rattle.ckd_plain.specs.declared.host.HostState.{HostState}
use Rattle.ckd_plain.specs.declared.unit_check.UnitCheck.TheVariants as check
use Rattle.volume_table.specs.Changes.{effect}
use Rattle.volume_table.specs.Listed.{row_in_list}
use Rattle.volume_table.specs.declared.changes.Change.TheVariants as change
use Rattle.table_pair.specs.Slots.{used_after, used_at}
use Rattle.fault_queue.specs.declared.queue.RequestState.TheVariants as request
use Rattle.core_state.specs.declared.session.Event.TheVariants.{Host}
use Rattle.core_state.specs.declared.rule.Waiting.TheVariants.{Busy, Fault, Held}
use Rattle.core_state.specs.declared.rule.HostRule.{HostRule}
use Rattle.core_state.specs.declared.rule.HostRule.TheVariants.{IsStopped, IsFull, IsBusy, IsMoving, IsHeld, Responds, HasFailed, HasNoSpace, Faults, Marks, Runs}
use Rattle.core_state.specs.CoreValue.{CoreData}
use Rattle.core_state.specs.Devices.{StillHold, FailRead, HaveRow, FailRow, RunOn, FailOn}
use Rattle.core_state.specs.HostEvents.{HostTold, replied, marked, waits, halts, at_limit, no_memory, response, exception, equipment, IsSame, Holds, Asks, run_of, page_under, RunsIt, HostDoes}
use Rattle.core_state.specs.Pins.{page_of}
use Rattle.core_state.specs.Steps.{with_event, with_row, with_change, after_reply, after_stop, going_on, with_request, touching, after_use}
use Rattle.host_events.proofs.RuleFacts.{IsLate}

-- a reply that is put in the history without a look at the devices
abbrev pub IsReplied : Type 0 → CoreData → ℕ → CallData → Option ℕ → ReplyData × HostState → CoreData → Type 0
IsReplied tells core h call fault answer core' = StillHold tells core.site core'.site × (core' ≡ after_reply core'.site h call fault answer core)

abbrev pub IsMarked : Type 0 → CoreData → ℕ → CallData → ℕ → ℕ → CoreData → Type 0
IsMarked tells core h call volume cylinder core' =
    ForSome (row_in_list core.rows volume) (λ r. HaveRow tells volume (effect (change.Changed cylinder) r) (used_after (used_at core.used volume)) core.site core'.site)
    × (core' ≡ with_event (Host h) (touching (volume, page_of cylinder) (with_request h volume cylinder request.Ready (with_change volume (change.Changed cylinder) (record (going_on core h call) { site = core'.site })))))

abbrev pub IsUnmarked : Type 0 → CoreData → ℕ → CallData → ℕ → ℕ → ℕ → CoreData → Type 0
IsUnmarked tells core h call volume cylinder fault core' =
    ForSome (row_in_list core.rows volume) (λ r. FailRow tells volume (effect (change.Changed cylinder) r) fault core.site core'.site)
    × (core' ≡ after_stop core'.site h call (with_row volume (change.Changed cylinder) core))

-- a command on a frame: a read failed; it was carried out; a write failed
abbrev pub IsUnread : Type 0 → CoreData → ℕ → CallData → CoreData → Type 0
IsUnread tells core h call core' =
    FailRead tells core.site core'.site × (core' ≡ after_reply core'.site h call (Some core'.site.faults) (equipment core h) core)

abbrev pub IsRun : Type 0 → CoreData → ℕ → CallData → Command → ℕ → ℕ → ℕ → List ℕ → Bool → ReplyData → CoreData → Type 0
IsRun tells core h call c volume frame code argument chained reply core' =
    (call ≡ ask code argument chained) × (host : HostState)
    × RunOn tells (run_of core h frame c argument chained) core.site core'.site (reply, host)
    × (core' ≡ after_reply core'.site h call None (reply, host) (after_use c (page_under core h volume) frame core))

abbrev pub IsUnwritten : Type 0 → CoreData → ℕ → CallData → Command → ℕ → ℕ → List ℕ → Bool → ℕ → CoreData → Type 0
IsUnwritten tells core h call c frame code argument chained fault core' =
    (call ≡ ask code argument chained)
    × FailOn tells (run_of core h frame c argument chained) fault core.site core'.site
    × (core' ≡ after_stop core'.site h call core)

module _ (tells : Type 0) (core : CoreData) (h : ℕ) (call : CallData) (core' : CoreData) where
  -- what holds of each outcome
  pub record EachOutcome (P : HostRule → HostTold → Type 0) : Type 0 where
    pub stops : (fault : ℕ) → IsSame tells core core' → P (IsStopped fault) (halts fault)
    pub fills : IsSame tells core core' → P IsFull at_limit
    pub lacks : (rule : HostRule) → IsLate rule → IsSame tells core core' → P rule no_memory
    pub is_busy : (owner : ℕ) → IsSame tells core core' → P (IsBusy owner) (waits (Busy owner))
    pub moves : (cylinder : ℕ) → IsSame tells core core' → P (IsMoving cylinder) (waits (Fault cylinder))
    pub holds : (frame : ℕ) → Holds tells core h call core' → P (IsHeld frame) (waits (Held frame))
    pub responds : IsReplied tells core h call None (response core h call) core' → P Responds (replied (length core.history) (response core h call).0)
    pub fails : (fault : ℕ) → IsReplied tells core h call (Some fault) (equipment core h) core' → P (HasFailed fault) (replied (length core.history) equipment_check)
    pub is_full : IsReplied tells core h call None (exception check.NoSpace no_space core h) core' → P HasNoSpace (replied (length core.history) no_space)
    pub asks : (volume cylinder : ℕ) → Asks tells core h call volume cylinder core' → P (Faults volume cylinder) (waits (Fault cylinder))
    pub marks : (volume cylinder : ℕ) → IsMarked tells core h call volume cylinder core' → P (Marks volume cylinder) marked
    pub unmarked : (volume cylinder fault : ℕ) → IsUnmarked tells core h call volume cylinder fault core' → P (Marks volume cylinder) (halts fault)
    pub unread : (c : Command) (volume frame : ℕ) → IsUnread tells core h call core' → P (Runs c volume frame) (replied (length core.history) equipment_check)
    pub runs : (c : Command) (volume frame code : ℕ) (argument : List ℕ) (chained : Bool) (status : ℕ) (bytes : List ℕ)
        → IsRun tells core h call c volume frame code argument chained (done status bytes) core' → P (Runs c volume frame) (replied (length core.history) (done status bytes))
    pub unwritten : (c : Command) (volume frame code : ℕ) (argument : List ℕ) (chained : Bool) (fault : ℕ)
        → IsUnwritten tells core h call c frame code argument chained fault core' → P (Runs c volume frame) (halts fault)

module _ (tells : Type 0) (core : CoreData) (h : ℕ) (core' : CoreData) where
  -- a command that ran, by its reply
  run_by : (code : ℕ) (argument : List ℕ) (chained : Bool) (P : HostRule → HostTold → Type 0) → EachOutcome tells core h (ask code argument chained) core' P → (c : Command) (volume frame : ℕ) (reply : ReplyData) (host : HostState)
      → RunOn tells (run_of core h frame c argument chained) core.site core'.site (reply, host)
      → core' ≡ after_reply core'.site h (ask code argument chained) None (reply, host) (after_use c (page_under core h volume) frame core) → P (Runs c volume frame) (replied (length core.history) reply)
  run_by code argument chained P each c volume frame (done status bytes) host ran is = each.runs c volume frame code argument chained status bytes (refl, host, ran, is)
  run_by code argument chained P each c volume frame _ host ran is = absurd ran.done_

  module _ (P : CallData → HostRule → HostTold → Type 0) (c : Command) (volume frame : ℕ) where
    runs_by : (call : CallData) (told : HostTold) → RunsIt tells core h call (record { command = c; volume = volume; frame = frame }) told core' → EachOutcome tells core h call core' (P call) → P call (Runs c volume frame) told
    runs_by call (replied index equipment_check) does each =
        subst (λ (n : ℕ). P call (Runs c volume frame) (replied n equipment_check)) (sym does.1) (each.unread c volume frame (does.0, does.2))
    runs_by (ask code argument chained) (replied index reply) does each =
        subst (λ (n : ℕ). P (ask code argument chained) (Runs c volume frame) (replied n reply)) (sym does.2)
        (run_by code argument chained (P (ask code argument chained)) each c volume frame reply does.0 does.1 does.3)
    runs_by (ask code argument chained) (halts fault) does each = each.unwritten c volume frame code argument chained fault (refl, does.0, does.1)
    runs_by call told does each = absurd does

  module _ (P : CallData → HostRule → HostTold → Type 0) where
    pub outcome : (call : CallData) → EachOutcome tells core h call core' (P call) → (rule : HostRule) (told : HostTold) → HostDoes tells core h call rule told core' → P call rule told
    outcome call each (IsStopped fault) told does = subst (P call (IsStopped fault)) (sym does.0) (each.stops fault does.1)
    outcome call each IsFull told does = subst (P call IsFull) (sym does.0) (each.fills does.1)
    outcome call each rule no_memory does = each.lacks rule tt does
    outcome call each (IsBusy owner) told does = subst (P call (IsBusy owner)) (sym does.0) (each.is_busy owner does.1)
    outcome call each (IsMoving cylinder) told does = subst (P call (IsMoving cylinder)) (sym does.0) (each.moves cylinder does.1)
    outcome call each (IsHeld frame) told does = subst (P call (IsHeld frame)) (sym does.0) (each.holds frame does.1)
    outcome call each Responds told does = subst (P call Responds) (sym does.1) (each.responds (does.0, does.2))
    outcome call each (HasFailed fault) told does = subst (P call (HasFailed fault)) (sym does.1) (each.fails fault (does.0, does.2))
    outcome call each HasNoSpace told does = subst (P call HasNoSpace) (sym does.1) (each.is_full (does.0, does.2))
    outcome call each (Faults volume cylinder) told does = subst (P call (Faults volume cylinder)) (sym does.0) (each.asks volume cylinder does.1)
    outcome call each (Marks volume cylinder) marked does = each.marks volume cylinder does
    outcome call each (Marks volume cylinder) (halts fault) does = each.unmarked volume cylinder fault does
    outcome call each (Marks volume cylinder) told does = absurd does
    outcome call each (Runs c volume frame) told does = runs_by P c volume frame call told does each
