-- What every event of a recorder keeps, and what its answers say.
use Rattle.std.specs.Prelude.{◌≡◌, ◌≢◌, ◌⊎◌, ◌<◌, ◌≤◌, ℕ, List, [], ◌∷◌, ◌++◌, length}
use Rattle.std.specs.Prelude.{Option, Some, None}
use Rattle.mss_base.specs.Content.{Content, SiteLog, Adds, Writes, Tear, content, image}
use Rattle.mss_base.specs.Counts.{IsFaultSince}
use Rattle.mss_base.specs.declared.place.UnitNo.TheVariants.{Cartridge}
use Rattle.shown_volumes.specs.Shown.{block_at, volumes_shown}
use Rattle.fault_queue.specs.declared.queue.Request.{Request}
use Rattle.fault_queue.specs.declared.queue.RequestState.TheVariants.{Failed}
use Rattle.fault_queue.specs.Requests.{request_of}
use Rattle.transfers.specs.Copies.{in_frame, in_cartridge, copy_of, AddsAtMost}
use Rattle.transfers.specs.declared.transfer.Transfer.{Transfer}
use Rattle.transfers.specs.declared.transfer.TransferKind.TheVariants.{Destage}
use Rattle.core_state.specs.declared.session.Event.TheVariants.{Work}
use Rattle.core_state.specs.declared.rule.WorkAnswer.{WorkAnswer}
use Rattle.core_state.specs.declared.rule.WorkAnswer.TheVariants.{Did, Idle, Stopped, Memory}
use Rattle.core_state.specs.declared.rule.WorkRule.{WorkRule}
use Rattle.core_state.specs.declared.rule.WorkRule.TheVariants.{IsIdle, Copies, Ends}
use Rattle.core_state.specs.CoreValue.{CoreData}
use Rattle.core_state.specs.HostEvents.{IsSame}
use Rattle.core_state.specs.IsCore.{IsCore}
use Rattle.core_state.specs.Pins.{state_in}
use Rattle.core_state.specs.WorkRules.{task_of, work_rule}

-- the session's start, what hosts were told since, and the hosts are as before
pub record LeavesHosts (core left : CoreData) : Type 0 where
  pub began : left.first_write ≡ core.first_write
  pub history : left.history ≡ core.history
  pub marks : left.marks ≡ core.marks
  pub hosts : left.hosts ≡ core.hosts

-- a recorder of a core that keeps what a core keeps
pub record IsRecorder (core : CoreData) (recorder : ℕ) : Type 0 where
  pub there : recorder < core.config.recorders
  pub kept : core.stopped ≡ None → IsCore core

-- ---- the events

-- the event is noted, and more of the core changed than its devices and what is noted
pub record NotesChange (core : CoreData) (recorder : ℕ) (left : CoreData) : Type 0 where
  pub noted : left.events ≡ core.events ++ Work recorder ∷ []
  pub changed : left ≢ record core { site = left.site; events = left.events }

-- ---- the volumes

-- whatever a stop leaves since this core shows the volumes that its devices show
abbrev pub ShowsTheSame : CoreData → CoreData → Type 0
ShowsTheSame core left =
    (k : ℕ) (tear : Tear) → length core.site.told.log ≤ k
    → k ≤ length left.site.told.log
    → volumes_shown (image left.site.told k tear) ≡ volumes_shown (content core.site.told)

-- ---- cartridges

-- the blocks of all cartridges are those of another content
abbrev pub SameCartridges : Content → Content → Type 0
SameCartridges c d =
    (cartridge block : ℕ) → d (Cartridge cartridge) block ≡ c (Cartridge cartridge) block

-- the frame's block of the next track is written on the cartridge, in one write, and then the two
-- blocks are equal
pub record AddsTrack (t : Transfer) (old new : SiteLog) : Type 0 where
  pub added : Adds (copy_of (in_cartridge t t.next) (block_at (content old) (in_frame t t.next)))
      old new
  pub equal : block_at (content new) (in_cartridge t t.next)
      ≡ block_at (content new) (in_frame t t.next)

-- a track of a changed cylinder is destaged; or that fails, the task ends, and nothing is written
-- but some whole block at its place
pub record DestagesTrack (core : CoreData) (recorder : ℕ) (t : Transfer) (left : CoreData)
    : Type 0 where
  pub by_rule : work_rule core recorder ≡ Copies t
  pub kind : t.kind ≡ Destage
  pub changed : state_in core.rows t.volume t.cylinder ≡ 4
  pub written : AddsTrack t core.site.told left.site.told
      ⊎ (AddsAtMost (in_cartridge t t.next) core.site.told left.site.told
      × (task_of left recorder ≡ None))

-- a track is destaged, or at each moment the cartridges hold what they did
abbrev pub WritesCartridges : CoreData → ℕ → CoreData → Type 0
WritesCartridges core recorder left =
    Writes (SameCartridges (content core.site.told)) core.site.told left.site.told
    ⊎ ((t : Transfer) × DestagesTrack core recorder t left)

-- ---- answers

-- the core stopped in this event, with the fault of a write that failed in it
pub record StopsIn (core : CoreData) (fault : ℕ) (left : CoreData) : Type 0 where
  pub went : core.stopped ≡ None
  pub stands : left.stopped ≡ Some fault
  pub cause : IsFaultSince core.site.faults left.site.faults fault

-- what an answer says: something was done, and the core goes on; no rule applies, and nothing
-- changed; the core was stopped, or stopped now; memory was refused, and nothing changed
abbrev pub AnswerSays : Type 0 → CoreData → ℕ → WorkAnswer → CoreData → Type 0
AnswerSays tells core recorder (Did what) left = (core.stopped ≡ None) × (left.stopped ≡ None)
AnswerSays tells core recorder Idle left =
    (work_rule core recorder ≡ IsIdle) × IsSame tells core left
AnswerSays tells core recorder (Stopped fault) left =
    ((core.stopped ≡ Some fault) × IsSame tells core left) ⊎ StopsIn core fault left
AnswerSays tells core recorder Memory left = (core.stopped ≡ None) × IsSame tells core left

-- by this rule a track is copied, or what was copied is made firm
abbrev pub IsOfCopies : WorkRule → Type 0
IsOfCopies rule = (t : Transfer) × ((rule ≡ Copies t) ⊎ (rule ≡ Ends t))

-- a copy failed in this event, or the sync that makes the copies firm, and the fault is its count
abbrev pub CopyFails : CoreData → ℕ → ℕ → CoreData → Type 0
CopyFails core recorder fault left =
    IsOfCopies (work_rule core recorder) × IsFaultSince core.site.faults left.site.faults fault

-- a request that has failed did so before, or now, in a copy or in its sync
abbrev pub FailsByCopy : CoreData → ℕ → CoreData → Type 0
FailsByCopy core recorder left =
    (h fault : ℕ) (q : Request) → request_of left.requests h ≡ Some q → q.state ≡ Failed fault
    → (request_of core.requests h ≡ Some q) ⊎ CopyFails core recorder fault left
