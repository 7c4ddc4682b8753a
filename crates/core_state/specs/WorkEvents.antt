-- What a recorder's event answers, and the core that it leaves.
use Rattle.std.specs.Prelude.{◌≡◌, ◌⊎◌, ℕ, List, slice_get, Option, Some, None}
use Rattle.std.specs.Option.{ForSome}
use Rattle.volume_table.specs.Changes.{effect}
use Rattle.volume_table.specs.Listed.{row_in_list}
use Rattle.volume_table.specs.declared.changes.Change.{Change}
use Rattle.volume_table.specs.declared.changes.Change.TheVariants as change
use Rattle.table_pair.specs.Slots.{used_after, used_at}
use Rattle.fault_queue.specs.declared.queue.RequestState.TheVariants as request
use Rattle.transfers.specs.Copies.{moved_on, target_unit}
use Rattle.transfers.specs.declared.transfer.Transfer.{Transfer}
use Rattle.transfers.specs.declared.transfer.TransferKind.{TransferKind}
use Rattle.transfers.specs.declared.transfer.TransferKind.TheVariants.{Destage}
use Rattle.victim_choice.specs.declared.choose.Candidate.{Candidate}
use Rattle.core_state.specs.declared.task.Task.{Task}
use Rattle.core_state.specs.declared.session.Event.TheVariants.{Work}
use Rattle.core_state.specs.declared.rule.WorkKind.{WorkKind}
use Rattle.core_state.specs.declared.rule.WorkKind.TheVariants as kind
use Rattle.core_state.specs.declared.rule.WorkAnswer.{WorkAnswer}
use Rattle.core_state.specs.declared.rule.WorkAnswer.TheVariants.{Did, Idle, Stopped, Memory}
use Rattle.core_state.specs.declared.rule.WorkRule.{WorkRule}
use Rattle.core_state.specs.declared.rule.WorkRule.TheVariants.{IsStopped, IsIdle, GivesBack, Picks}
use Rattle.core_state.specs.declared.rule.WorkRule.TheVariants.{PicksVictim, Abandons, Fetches}
use Rattle.core_state.specs.declared.rule.WorkRule.TheVariants.{Copies, Ends, Frees, Assigns}
use Rattle.core_state.specs.CoreValue.{CoreData, DevicesSeen}
use Rattle.core_state.specs.Devices.{StillHold, HaveRow, FailRow, CopyBlock, LeaveBlock}
use Rattle.core_state.specs.Devices.{SyncUnit, FailSync}
use Rattle.core_state.specs.HostEvents.{IsSame}
use Rattle.core_state.specs.Pins.{candidates}
use Rattle.core_state.specs.Steps.{with_event, with_row, with_change, most_recent, with_owner, with_task}
use Rattle.core_state.specs.Steps.{with_picked_request, task_ended, given_back, with_fetched_cartridge}
use Rattle.core_state.specs.WorkRules.{task_of, work_rule}

-- ---- the outcomes of the rules

-- this was done, and nothing is written
abbrev pub Does : Type 0 → CoreData → WorkKind → ℕ → (CoreData → CoreData) → WorkAnswer → CoreData
    → Type 0
Does tells core what recorder after told core' =
    StillHold tells core.site core'.site
    × (told ≡ Did what)
    × (core' ≡ with_event (Work recorder) (after (record core { site = core'.site })))

-- a row is changed, and then this is done; or its writing fails, and the core stops
abbrev pub ChangesThen : Type 0 → CoreData → WorkKind → ℕ → ℕ → Change → (CoreData → CoreData)
    → WorkAnswer → CoreData → Type 0
ChangesThen tells core what recorder volume change after (Did did) core' =
    ForSome (row_in_list core.rows volume)
    (λ r. HaveRow tells volume (effect change r) (used_after (used_at core.used volume))
    core.site core'.site)
    × (did ≡ what)
    × (core' ≡ with_event (Work recorder)
    (after (with_change volume change (record core { site = core'.site }))))
ChangesThen tells core what recorder volume change after (Stopped fault) core' =
    ForSome (row_in_list core.rows volume)
    (λ r. FailRow tells volume (effect change r) fault core.site core'.site)
    × (core' ≡ with_event (Work recorder)
    (record (with_row volume change core) { site = core'.site; stopped = Some fault }))
ChangesThen tells core what recorder volume change after _ core' = ⊥

-- one of the candidates that the chooser may answer gives its frame
abbrev pub Takes : Type 0 → (List Candidate → ℕ → Type 0) → CoreData → ℕ → ℕ → WorkAnswer
    → CoreData → Type 0
Takes tells may core recorder h told core' =
    (place : ℕ) × (c : Candidate)
    × may (candidates core) place
    × (slice_get (candidates core) place ≡ Some c)
    × Does tells core kind.Pick recorder (with_picked_request recorder h c.frame (Some (c.volume, c.page)))
    told core'

-- the task ends, and its request has failed, with the count of faults now
abbrev pub task_failed : DevicesSeen → ℕ → Task → CoreData → CoreData
task_failed site recorder task core =
    with_event (Work recorder)
    (task_ended recorder task (request.Failed site.faults) (record core { site = site }))

-- a track is copied; or the copy fails, and the task ends
abbrev pub CopiesIt : Type 0 → CoreData → ℕ → Task → Transfer → CoreData → Type 0
CopiesIt tells core recorder task t core' =
    (CopyBlock tells t core.site core'.site
    × (core' ≡ with_event (Work recorder)
    (with_task recorder (Some (record task { transfer = Some (moved_on t) }))
    (record core { site = core'.site }))))
    ⊎ (LeaveBlock tells t core.site core'.site
    × (core' ≡ task_failed core'.site recorder task core))

-- the row says that all tracks are copied: the victim's cylinder is destaged, or the asked one
-- staged
abbrev pub TellsEnd : Type 0 → CoreData → ℕ → Task → TransferKind → Transfer → WorkAnswer → CoreData
    → Type 0
TellsEnd tells core recorder task Destage t told core' =
    ChangesThen tells core kind.End recorder t.volume (change.Destaged t.cylinder)
    (with_task recorder (Some (record task { transfer = None }))) told core'
TellsEnd tells core recorder task _ t told core' =
    ChangesThen tells core kind.End recorder t.volume (change.Staged t.cylinder)
    (task_ended recorder task request.Ready) told core'

-- all tracks are copied: the unit that they went to is synced, and then the row says so; or the
-- sync fails, no row is changed, and the task ends
abbrev pub EndsIt : Type 0 → CoreData → ℕ → Task → Transfer → WorkAnswer → CoreData → Type 0
EndsIt tells core recorder task t told core' =
    ((firm : DevicesSeen)
    × SyncUnit tells (target_unit t) core.site firm
    × TellsEnd tells (record core { site = firm }) recorder task t.kind t told core')
    ⊎ (FailSync tells core.site core'.site
    × (told ≡ Did kind.End)
    × (core' ≡ task_failed core'.site recorder task core))

-- the rules of a recorder with a task
abbrev pub TaskDoes : Type 0 → CoreData → ℕ → WorkRule → Task → WorkAnswer → CoreData → Type 0
TaskDoes tells core recorder Abandons task told core' =
    Does tells core kind.Abandon recorder (task_ended recorder task request.Queued) told core'
TaskDoes tells core recorder (Copies t) task told core' =
    (told ≡ Did kind.Copy) × CopiesIt tells core recorder task t core'
TaskDoes tells core recorder (Ends t) task told core' =
    EndsIt tells core recorder task t told core'
TaskDoes tells core recorder (Frees volume page) task told core' =
    ChangesThen tells core kind.Free recorder volume (change.Free page)
    (λ now. with_task recorder (Some (record task { victim = None }))
    (with_owner task.frame None now)) told core'
TaskDoes tells core recorder (Assigns volume page) task told core' =
    ChangesThen tells core kind.Assign recorder volume (change.Assign page task.frame)
    (λ now. most_recent task.frame (with_owner task.frame (Some (volume, page)) now)) told core'
TaskDoes tells core recorder _ task told core' = ⊥

abbrev pub WithTask : Option Task → (Task → Type 0) → Type 0
WithTask None P = ⊥
WithTask (Some task) P = P task

-- ---- the rules

-- what an event that meets a rule answers, and the core then; wherever it takes memory, it may be
-- refused
abbrev pub WorkDoes : Type 0 → (List Candidate → ℕ → Type 0) → CoreData → ℕ → WorkRule → WorkAnswer
    → CoreData → Type 0
WorkDoes tells may core recorder (IsStopped fault) told core' =
    (told ≡ Stopped fault) × IsSame tells core core'
WorkDoes tells may core recorder rule Memory core' = IsSame tells core core'
WorkDoes tells may core recorder IsIdle told core' = (told ≡ Idle) × IsSame tells core core'
WorkDoes tells may core recorder (GivesBack cartridge) told core' =
    Does tells core kind.GiveBack recorder (given_back recorder cartridge) told core'
WorkDoes tells may core recorder (Fetches cartridge) told core' =
    Does tells core kind.Fetch recorder (with_fetched_cartridge recorder cartridge) told core'
WorkDoes tells may core recorder (Picks h frame) told core' =
    Does tells core kind.Pick recorder (with_picked_request recorder h frame None) told core'
WorkDoes tells may core recorder (PicksVictim h) told core' =
    Takes tells may core recorder h told core'
WorkDoes tells may core recorder rule told core' =
    WithTask (task_of core recorder) (λ task. TaskDoes tells core recorder rule task told core')

-- the first rule that applies gives this answer and this core; may: which places of a list the
-- chooser may answer
abbrev pub WorkEvent : Type 0 → (List Candidate → ℕ → Type 0) → CoreData → ℕ → WorkAnswer
    → CoreData → Type 0
WorkEvent tells may core recorder told core' =
    WorkDoes tells may core recorder (work_rule core recorder) told core'
