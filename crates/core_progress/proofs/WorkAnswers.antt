-- A recorder's event that does nothing leaves the core as it was.
use Rattle.std.proofs.Common.{◌≡◌, inl, inr, ℕ, List, Option, Some, None, refl}
use Rattle.transfers.specs.declared.transfer.Transfer.{Transfer}
use Rattle.transfers.specs.declared.transfer.TransferKind.{TransferKind}
use Rattle.transfers.specs.declared.transfer.TransferKind.TheVariants.{StageBlank, StageCartridge, Destage}
use Rattle.victim_choice.specs.declared.choose.Candidate.{Candidate}
use Rattle.core_state.specs.declared.task.Task.{Task}
use Rattle.core_state.specs.declared.rule.WorkAnswer.TheVariants.{Idle}
use Rattle.core_state.specs.declared.rule.WorkRule.{WorkRule}
use Rattle.core_state.specs.declared.rule.WorkRule.TheVariants.{IsStopped, IsIdle, GivesBack, Picks, PicksVictim, Abandons, Fetches, Copies, Ends, Frees, Assigns}
use Rattle.core_state.specs.CoreValue.{CoreData}
use Rattle.core_state.specs.HostEvents.{IsSame}
use Rattle.core_state.specs.WorkRules.{task_of, work_rule}
use Rattle.core_state.specs.WorkEvents.{WithTask, TaskDoes, TellsEnd, EndsIt, WorkDoes, WorkEvent}

module _ (tells : Type 0) (may : List Candidate → ℕ → Type 0) (core core' : CoreData) (i : ℕ) where
  tells_never : (now : CoreData) (task : Task) (kind : TransferKind) (t : Transfer) → TellsEnd tells now i task kind t Idle core' → ⊥
  tells_never now task Destage t does = does
  tells_never now task StageBlank t does = does
  tells_never now task StageCartridge t does = does

  ends_never : (task : Task) (t : Transfer) → EndsIt tells core i task t Idle core' → ⊥
  ends_never task t does = elim does [
    | inl done ↦ tells_never (record core { site = done.0 }) task t.kind t done.2
    | inr failed ↦ (let e = failed.1 in cc)
  ]

  -- a rule of a task does something
  task_never : (rule : WorkRule) (task : Task) → TaskDoes tells core i rule task Idle core' → ⊥
  task_never Abandons task does = let e = does.1 in cc
  task_never (Copies t) task does = let e = does.0 in cc
  task_never (Ends t) task does = ends_never task t does
  task_never (Frees volume page) task does = does
  task_never (Assigns volume page) task does = does
  task_never (IsStopped fault) task does = does
  task_never IsIdle task does = does
  task_never (GivesBack cartridge) task does = does
  task_never (Picks h frame) task does = does
  task_never (PicksVictim h) task does = does
  task_never (Fetches cartridge) task does = does

  with_never : (rule : WorkRule) (o : Option Task) → WithTask o (λ task. TaskDoes tells core i rule task Idle core') → ⊥
  with_never rule None does = does
  with_never rule (Some task) does = task_never rule task does

  idle_rule : (rule : WorkRule) → WorkDoes tells may core i rule Idle core' → (rule ≡ IsIdle) × IsSame tells core core'
  idle_rule IsIdle does = (refl, does.1)
  idle_rule (IsStopped fault) does = absurd (let e = does.0 in cc)
  idle_rule (GivesBack cartridge) does = absurd (let e = does.1 in cc)
  idle_rule (Fetches cartridge) does = absurd (let e = does.1 in cc)
  idle_rule (Picks h frame) does = absurd (let e = does.1 in cc)
  idle_rule (PicksVictim h) does = absurd (let e = (does.4).1 in cc)
  idle_rule Abandons does = absurd (with_never Abandons (task_of core i) does)
  idle_rule (Copies t) does = absurd (with_never (Copies t) (task_of core i) does)
  idle_rule (Ends t) does = absurd (with_never (Ends t) (task_of core i) does)
  idle_rule (Frees volume page) does = absurd (with_never (Frees volume page) (task_of core i) does)
  idle_rule (Assigns volume page) does = absurd (with_never (Assigns volume page) (task_of core i) does)

  -- it is idle, and nothing changes
  pub idle_same : WorkEvent tells may core i Idle core' → (work_rule core i ≡ IsIdle) × IsSame tells core core'
  idle_same event = idle_rule (work_rule core i) event
