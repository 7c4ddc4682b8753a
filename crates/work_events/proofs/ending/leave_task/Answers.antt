use Rattle.std.proofs.Common.{◌≡◌, inl, inr, sym, ◌∙◌, ap}
use Rattle.transfers.specs.declared.transfer.TransferKind.{TransferKind}
use Rattle.transfers.specs.declared.transfer.TransferKind.TheVariants.{StageBlank}
use Rattle.work_events.specs.Leaving.{TaskParts, left_by}
use Rattle.work_events.proofs.ending.leave_task.Goals as goal

pub returns-in-StageBlank : goal.returns-in-StageBlank
returns-in-StageBlank c =
    let old : TaskParts = record { frames = c.args.frames.now; requests = c.args.requests.now; tasks = c.args.tasks.now.items } in
    let By : TransferKind → TaskParts = λ k. left_by k c.args.recorder c.args.task.now old in
    let path : By StageBlank ≡ record { frames = c.end_task.new.frames; requests = c.end_task.new.requests; tasks = c.end_task.new.tasks.items } =
    λ i. record { frames = sym c.end_task.ensures.frames i; requests = sym c.end_task.ensures.requests i; tasks = sym c.end_task.ensures.tasks i } in
    elim c.in-StageBlank.is [
      | inl is ↦ ap By is ∙ path
      | inr is ↦ ap By is ∙ path
    ]

pub returns-in-Destage : goal.returns-in-Destage
returns-in-Destage c =
    let old : TaskParts = record { frames = c.args.frames.now; requests = c.args.requests.now; tasks = c.args.tasks.now.items } in
    ap (λ (k : TransferKind). left_by k c.args.recorder c.args.task.now old) c.in-Destage.is ∙ (λ i. record old { tasks = sym c.put_task.ensures i })
