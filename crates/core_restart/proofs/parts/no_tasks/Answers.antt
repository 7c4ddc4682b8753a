use Rattle.std.proofs.Common.{take, List, Option, None, ◌∙◌, ap}
use Rattle.std.proofs.lemmas.List.{take-replicate}
use Rattle.core_state.specs.declared.task.Task.{Task}
use Rattle.core_restart.proofs.parts.no_tasks.Goals as goal

pub returns : goal.returns
returns c =
    c.truncate.ensures.items ∙ ap (λ (tasks : List (Option Task)). take c.args.count tasks) c.in_ok-tasks.ensures.items ∙ take-replicate {X = Option Task} c.args.count 8 None c.requires
