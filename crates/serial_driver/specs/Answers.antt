-- How events ended.
use Rattle.std.specs.Prelude.{List, [], ◌∷◌}
use Rattle.core_state.specs.declared.rule.WorkAnswer.{WorkAnswer}
use Rattle.core_state.specs.declared.rule.WorkAnswer.TheVariants as work
use Rattle.core_state.specs.Chains.{Step, called, worked}
use Rattle.core_state.specs.HostEvents.{HostTold, halts, at_limit, no_memory}
use Rattle.serial_driver.specs.declared.answer.DriveAnswer.{DriveAnswer}
use Rattle.serial_driver.specs.declared.answer.DriveAnswer.TheVariants.{Done, Stopped, CommandLimit}
use Rattle.serial_driver.specs.declared.answer.DriveAnswer.TheVariants.{Memory}

abbrev pub of_host : HostTold → DriveAnswer
of_host (halts fault) = Stopped fault
of_host at_limit = CommandLimit
of_host no_memory = Memory
of_host _ = Done

abbrev pub of_work : WorkAnswer → DriveAnswer
of_work (work.Stopped fault) = Stopped fault
of_work work.Memory = Memory
of_work _ = Done

abbrev pub of_step : Step → DriveAnswer
of_step (called h call told) = of_host told
of_step (worked recorder told) = of_work told

-- the answer of the last event, if there is one
abbrev pub of_last : List Step → DriveAnswer
of_last [] = Done
of_last (step ∷ []) = of_step step
of_last (step ∷ more) = of_last more

abbrev pub IsUnstopped : DriveAnswer → Type 0
IsUnstopped (Stopped fault) = ⊥
IsUnstopped _ = Unit {0}
