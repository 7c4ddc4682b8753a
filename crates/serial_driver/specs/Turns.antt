-- One turn of the recorders, and one of the hosts.
use Rattle.std.specs.Prelude.{◌≡◌, ◌≤◌, ◌<◌, ℕ, Bool, true, false, List, None}
use Rattle.core_state.specs.declared.rule.WorkAnswer.{WorkAnswer}
use Rattle.core_state.specs.declared.rule.WorkRule.TheVariants.{IsIdle}
use Rattle.core_state.specs.WorkRules.{work_rule}
use Rattle.core_state.specs.Chains.{Step, worked, is_idle, WorkTurn, Onward, Ended, IsSettled}
use Rattle.core_state.specs.Chains.{Terms, has_call}
use Rattle.core_state.specs.CoreValue.{CoreData}
use Rattle.core_progress.specs.Progress.{AreIdle}
use Rattle.core_progress.specs.WorkLeft.{settle_left, run_left}
use Rattle.serial_driver.specs.declared.answer.DriveAnswer.TheVariants.{Done}
use Rattle.serial_driver.specs.declared.turn.Turn.{Turn}
use Rattle.serial_driver.specs.Answers.{of_last}
use Rattle.serial_driver.specs.Drives.{recorders_of, hosts_of}
use Rattle.script_places.specs.Scripts.{calls_of}
use Rattle.job_text.specs.Jobs.{ScriptData}

-- behind a turn no event is left; it tells whether all were idle
abbrev pub AtTurnEnd : Turn → CoreData → Bool → Onward
AtTurnEnd turn left idle core steps = Ended left core steps × (turn.idle ≡ idle)

-- what is left to do behind a turn that no event ended: nothing, where all were idle, and else less
pub record LeavesLess (core : CoreData) (idle : Bool) (left : CoreData) : Type 0 where
  pub idle_ : idle ≡ true → AreIdle left
  pub less : settle_left left ≤ settle_left core
  pub falls : idle ≡ false → settle_left left < settle_left core
  pub run : run_left left ≤ run_left core

-- what is left to do behind a recorder's event that ended nothing
pub record LeavesLessBy (core : CoreData) (n : ℕ) (told : WorkAnswer) (left : CoreData) : Type 0
  where
    pub less : settle_left left ≤ settle_left core
    pub falls : is_idle (worked n told) ≡ false → settle_left left < settle_left core
    pub run : run_left left ≤ run_left core
    pub quiet : is_idle (worked n told) ≡ true
        → (work_rule core n ≡ IsIdle) × (left ≡ record core { site = left.site })

pub record TurnsTo (terms : Terms) (core : CoreData) (turn : Turn) (left : CoreData) : Type 0 where
  pub steps : List Step
  pub chain : WorkTurn terms (recorders_of core.config) true core steps left (AtTurnEnd turn left)
  pub last : turn.answer ≡ of_last steps
  pub leaves : turn.answer ≡ Done → LeavesLess core turn.idle left
  pub history_ : left.history ≡ core.history

-- behind a round of a core in which nothing was left to do the run has less left, where some host
-- had a call
abbrev pub RunFalls : List ScriptData → CoreData → CoreData → Type 0
RunFalls scripts core left =
    IsSettled core → core.stopped ≡ None
    → has_call (calls_of scripts) (hosts_of scripts) core ≡ true
    → run_left left < run_left core
