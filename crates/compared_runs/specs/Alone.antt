-- A session of a job on devices of its own.
use Rattle.std.specs.Prelude.{◌≡◌, ℕ, List, []}
use Rattle.mss_base.specs.Content.{content}
use Rattle.mss_base.specs.Zeros.{zeros}
use Rattle.mss_base.specs.declared.place.UnitNo.{UnitNo}
use Rattle.victim_choice.specs.declared.choose.Candidate.{Candidate}
use Rattle.job_text.specs.Jobs.{JobData}
use Rattle.core_state.specs.CoreValue.{DevicesSeen}
use Rattle.core_state.specs.SessionData.{SessionData}
use Rattle.serial_driver.specs.declared.answer.DriveAnswer.{DriveAnswer}
use Rattle.serial_driver.specs.declared.answer.DriveAnswer.TheVariants as ended
use Rattle.job_runs.specs.Copies.{job_alone}
use Rattle.job_runs.specs.Runs.{IsPlayed}

-- devices of zeros, to which nothing was done
pub record AreBlank (d : DevicesSeen) : Type 0 where
  pub log_ : d.told.log ≡ []
  pub zeros_ : (unit : UnitNo) (block : ℕ) → content d.told unit block ≡ zeros
  pub writes_ : d.writes ≡ 0
  pub faults_ : d.faults ≡ 0

-- A session of a job by a chooser, from blank devices of which no call failed, by rounds alone.
-- `tells` is whether clauses may speak of the devices; they may.
pub record IsAlone (tells : Type 0) (may : List Candidate → ℕ → Type 0) (job : JobData)
    (end : DriveAnswer) (s : SessionData) : Type 0 where
  pub can_see : tells
  pub was : DevicesSeen
  pub now : DevicesSeen
  pub blank : AreBlank was
  pub none_failed : now.faults ≡ 0
  pub played : IsPlayed may (job_alone job) [] (record { tells = tells; was = was; now = now }) end s

-- all scripts were followed to their ends, or a host has a call at the limit of entries
abbrev pub IsOver : DriveAnswer → Type 0
IsOver ended.Done = Unit {0}
IsOver ended.CommandLimit = Unit {0}
IsOver _ = ⊥
