-- A copy of a volume beside a session, and what its report tells of it.
use Rattle.std.specs.Prelude.{◌≡◌, ℕ, true, is_some, min, List, [], ◌++◌, length, take}
use Rattle.std.specs.Prelude.{Option, Some, None, IsSome, IfSome}
use Rattle.mss_base.specs.Counts.{IsFaultWithin}
use Rattle.mss_base.specs.Configs.{ConfigData}
use Rattle.mss_base.specs.Content.{SiteLog, content}
use Rattle.ckd_track.specs.Data.{Volumes}
use Rattle.ckd_plain.specs.History.{EntryData}
use Rattle.job_text.specs.Jobs.{JobData}
use Rattle.core_state.specs.SessionData.{SessionData}
use Rattle.plain_sessions.specs.Sessions.{plain_start}
use Rattle.serial_driver.specs.declared.answer.DriveAnswer.{DriveAnswer}
use Rattle.serial_driver.specs.declared.answer.DriveAnswer.TheVariants as ended
use Rattle.report_text.specs.Texts.{tracks_text}
use Rattle.session_report.specs.CopyTexts.{copied_line, failed_line, no_volume_line}
use Rattle.session_report.specs.Reports.{TRACKS_OF_VOLUME}
use Rattle.core_state.specs.Counted.{IsLast, fault_at}
use Rattle.volume_copy.specs.declared.copier.CopyState.{CopyState}
use Rattle.volume_copy.specs.declared.copier.CopyState.TheVariants.{Failed}
use Rattle.volume_copy.specs.Beside.{IsFinished, asked_copy}
use Rattle.job_runs.specs.declared.run.Played.{Played}
use Rattle.core_state.specs.Sessions.{session_data}
use Rattle.mss_base.specs.declared.site.Site.{Ghosts}
use Rattle.volume_copy.specs.Copies.{AskedCopy, CopyData, Stands}

-- what is asked of a run: a job, and a copy of a volume beside it, or none
pub record JobAsked : Type 0 where
  pub job : JobData
  pub copy : Option AskedCopy

-- a job alone
abbrev pub job_alone : JobData → JobAsked
job_alone job = record { job = job; copy = None }

-- a job, with the copy for which there is a copier
abbrev pub job_with : JobData → Option CopyData → JobAsked
job_with job copier = record { job = job; copy = asked_copy copier }

-- ---- the copy

-- the volumes of a session that ended so are told, and its copy with them
abbrev pub IsToldWhole : DriveAnswer → Type 0
IsToldWhole ended.Done = Unit {0}
IsToldWhole ended.CommandLimit = Unit {0}
IsToldWhole _ = ⊥

-- memory ran out for the rest of a copy, behind a run that ended by itself
pub record EndsForCopy (copier : Option CopyData) (end now : DriveAnswer) : Type 0 where
  pub copies_ : is_some (asked_copy copier) ≡ true
  pub by_itself : IsToldWhole end
  pub memory : now ≡ ended.Memory

-- a call failed in the session, and no entry keeps its fault, unless the count of faults stands at
-- its last value; now: that count at the session's end
pub record FailedUntold (s : SessionData) (now fault : ℕ) : Type 0 where
  pub within : IsFaultWithin s.first_faults now fault
  pub own : (place : ℕ) → fault_at s.history place ≡ Some fault → IsLast fault

abbrev pub FailedOf : SessionData → ℕ → CopyState → Type 0
FailedOf s now (Failed fault) = FailedUntold s now fault
FailedOf s now _ = Unit {0}

-- what a finished copier holds of a session over these devices; faults: their count at its end
pub record IsCopyOf (tells : Type 0) (config : ConfigData) (was : SiteLog) (faults : ℕ)
    (s : SessionData) (c : CopyData) : Type 0 where
  pub stands : tells → Stands c.state c (plain_start config (content was)) s.history
  pub point_ : c.point ≡ min c.after_ (length s.history)
  pub failed : FailedOf s faults c.state
  pub finished : IsFinished c.state

-- what a session that ended so holds of its copy, if one was asked for
abbrev pub HoldsCopy : {S : Type 0} → Ghosts S → ConfigData → SiteLog → Played S → Type 0
HoldsCopy g config was p = IsToldWhole p.end
    → IfSome p.copier (IsCopyOf g.tells config was (g.faults p.site) (session_data p.session))

-- ---- what is told of it

-- The plain volumes after each history are given, and the session. The copy is of the
-- volume as it was after the first entries, as many as were asked for, or all. Or there was no such
-- volume; or a call failed of which no entry tells, a read for the copy, and this is the count of
-- faults behind it.
pub data IsCopyTold (copy : AskedCopy) (volumes : List EntryData → Volumes) (s : SessionData)
    (faults : ℕ) (text : List ℕ) : Type 0 where
  copied : (m : ℕ) → m ≡ min copy.after_ (length s.history)
      → IsSome ((volumes []).serial copy.volume)
      → text ≡ copied_line copy.volume m
      ++ tracks_text ((volumes (take m s.history)).track copy.volume) TRACKS_OF_VOLUME
      → IsCopyTold copy volumes s faults text
  no_volume : (volumes []).serial copy.volume ≡ None → text ≡ no_volume_line copy.volume
      → IsCopyTold copy volumes s faults text
  failed : (fault : ℕ) → FailedUntold s faults fault
      → IsSome ((volumes []).serial copy.volume) → text ≡ failed_line copy.volume fault
      → IsCopyTold copy volumes s faults text

-- what stands behind the volumes of a report: nothing, unless a copy was asked for
abbrev pub IsBehind : Type 0 → Option AskedCopy → (List EntryData → Volumes) → SessionData → ℕ
    → List ℕ → Type 0
IsBehind tells None volumes s faults text = text ≡ []
IsBehind tells (Some copy) volumes s faults text =
    tells → IsCopyTold copy volumes s faults text
