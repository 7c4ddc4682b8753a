-- What running a job in threads promises.
use Rattle.std.specs.Prelude.{◌≡◌, ◌⊎◌, Bool, List, [], length, Option, None, Some, is_some}
use Rattle.mss_base.specs.Configs.{ConfigData}
use Rattle.seen_book.specs.Books.{AreOfThese}
use Rattle.core_state.specs.CoreValue.{CoreData, DevicesSeen}
use Rattle.core_state.specs.SessionData.{SessionData, data_of}
use Rattle.core_state.specs.Sessions.{session_data}
use Rattle.mss_run.specs.Led.{LeadsTo}
use Rattle.mss_run.specs.Runs.{EndData, LeavesEnds, hosts_of, run_answer}
use Rattle.mss_run.specs.declared.ends.RunAnswer.{RunAnswer}
use Rattle.mss_run.specs.declared.ends.RunAnswer.TheVariants as answer
use Rattle.serial_driver.specs.declared.answer.DriveAnswer.{DriveAnswer}
use Rattle.serial_driver.specs.declared.answer.DriveAnswer.TheVariants as ended
use Rattle.session_report.specs.Answers.{Answer}
use Rattle.session_report.specs.Parties.{Stream}
use Rattle.volume_copy.specs.Copies.{AskedCopy}
use Rattle.job_runs.specs.Copies.{IsToldWhole, JobAsked}
use Rattle.job_runs.specs.Parties.{Devices, since, until}
use Rattle.job_runs.specs.Runs.{FollowScripts, IsBegun, IsPromised, IsReportOf, IsUntaken}
use Rattle.job_runs.specs.declared.run.Outcome.{Outcome}
use Rattle.job_runs.specs.declared.run.Outcome.TheVariants.{Untaken, Ran}

-- what ended a run in threads, as it is told of every session
abbrev pub ended_as : RunAnswer → DriveAnswer
ended_as answer.Done = ended.Done
ended_as (answer.Stopped fault) = ended.Stopped fault
ended_as answer.CommandLimit = ended.CommandLimit
ended_as answer.Memory = ended.Memory

-- it ended so; or memory ran out for the rest of a copy, behind a run that ended by itself
abbrev pub EndsAs : Option AskedCopy → DriveAnswer → DriveAnswer → Type 0
EndsAs None run now = now ≡ run
EndsAs (Some copy) run now = (now ≡ run) ⊎ (IsToldWhole run × (now ≡ ended.Memory))

-- a session from the core that a restart made of the devices to a later one, by events of hosts and
-- recorders, one after the other; copies: whether a copy is taken meanwhile
pub record IsLedOn (tells : Type 0) (copies : Bool) (config : ConfigData) (was now : DevicesSeen)
    (s : SessionData) : Type 0 where
  pub began : CoreData
  pub begun : IsBegun tells config was began
  pub left : CoreData
  pub led : LeadsTo tells copies began left
  pub devices_ : left.site ≡ now
  pub session : data_of left ≡ s

-- A session of a job whose hosts and recorders went at once, each in a thread: what every session
-- promises, and how its hosts ended.
pub record IsPlayedAtOnce (asked : JobAsked) (site : Devices) (end : DriveAnswer)
    (hosts : List EndData) (s : SessionData) : Type 0 where
  pub led : IsLedOn site.tells (is_some asked.copy) asked.job.config site.was site.now s
  pub promised : IsPromised asked.job.config site s
  -- each entry is of a host of the job
  pub of_hosts : AreOfThese (hosts_of asked.job.hosts) s.history
  -- each entry is a call of its host's script, in order, also one that stopped the session
  pub follow : FollowScripts asked.job.hosts s.history
  -- the places of what each was told, which follows its script; for want of memory there are none,
  -- and no entry
  pub ends : LeavesEnds s.history asked.job.hosts hosts
  pub ended_ : EndsAs asked.copy
      (ended_as (run_answer s.stopped (length s.history) (length asked.job.hosts) hosts)) end

-- such a session and its report
pub record IsSessionAtOnce (asked : JobAsked) (site : Devices) (sink : Stream) (end : DriveAnswer)
    (told : Answer) (hosts : List EndData) (s : SessionData) : Type 0 where
  -- the devices when it ended
  pub mid : DevicesSeen
  pub played : IsPlayedAtOnce asked (until site mid) end hosts s
  pub report : IsReportOf asked site.was.told (since site mid) sink end told s

-- the site isn't taken up, or a session was run, and its report was put
abbrev pub EndsAtOnce : JobAsked → Devices → Stream → Outcome → List EndData → Type 0
EndsAtOnce asked site sink (Untaken why) hosts = IsUntaken asked.job site sink why × (hosts ≡ [])
EndsAtOnce asked site sink (Ran session end told) hosts =
    IsSessionAtOnce asked site sink end told hosts (session_data session)
