-- What running a job on a site promises.
use Rattle.std.specs.Prelude.{◌≡◌, ◌⊎◌, ◌≤◌, ℕ, true, List, [], length, Option, None, Some, is_some, Result, Ok, Err}
use Rattle.mss_base.specs.Configs.{ConfigData}
use Rattle.mss_base.specs.Content.{Content, SiteLog, content}
use Rattle.mss_base.specs.declared.site.Site.{Ghosts}
use Rattle.ckd_plain.specs.History.{EntryData}
use Rattle.channel_program.specs.Script.{Follows, FollowsToEnd}
use Rattle.fault_queue.specs.Requests.{RequestsData}
use Rattle.victim_choice.specs.declared.choose.Candidate.{Candidate}
use Rattle.job_text.specs.Jobs.{JobData, ScriptData}
use Rattle.volume_table.specs.Listed.{row_in_list}
use Rattle.volume_table.specs.Row.{RowValue}
use Rattle.shown_volumes.specs.Shown.{rows_of}
use Rattle.shown_volumes.specs.declared.refused.Refused.{Refused}
use Rattle.core_state.specs.Chains.{Reading, Terms}
use Rattle.core_state.specs.Counted.{IsCounted}
use Rattle.core_state.specs.CoreValue.{CoreData, DevicesSeen}
use Rattle.core_state.specs.SessionData.{SessionData, data_of}
use Rattle.core_state.specs.Sessions.{session_data}
use Rattle.core_restart.specs.Begins.{Begins}
use Rattle.core_restart.specs.Opening.{OpensSynced, Restarts, opened_in}
use Rattle.core_restart.specs.TakingUp.{StopsStart}
use Rattle.plain_sessions.specs.Sessions.{BeganOver, IsPlainSession, StopsAnywhere, plain_volumes}
use Rattle.serial_driver.specs.Drives.{IsFull, RunsOn}
use Rattle.script_places.specs.Scripts.{exchanges_of, script_of}
use Rattle.serial_driver.specs.declared.answer.DriveAnswer.{DriveAnswer}
use Rattle.serial_driver.specs.declared.answer.DriveAnswer.TheVariants as ended
use Rattle.session_report.specs.Answers.{Answer, IsPut, SinkCounts}
use Rattle.session_report.specs.Parties.{Stream, IsUntouched, ToldDevices, seen_with}
use Rattle.session_report.specs.Parts.{IsUnread}
use Rattle.session_report.specs.Reports.{Ending, Matter, IsReported, finished, stopped}
use Rattle.session_report.specs.Reports.{BreaksOff, Frames, OnRead, SiteCounts}
use Rattle.session_report.specs.Reports.{opening_text, report_matter}
use Rattle.session_report.specs.Summaries.{summary_text}
use Rattle.session_report.specs.declared.fault.ReportFault.TheVariants as report_fault
use Rattle.session_report.specs.declared.reporting.Last.{Last}
use Rattle.session_report.specs.declared.reporting.Last.TheVariants.{End, Limit}
use Rattle.volume_copy.specs.Copies.{AskedCopy}
use Rattle.job_runs.specs.Copies.{IsBehind, IsToldWhole, JobAsked, job_alone}
use Rattle.job_runs.specs.Parties.{Devices, since, until, told_devices}
use Rattle.job_runs.specs.declared.run.Outcome.{Outcome}
use Rattle.job_runs.specs.declared.run.Outcome.TheVariants.{Untaken, Ran}

-- ---- how a session begins, and how it goes

-- a start that isn't taken up, for this reason: what a restart made of the devices, and what a stop within it leaves
pub record RefusesStart (config : ConfigData) (site : Devices) (why : Refused) : Type 0 where
  pub restarts : Restarts site.tells config site.was site.now (Err why)
  pub stops : site.tells → StopsStart config site.was.told site.now.told (Err why)

-- a restart over the devices as they were made this core, of which nothing has happened
pub record IsBegun (tells : Type 0) (config : ConfigData) (was : DevicesSeen) (core : CoreData)
    : Type 0 where
  pub begins : Begins config tt core.site.writes core.site.faults core
  pub opened : OpensSynced tells config was core.site (Ok (opened_in core))
  pub over : tells → BeganOver config was core

-- it went to its end, and memory ran out for the rest of the copy
pub record LacksForCopy (terms : Terms) (scripts : List ScriptData) (turns : List ℕ)
    (began left : CoreData) : Type 0 where
  pub copies_ : terms.copies ≡ true
  pub end : DriveAnswer
  pub runs : RunsOn terms scripts turns began end left

-- from a core that has begun to one that ended so: by the turns and then by rounds, or not at all,
-- where memory ran out before
abbrev pub Goes : Terms → List ScriptData → List ℕ → CoreData → DriveAnswer → CoreData → Type 0
Goes terms scripts turns began ended.Memory left =
    (left ≡ began) ⊎ RunsOn terms scripts turns began ended.Memory left
    ⊎ LacksForCopy terms scripts turns began left
Goes terms scripts turns began end left = RunsOn terms scripts turns began end left

-- whether a session was stopped, and by which fault
abbrev pub IsHalted : DriveAnswer → Option ℕ → Type 0
IsHalted (ended.Stopped fault) kept = kept ≡ Some fault
IsHalted _ kept = kept ≡ None

-- the core that a session began with, and the one that it came to; behind it the rest of a copy may
-- be read
pub record IsDriven (terms : Terms) (job : JobData) (turns : List ℕ) (was now : DevicesSeen)
    (end : DriveAnswer) (s : SessionData) : Type 0 where
  pub began : CoreData
  pub begun : IsBegun terms.tells job.config was began
  pub left : CoreData
  pub goes : Goes terms job.hosts turns began end left
  pub devices_ : Reading terms.copies terms.tells left (λ read. read.site ≡ now)
  pub session : data_of left ≡ s

-- ---- what is told

-- the last line that is due, if anything is told
abbrev pub last_of : DriveAnswer → Option Last
last_of ended.Memory = None
last_of ended.CommandLimit = Some Limit
last_of _ = Some End

-- A text of a session that ended so was put, with the ending that is due. Where memory ran out
-- before, nothing was put.
abbrev pub TellsOf : (Ending → Type 0) → DriveAnswer → Stream → Answer → Type 0
TellsOf put ended.Done sink told = put (finished End)
TellsOf put ended.CommandLimit sink told = put (finished Limit)
TellsOf put (ended.Stopped fault) sink told = put (stopped fault)
TellsOf put ended.Memory sink told = (told ≡ Err report_fault.Memory) × IsUntouched sink

-- its report
abbrev pub IsTold : Matter → DriveAnswer → ToldDevices → Stream → Answer → Type 0
IsTold m end site sink told = TellsOf (λ ending. IsReported m ending site sink told) end sink told

-- its title, entries, changes of rows and last line, whatever the devices tell
abbrev pub IsFramed : SessionData → DriveAnswer → Stream → Answer → Type 0
IsFramed s end sink told = TellsOf
    (λ ending. sink.tells → Frames (opening_text s) ending sink.was sink.now told) end sink told

-- its summary, where so many programs were asked for
abbrev pub IsSummed : ℕ → SessionData → DriveAnswer → Stream → Answer → Type 0
IsSummed programs s end sink told =
    TellsOf (λ ending. IsPut (Ok tt) (summary_text programs s ending) sink told) end sink told

-- the session, its changes of rows, the plain volumes of the job after its history, and what stands
-- behind them
abbrev pub matter_of : JobData → Content → SessionData → List ℕ → Matter
matter_of job c s behind =
    report_matter s job.config.volumes (plain_volumes job.config c s.history) behind

-- the devices were read at most
pub record OnlyRead (tells : Type 0) (from to : DevicesSeen) : Type 0 where
  pub told_ : tells → to.told ≡ from.told
  pub writes_ : to.writes ≡ from.writes
  pub later : from.faults ≤ to.faults

-- ---- a session

-- each host's entries, in order, follow its script; a host that isn't in the job has none
abbrev pub FollowScripts : List ScriptData → List EntryData → Type 0
FollowScripts scripts history = (h : ℕ) → Follows (script_of scripts h) (exchanges_of h history)

abbrev pub FollowToEnd : List ScriptData → List EntryData → Type 0
FollowToEnd scripts history =
    (h : ℕ) → FollowsToEnd (script_of scripts h) (exchanges_of h history)

-- each entry has its mark, and there are 4,096 at most
pub record IsMarked (s : SessionData) : Type 0 where
  pub each : length s.marks ≡ length s.history
  pub few : length s.history ≤ 4096

-- What every session promises, from the devices that were handed in to those when it ended,
-- however its events came.
pub record IsPromised (config : ConfigData) (site : Devices) (s : SessionData) : Type 0 where
  -- no call had failed when it began
  pub began : s.first_faults ≡ site.was.faults
  -- marks, numbers and kept faults, with the requests that were left
  pub requests : RequestsData
  pub counted : IsCounted site.now.writes site.now.faults requests s
  pub marked : IsMarked s
  pub plain : site.tells → IsPlainSession config site.was.told site.now.told s
  pub stops : site.tells → StopsAnywhere config site.was.told site.now.told s

-- on which terms its events follow each other
abbrev pub terms_for : (List Candidate → ℕ → Type 0) → Type 0 → Option AskedCopy → Terms
terms_for may tells copy = record { tells = tells; may = may; copies = is_some copy }

-- A session of a job: how it went by the turns and by rounds, and what it promises.
pub record IsPlayed (may : List Candidate → ℕ → Type 0) (asked : JobAsked) (turns : List ℕ)
    (site : Devices) (end : DriveAnswer) (s : SessionData) : Type 0 where
  pub driven : IsDriven (terms_for may site.tells asked.copy) asked.job turns site.was site.now end s
  pub promised : IsPromised asked.job.config site s
  pub follow : FollowScripts asked.job.hosts s.history
  pub reach : end ≡ ended.Done → FollowToEnd asked.job.hosts s.history
  pub full : end ≡ ended.CommandLimit → IsFull asked.job.hosts s.history
  pub halts : IsHalted end s.stopped

-- the session, if one was run, wasn't stopped
abbrev pub GoesUnstopped : Outcome → Type 0
GoesUnstopped (Untaken why) = Unit {0}
GoesUnstopped (Ran session end told) = (session_data session).stopped ≡ None

-- the rows of a session's volumes; while it isn't stopped, just those that its devices show
pub record AreRowsOf (tells : Type 0) (log : SiteLog) (stop : Option ℕ)
    (rows : List (Option RowValue)) : Type 0 where
  pub shown_ : tells → stop ≡ None → row_in_list rows ≡ rows_of (content log)

-- a session's report was put, over devices of which it was read at most
pub record IsReportOf (asked : JobAsked) (was : SiteLog) (site : Devices) (sink : Stream)
    (end : DriveAnswer) (told : Answer) (s : SessionData) : Type 0 where
  pub read : OnlyRead site.tells site.was site.now
  -- what stands behind the volumes, where they are told
  pub behind : List ℕ
  pub behind_ : IsToldWhole end → IsBehind site.tells asked.copy
      (plain_volumes asked.job.config (content was)) s site.was.faults behind
  pub report : IsTold (matter_of asked.job (content was) s behind) end (told_devices site) sink told
  pub framed : IsFramed s end sink told
  -- where all went well, both counts of faults stay
  pub counted : SiteCounts site.was.faults site.now.faults told
  pub puts : SinkCounts sink.faults_was sink.faults_now told

-- such a session and its report, from the devices that were handed in to those that are handed back
pub record IsSessionOf (may : List Candidate → ℕ → Type 0) (asked : JobAsked) (turns : List ℕ)
    (site : Devices) (sink : Stream) (end : DriveAnswer) (told : Answer) (s : SessionData)
    : Type 0 where
  -- the devices when it ended
  pub mid : DevicesSeen
  pub played : IsPlayed may asked turns (until site mid) end s
  pub report : IsReportOf asked site.was.told (since site mid) sink end told s

-- what became of a job is this session, that ended so, and its report was put
abbrev pub TellsSession : JobAsked → SiteLog → Devices → Stream → DriveAnswer → SessionData
    → Outcome → Type 0
TellsSession asked was site sink end s (Untaken why) = ⊥
TellsSession asked was site sink end s (Ran session last told) =
    (session_data session ≡ s) × (last ≡ end) × IsReportOf asked was site sink end told s

-- such a session of a load, and its summary
pub record IsLoadOf (may : List Candidate → ℕ → Type 0) (job : JobData) (programs : ℕ)
    (turns : List ℕ) (site : Devices) (sink : Stream) (end : DriveAnswer) (told : Answer)
    (s : SessionData) : Type 0 where
  pub played : IsPlayed may (job_alone job) turns site end s
  pub summed : IsSummed programs s end sink told
  pub puts : SinkCounts sink.faults_was sink.faults_now told

-- the site isn't taken up, and nothing was put
pub record IsUntaken (job : JobData) (site : Devices) (sink : Stream) (why : Refused) : Type 0 where
  pub opens : RefusesStart job.config site why
  pub unput : IsUntouched sink

-- the site isn't taken up, or a session was run, and its report was put
abbrev pub JobEnds : (List Candidate → ℕ → Type 0) → JobAsked → List ℕ → Devices → Stream → Outcome
    → Type 0
JobEnds may asked turns site sink (Untaken why) = IsUntaken asked.job site sink why
JobEnds may asked turns site sink (Ran session end told) =
    IsSessionOf may asked turns site sink end told (session_data session)

-- or its summary
abbrev pub LoadEnds : (List Candidate → ℕ → Type 0) → JobData → ℕ → List ℕ → Devices → Stream
    → Outcome → Type 0
LoadEnds may job programs turns site sink (Untaken why) = IsUntaken job site sink why
LoadEnds may job programs turns site sink (Ran session end told) =
    IsLoadOf may job programs turns site sink end told (session_data session)

-- ---- a report that broke off

-- what is so of a session whose report tells a failed read, with the count behind it
abbrev pub OnUnread : Outcome → (SessionData → ℕ → Type 0) → Type 0
OnUnread (Untaken why) P = Unit {0}
OnUnread (Ran session end told) P = OnRead told (P (session_data session))

-- a session's report broke off before a track of which a read may fail, by what was so of the site
-- that was handed in
pub record ReportBrokeOff {S : Type 0} (g : Ghosts S) (s : S) (job : JobData)
    (site : Devices) (sink : Stream) (session : SessionData) (fault : ℕ) : Type 0 where
  pub going : session.stopped ≡ None
  -- the rows of the devices, of which one shows that track
  pub rows : List (Option RowValue)
  pub shown_ : site.tells → row_in_list rows ≡ rows_of (content site.now.told)
  pub off : BreaksOff (IsUnread g s (row_in_list rows) job.config.volumes)
      (matter_of job (content site.was.told) session []) (seen_with (told_devices site) sink) fault
