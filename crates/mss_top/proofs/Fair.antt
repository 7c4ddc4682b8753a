-- Where no call of a device fails, whatever is told is complete.
use Rattle.std.proofs.Common.{◌≡◌, ◌≤◌, ℕ, List, Option, Some, None, Result, Ok, Err, sym, ◌∙◌, subst, arith}
use Rattle.mss_base.specs.Configs.{ConfigData}
use Rattle.mss_base.specs.Content.{Content, content}
use Rattle.mss_base.specs.Counts.{Rises}
use Rattle.job_text.specs.Grammar.{BadLine}
use Rattle.job_text.specs.Jobs.{JobData}
use Rattle.report_text.specs.declared.one_line.OneLine.{OneLine}
use Rattle.report_text.specs.declared.one_line.OneLine.TheVariants as line
use Rattle.shown_volumes.specs.declared.refused.Refused.{Refused}
use Rattle.shown_volumes.specs.declared.refused.Refused.TheVariants as refused
use Rattle.mss_restart.specs.Answers.{OpensExactly}
use Rattle.mss_restart.specs.declared.opening.Opened.{Opened}
use Rattle.core_restart.specs.TakingUp.{IsFaultless, NoneFailed}
use Rattle.core_restart.proofs.Syncing.{restarts_exactly}
use Rattle.core_state.specs.CoreValue.{DevicesSeen}
use Rattle.core_state.specs.SessionData.{SessionData}
use Rattle.serial_driver.specs.declared.answer.DriveAnswer.{DriveAnswer}
use Rattle.serial_driver.specs.declared.answer.DriveAnswer.TheVariants as ended
use Rattle.session_report.specs.Answers.{Answer, IsPut, whole as put_whole, broken, cut}
use Rattle.session_report.specs.Parties.{Stream, IsUntouched, ToldDevices, seen_with}
use Rattle.session_report.specs.Summaries.{summary_text}
use Rattle.session_report.specs.declared.reporting.Last.{Last}
use Rattle.session_report.specs.declared.reporting.Last.TheVariants.{End, Limit}
use Rattle.session_report.specs.Reports.{Ending, HasReason, IsReported, Matter, Telling, finished, told_answer, told_text, whole, unread}
use Rattle.volume_copy.specs.Copies.{AskedCopy}
use Rattle.job_runs.specs.Parties.{Devices, told_devices, since as devices_since, until as devices_until}
use Rattle.job_runs.specs.Runs.{IsHalted, IsPromised, IsReportOf, IsSummed, TellsOf, matter_of}
use Rattle.mss_top.specs.Admission.{IsJobText, IsNoJob}
use Rattle.mss_top.specs.Serial.{Closes, IsComplete, IsUntaken, NothingFails, Output, since, until}
use Rattle.mss_top.specs.Ending.{line_of}
use Rattle.mss_top.specs.Status.{IsLinePut, whole as line_whole, broken as line_broken, line_status, status_of, end_status}
use Rattle.mss_top.specs.declared.status.Status.{Status}

-- no count between rises where none failed
pub no_rise : (was now before after : ℕ) → NoneFailed was now → was ≤ before → after ≤ now → Rises before after → ⊥
no_rise was now before after none from to rose = absurd (omega (arith, none.same, none.could_rise, from, to, rose))

pub line_complete : (said : OneLine) (sink : Stream) (told : Status) → (Rises sink.faults_was sink.faults_now → ⊥) → IsComplete (line_status said) → IsLinePut said sink told → IsComplete told
line_complete said sink told none complete (line_whole is counted bytes) = subst IsComplete (sym is) complete
line_complete said sink told none complete (line_broken is rose front) = absurd (none rose)

-- content without a fault is refused for want of memory alone
refusal_complete : (config : ConfigData) (c : Content) (why : Refused) → IsFaultless config c → OpensExactly {T = Opened} config c (Err why) → IsComplete (line_status (line_of why))
refusal_complete config c refused.Memory none is = tt
refusal_complete config c (refused.RowUnread volume fault) none is = absurd is
refusal_complete config c (refused.Stopped fault) none is = absurd is
refusal_complete config c why none is = absurd (let both : None ≡ Some why = sym none ∙ is in cc)

-- what was told of a session
module _ (m : Matter) (ending : Ending) (end : DriveAnswer) (site : ToldDevices) (sink : Stream) (report : Answer)
    (site_none : Rises site.faults_was site.faults_now → ⊥) (sink_none : Rises sink.faults_was sink.faults_now → ⊥) (complete : IsComplete (end_status end)) where
  telling_complete : (telling : Telling) → HasReason ending m.volumes site.faults_was site.faults_now telling → IsPut (told_answer telling) (told_text m telling) (seen_with site sink) report → IsComplete (status_of end report)
  telling_complete (whole e) reason (put_whole is bytes) = subst (λ (a : Answer). IsComplete (status_of end a)) (sym is) complete
  telling_complete (unread place tracks fault) reason (put_whole is bytes) = absurd (site_none reason.3.rises)
  telling_complete telling reason (broken is rose front) = absurd (sink_none rose)
  telling_complete telling reason (cut is counted front) = subst (λ (a : Answer). IsComplete (status_of end a)) (sym is) tt

  report_complete : IsReported m ending site sink report → IsComplete (status_of end report)
  report_complete is = telling_complete is.telling is.reason is.put

-- a summary that was put
summary_complete : (text : List ℕ) (end : DriveAnswer) (sink : Stream) (answer : Answer) → (Rises sink.faults_was sink.faults_now → ⊥) → IsComplete (end_status end) → IsPut (Ok tt) text sink answer → IsComplete (status_of end answer)
summary_complete text end sink answer none complete (put_whole is bytes) = subst (λ (a : Answer). IsComplete (status_of end a)) (sym is) complete
summary_complete text end sink answer none complete (broken is rose front) = absurd (none rose)
summary_complete text end sink answer none complete (cut is counted front) = subst (λ (a : Answer). IsComplete (status_of end a)) (sym is) tt

-- of an input that has a job, and of which no take failed, no other is told
module _ (job : JobData) (input : Stream) (none_failed : NoneFailed input.faults_was input.faults_now) where
  pub input_complete : (said : OneLine) → input.tells → IsJobText input.was job → IsNoJob input said → IsComplete (line_status said)
  input_complete line.InputFault tells asks cause = absurd (no_rise _ _ _ _ none_failed (omega arith) (omega arith) cause)
  input_complete (line.JobRefused n kind) tells asks cause =
      let both : ◌≡◌ {A = Result JobData BadLine} (Err (record { line = n; kind = kind })) (Ok job) = sym (cause.text_ tells) ∙ asks in absurd cc
  input_complete line.WantOfMemory tells asks cause = tt
  input_complete line.WordsRefused tells asks cause = absurd cause
  input_complete (line.RestartRefused why) tells asks cause = absurd cause

module _ (job : JobData) (input : Stream) (site : Devices) (sink : Stream) (fair : NothingFails job input site sink) where
  pub no_job_complete : (said : OneLine) → input.tells → IsJobText input.was job → IsNoJob input said → IsComplete (line_status said)
  no_job_complete = input_complete job input fair.input_none

  pub untaken_complete : (said : OneLine) → IsUntaken job site said → IsComplete (line_status said)
  untaken_complete said untaken = subst (λ (l : OneLine). IsComplete (line_status l)) (sym untaken.line_)
      (refusal_complete job.config (content site.was.told) untaken.why fair.faultless (restarts_exactly site.tells job.config site.was site.now (Err untaken.why) untaken.opens.restarts fair.can_see fair.site_none.same fair.site_none.could_rise))

  pub sink_none : Rises sink.faults_was sink.faults_now → ⊥
  sink_none rose = no_rise _ _ _ _ fair.sink_none (omega arith) (omega arith) rose

  -- nothing was put behind what was told, of which no put failed
  puts_none : (mid : Output) → IsUntouched (since sink mid) → Rises sink.faults_was mid.faults → ⊥
  puts_none mid none rose = no_rise _ _ _ _ fair.sink_none (omega arith) (omega (arith, none.faults_)) rose

  module _ (told : Status) (mid : Output) where
    -- a session that wasn't stopped, and was told so
    module _ (kept : Option ℕ) (put : Ending → Type 0) (answer : Answer) (not_stopped : (fault : ℕ) → kept ≡ Some fault → ⊥)
        (telling : (last : Last) (end : DriveAnswer) → IsComplete (end_status end) → (Rises sink.faults_was mid.faults → ⊥) → put (finished last) → IsComplete (status_of end answer)) where
      ended_complete : (end : DriveAnswer) → IsHalted end kept → TellsOf put end (until sink mid) answer → Closes end answer (since sink mid) told → IsComplete told
      ended_complete ended.Done halts tells closes = subst IsComplete (sym closes.1) (telling End ended.Done tt (puts_none mid closes.0) tells)
      ended_complete ended.CommandLimit halts tells closes = subst IsComplete (sym closes.1) (telling Limit ended.CommandLimit tt (puts_none mid closes.0) tells)
      ended_complete (ended.Stopped fault) halts tells closes = absurd (not_stopped fault halts)
      ended_complete ended.Memory halts tells closes = line_complete line.WantOfMemory (since sink mid) told
          (λ rose. no_rise _ _ _ _ fair.sink_none (omega (arith, tells.1.faults_)) (omega arith) rose) tt closes

    module _ (end : DriveAnswer) (answer : Answer) (s : SessionData) (halts : IsHalted end s.stopped) (closes : Closes end answer (since sink mid) told) where
      -- no call of the devices failed as far as the session went
      going : (at : DevicesSeen) → at.faults ≤ site.now.faults → IsPromised job.config (devices_until site at) s → (fault : ℕ) → s.stopped ≡ Some fault → ⊥
      going at later is fault stopped = let stop = (is.counted.stop fault stopped).within in no_rise _ _ _ _ fair.site_none (omega (arith, is.began)) (omega (arith, stop.past, later)) stop.rises

      -- its report was put
      pub reported_complete : (copy : Option AskedCopy) (at : DevicesSeen) → IsPromised job.config (devices_until site at) s → IsReportOf (record { job = job; copy = copy }) site.was.told (devices_since site at) (until sink mid) end answer s → IsComplete told
      reported_complete copy at promised is =
          ended_complete s.stopped (λ (ending : Ending). IsReported (matter_of job (content site.was.told) s is.behind) ending (told_devices (devices_since site at)) (until sink mid) answer) answer (going at is.read.later promised)
          (λ last end complete puts put. report_complete (matter_of job (content site.was.told) s is.behind) (finished last) end (told_devices (devices_since site at)) (until sink mid) answer
          (λ rose. no_rise _ _ _ _ fair.site_none (omega (arith, promised.began, promised.counted.began)) (omega arith) rose) puts complete put)
          end halts is.report closes

      -- its summary was
      pub summed_complete : (programs : ℕ) → IsPromised job.config site s → IsSummed programs s end (until sink mid) answer → IsComplete told
      summed_complete programs promised is =
          ended_complete s.stopped (λ (ending : Ending). IsPut (Ok tt) (summary_text programs s ending) (until sink mid) answer) answer (going site.now (omega arith) promised)
          (λ last end complete puts put. summary_complete (summary_text programs s (finished last)) end (until sink mid) answer puts complete put)
          end halts is closes
