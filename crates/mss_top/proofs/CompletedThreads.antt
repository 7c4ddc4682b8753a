-- A run in threads without a fault of a device is complete.
use Rattle.std.proofs.Common.{◌≡◌, inl, inr, List, Option, Some, None, Result, Ok, sym, ◌∙◌, subst}
use Rattle.command_words.specs.declared.command.Command.{Command}
use Rattle.command_words.specs.declared.command.CopyAsked.{CopyAsked}
use Rattle.job_text.specs.Grammar.{BadLine}
use Rattle.job_text.specs.Jobs.{JobData}
use Rattle.report_text.specs.declared.one_line.OneLine.{OneLine}
use Rattle.report_text.specs.declared.one_line.OneLine.TheVariants as line
use Rattle.core_state.specs.SessionData.{SessionData}
use Rattle.core_state.specs.Sessions.{session_data}
use Rattle.core_state.specs.declared.session.Session.{Session}
use Rattle.mss_run.specs.Runs.{EndData}
use Rattle.session_report.specs.Parties.{Stream}
use Rattle.job_runs.specs.Parties.{Devices}
use Rattle.thread_runs.proofs.AtOnce.{played_halts}
use Rattle.volume_copy.specs.Copies.{AskedCopy}
use Rattle.mss_top.specs.Admission.{copy_asked, task_of}
use Rattle.mss_top.specs.Serial.{IsComplete, IsUntaken}
use Rattle.mss_top.specs.Status.{line_status}
use Rattle.mss_top.specs.Threads.{BeganNone, EndsThreads, GoesWellAtOnce, IsThreadless, IsThreadsJob, IsThreadsRunOf}
use Rattle.mss_top.specs.declared.status.Status.{Status}
use Rattle.mss_top.proofs.Fair.{line_complete, no_job_complete, reported_complete, sink_none, untaken_complete}

module _ (asked : Option Command) (input : Stream) (site : Devices) (sink : Stream) (job : JobData) (well : GoesWellAtOnce asked input site sink job) where
  -- the input has one job
  same_job : (copy : Option CopyAsked) (other : JobData) → IsThreadsJob asked input copy other → other ≡ job
  same_job copy other is = let both : ◌≡◌ {A = Result JobData BadLine} (Ok other) (Ok job) = sym (is.text.text_ well.can_read) ∙ well.text in cc

  threadless_complete : (said : OneLine) → IsThreadless asked input said → IsComplete (line_status said)
  threadless_complete line.WordsRefused cause = absurd (cause.0 well.command.copy well.command.command)
  threadless_complete line.WantOfMemory cause = tt
  threadless_complete line.InputFault cause = no_job_complete job input site sink well.fair line.InputFault well.can_read well.text cause.1
  threadless_complete (line.JobRefused n kind) cause = no_job_complete job input site sink well.fair (line.JobRefused n kind) well.can_read well.text cause.1
  threadless_complete (line.RestartRefused why) cause = no_job_complete job input site sink well.fair (line.RestartRefused why) well.can_read well.text cause.1

  module _ (told : Status) (hosts : List EndData) where
    none_complete : BeganNone asked input site sink told hosts → IsComplete told
    none_complete is = line_complete is.says.said sink told (sink_none job input site sink well.fair) (elim is.says.cause [
      | inl out ↦ threadless_complete is.says.said out.threadless
      | inr back ↦ untaken_complete job input site sink well.fair is.says.said (subst (λ (j : JobData). IsUntaken j site is.says.said) (same_job back.copy back.job back.admitted) back.untaken)
    ]) is.says.put

    done_complete : (copy : Option AskedCopy) (s : SessionData) → IsThreadsRunOf (record { job = job; copy = copy }) site sink told hosts s → IsComplete told
    done_complete copy s is =
        reported_complete job input site sink well.fair told is.mid is.end is.answer s (played_halts (record { job = job; copy = copy }) _ is.end hosts s is.session.played) is.closes copy is.session.mid is.session.played.promised is.session.report

    pub threads_complete : (left : Option Session) → EndsThreads asked input site sink told hosts left → IsComplete told
    threads_complete None is = none_complete is
    threads_complete (Some session) is = done_complete (copy_asked is.copy) (session_data session)
        (subst (λ (j : JobData). IsThreadsRunOf (task_of j is.copy) site sink told hosts (session_data session)) (same_job is.copy is.job is.admitted) is.done)
