-- What a run in threads leaves: its job, the line of a site that isn't taken up, and the whole run.
use Rattle.std.proofs.Common.{◌≡◌, inl, inr, List, [], Option, Some, None, Err, sym, ◌∙◌, subst}
use Rattle.command_words.specs.declared.command.Command.{Command}
use Rattle.command_words.specs.declared.command.Command.TheVariants as command
use Rattle.command_words.specs.declared.command.CopyAsked.{CopyAsked}
use Rattle.core_state.specs.declared.session.Session.{Session}
use Rattle.job_text.specs.Jobs.{JobData}
use Rattle.report_text.specs.declared.one_line.OneLine.{OneLine}
use Rattle.report_text.specs.declared.one_line.OneLine.TheVariants as line
use Rattle.shown_volumes.specs.declared.refused.Refused.{Refused}
use Rattle.mss_run.specs.Runs.{EndData}
use Rattle.session_report.specs.Parties.{Stream, IsUntouched}
use Rattle.job_runs.specs.Parties.{Devices}
use Rattle.job_runs.specs.declared.run.Outcome.TheVariants as outcome
use Rattle.thread_runs.specs.Runs.{EndsAtOnce}
use Rattle.job_runs.specs.Copies.{JobAsked}
use Rattle.mss_top.specs.Admission.{task_of, Asks, IsNoJob}
use Rattle.mss_top.specs.Ending.{line_of}
use Rattle.mss_top.specs.Serial.{Output, since, until}
use Rattle.mss_top.specs.Status.{IsLinePut}
use Rattle.mss_top.specs.Threads.{AskForSomeThreads, EndsJob, EndsThreads, IsThreadless, IsThreadsJob}
use Rattle.mss_top.specs.declared.status.Status.{Status}
use Rattle.mss_top.proofs.Running.{says_untaken}

-- the words ask for nothing
pub refused_threads : (asked : Option Command) (input : Stream) (said : OneLine) → Asks asked (Err said) → IsUntouched input → IsThreadless asked input said
refused_threads asked input line.WordsRefused is untouched = (λ copy asks. let e : ◌≡◌ {A = Option Command} None (Some (command.Threads copy)) = sym is ∙ asks in cc, untouched)
refused_threads asked input line.WantOfMemory is untouched = inl untouched
refused_threads asked input line.InputFault is untouched = absurd is
refused_threads asked input (line.JobRefused n kind) is untouched = absurd is
refused_threads asked input (line.RestartRefused why) is untouched = absurd is

-- they ask for threads, and the input has no job
pub jobless_threads : (asked : Option Command) (input : Stream) (said : OneLine) → AskForSomeThreads asked → IsNoJob input said → IsThreadless asked input said
jobless_threads asked input line.InputFault asks is = (asks, is)
jobless_threads asked input (line.JobRefused n kind) asks is = (asks, is)
jobless_threads asked input line.WantOfMemory asks is = inr asks
jobless_threads asked input line.WordsRefused asks is = absurd is
jobless_threads asked input (line.RestartRefused why) asks is = absurd is

-- the line of a site that isn't taken up
pub ends_untaken : (task : JobAsked) (site : Devices) (sink : Stream) (mid : Output) (told : Status) (hosts : List EndData) (said : OneLine) (why : Refused) (left : Option Session)
    → left ≡ None → said ≡ line_of why → EndsAtOnce task site (until sink mid) (outcome.Untaken why) hosts → IsLinePut said (since sink mid) told → EndsJob task site sink told hosts left
ends_untaken task site sink mid told hosts said why left none line is put =
    subst (λ (l : Option Session). EndsJob task site sink told hosts l) (sym none) (says_untaken task.job site sink mid told said why line is.0 put, is.1)

-- the end of a run that has its job
pub ends_threads : (asked : Option Command) (input : Stream) (site : Devices) (sink : Stream) (told : Status) (hosts : List EndData) (copy : Option CopyAsked) (job : JobData) (left : Option Session)
    → IsThreadsJob asked input copy job → EndsJob (task_of job copy) site sink told hosts left → EndsThreads asked input site sink told hosts left
ends_threads asked input site sink told hosts copy job None admitted is =
    record { says = record { said = is.0.said; cause = inr (record { copy = copy; job = job; admitted = admitted; untaken = is.0.cause }); put = is.0.put }; none = is.1 }
ends_threads asked input site sink told hosts copy job (Some session) admitted is = record { copy = copy; job = job; admitted = admitted; done = is }

-- the end of a run that wasn't admitted
pub ends_kept_out : (asked : Option Command) (input : Stream) (site : Devices) (sink : Stream) (told : Status) (hosts : List EndData) (said : OneLine) (left : Option Session)
    → left ≡ None → hosts ≡ [] → IsThreadless asked input said → site.now ≡ site.was → IsLinePut said sink told → EndsThreads asked input site sink told hosts left
ends_kept_out asked input site sink told hosts said left no_session no_hosts threadless same put =
    subst (λ (l : Option Session). EndsThreads asked input site sink told hosts l) (sym no_session)
    (record { says = record { said = said; cause = inl (record { threadless = threadless; devices_ = same }); put = put }; none = no_hosts })
