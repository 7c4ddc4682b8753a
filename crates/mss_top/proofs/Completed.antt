-- A run without a fault of a device is complete.
use Rattle.std.proofs.Common.{◌≡◌, inl, inr, ℕ, List, Option, Some, None, Result, Ok, sym, ◌∙◌, subst}
use Rattle.command_words.specs.declared.command.Command.{Command}
use Rattle.job_text.specs.Grammar.{BadLine}
use Rattle.job_text.specs.Jobs.{JobData}
use Rattle.report_text.specs.declared.one_line.OneLine.{OneLine}
use Rattle.report_text.specs.declared.one_line.OneLine.TheVariants as line
use Rattle.core_state.specs.SessionData.{SessionData}
use Rattle.core_state.specs.Sessions.{session_data}
use Rattle.core_state.specs.declared.session.Session.{Session}
use Rattle.serial_driver.specs.declared.answer.DriveAnswer.{DriveAnswer}
use Rattle.session_report.specs.Answers.{Answer}
use Rattle.session_report.specs.Parties.{Stream}
use Rattle.job_runs.specs.Parties.{Devices}
use Rattle.volume_copy.specs.Copies.{AskedCopy}
use Rattle.mss_top.specs.Admission.{copy_asked, task_of, AskInVain, AskToRun, IsAdmitted, IsJobOf, IsJobless, IsUnread, command_of}
use Rattle.mss_top.specs.Serial.{AsksJob, Chooses, Closes, EndsCommand, GoesWell, IsComplete, IsRefused, IsRunOf, IsToldOf, IsUntaken, Output, since, until}
use Rattle.mss_top.specs.Status.{line_status}
use Rattle.mss_top.specs.declared.admission.Admitted.{Admitted}
use Rattle.mss_top.specs.declared.admission.Settings.{Settings}
use Rattle.mss_top.specs.declared.status.Status.{Status}
use Rattle.mss_top.proofs.Fair.{line_complete, no_job_complete, reported_complete, sink_none, summed_complete, untaken_complete}

-- words ask for one run
same_settings : (asked : Option Command) (a b : Settings) → AskToRun asked a → AskToRun asked b → a ≡ b
same_settings asked a b one other =
    let both : ◌≡◌ {A = Option Command} (Some (command_of a)) (Some (command_of b)) = sym one ∙ other in
    let order : a.order ≡ b.order = cc in
    let turns : a.turns ≡ b.turns = cc in
    let load : a.load ≡ b.load = cc in
    let copied : a.copy ≡ b.copy = cc in
    λ i. record { order = order i; turns = turns i; load = load i; copy = copied i }

one_job : (load : Option ℕ) (order : ℕ) (input : Stream) (a b : JobData) → IsJobOf load order input a → AsksJob load order input b → a ≡ b
one_job (Some programs) order input a b is asks = is.0 ∙ sym asks
one_job None order input a b is asks = let both : ◌≡◌ {A = Result JobData BadLine} (Ok a) (Ok b) = sym (is.text_ asks.0) ∙ asks.1 in cc

module _ (asked : Option Command) (input : Stream) (site : Devices) (sink : Stream) (settings : Settings) (job : JobData) (well : GoesWell asked input site sink settings job) where
  asks_at : (other : Settings) → AskToRun asked other → AsksJob other.load other.order input job
  asks_at other command = subst (λ (s : Settings). AsksJob s.load s.order input job) (same_settings asked settings other well.command command) well.asks

  same_job : (run : Admitted) → IsAdmitted asked input run → run.job ≡ job
  same_job run is = one_job run.settings.load run.settings.order input run.job job is.job_ (asks_at run.settings is.command)

  jobless_complete : (load : Option ℕ) (order : ℕ) (said : OneLine) → AsksJob load order input job → IsJobless load input said → IsComplete (line_status said)
  jobless_complete (Some programs) order said asks is = subst (λ (l : OneLine). IsComplete (line_status l)) (sym is.0) tt
  jobless_complete None order said asks is = no_job_complete job input site sink well.fair said asks.0 asks.1 is

  vain_complete : (said : OneLine) → AskInVain asked input said → IsComplete (line_status said)
  vain_complete said is = jobless_complete is.settings.load is.settings.order said (asks_at is.settings is.command) is.jobless

  unread_complete : (said : OneLine) → IsUnread asked input said → IsComplete (line_status said)
  unread_complete line.WordsRefused cause = absurd (cause.0 settings well.command)
  unread_complete line.WantOfMemory cause = tt
  unread_complete line.InputFault cause = vain_complete line.InputFault cause
  unread_complete (line.JobRefused n kind) cause = vain_complete (line.JobRefused n kind) cause
  unread_complete (line.RestartRefused why) cause = vain_complete (line.RestartRefused why) cause

  -- ---- a run without a session, and one with it
  module _ (told : Status) where
    refused_complete : IsRefused asked input site sink told → IsComplete told
    refused_complete is = line_complete is.said sink told (sink_none job input site sink well.fair) (elim is.cause [
      | inl unadmitted ↦ unread_complete is.said unadmitted.unread
      | inr late ↦ untaken_complete job input site sink well.fair is.said (subst (λ (j : JobData). IsUntaken j site is.said) (same_job late.run late.admitted) late.untaken)
    ]) is.put

    session_complete : (may : Chooses) (load : Option ℕ) (turns : List ℕ) (mid : Output) (end : DriveAnswer) (answer : Answer) (s : SessionData) (copy : Option AskedCopy) → Closes end answer (since sink mid) told
        → IsToldOf may load (record { job = job; copy = copy }) turns site (until sink mid) end answer s → IsComplete told
    session_complete may None turns mid end answer s copy closes is =
        reported_complete job input site sink well.fair told mid end answer s is.played.halts closes copy is.mid is.played.promised is.report
    session_complete may (Some programs) turns mid end answer s copy closes is =
        summed_complete job input site sink well.fair told mid end answer s is.played.halts closes programs is.played.promised is.summed

    run_done : (may : Chooses) (run : Admitted) (s : SessionData) → run.job ≡ job → IsRunOf may run site sink told s → IsComplete told
    run_done may run s same is = session_complete may run.settings.load run.turns.items is.mid is.end is.answer s (copy_asked run.settings.copy) is.closes
        (subst (λ (j : JobData). IsToldOf may run.settings.load (task_of j run.settings.copy) run.turns.items site (until sink is.mid) is.end is.answer s) same is.session)

    pub run_complete : (may : Chooses) (left : Option Session) → EndsCommand asked may input site sink told left → IsComplete told
    run_complete may None is = refused_complete is
    run_complete may (Some session) is = run_done may is.run (session_data session) (same_job is.run is.admitted) is.done
