-- What doing a run leaves, of a job and of a load; and the line of a site that isn't taken up.
use Rattle.std.proofs.Common.{◌≡◌, inr, ℕ, List, Option, Some, None, sym, subst}
use Rattle.core_state.specs.declared.session.Session.{Session}
use Rattle.command_words.specs.declared.command.Command.{Command}
use Rattle.job_text.specs.Jobs.{JobData}
use Rattle.report_text.specs.declared.one_line.OneLine.{OneLine}
use Rattle.shown_volumes.specs.declared.refused.Refused.{Refused}
use Rattle.session_report.specs.Parties.{Stream}
use Rattle.job_runs.specs.Copies.{JobAsked}
use Rattle.job_runs.specs.Parties.{Devices}
use Rattle.job_runs.specs.Runs.{JobEnds, LoadEnds, IsUntaken as IsNotTakenUp}
use Rattle.job_runs.specs.declared.run.Outcome.{Outcome}
use Rattle.job_runs.specs.declared.run.Outcome.TheVariants as outcome
use Rattle.mss_top.specs.Ending.{SaysWhy, line_of}
use Rattle.mss_top.specs.Admission.{IsAdmitted}
use Rattle.mss_top.specs.Serial.{Chooses, EndsCommand, EndsRun, IsUntaken, Output, RunsAdmitted, since, until}
use Rattle.mss_top.specs.declared.admission.Admitted.{Admitted}
use Rattle.mss_top.specs.Status.{IsLinePut}
use Rattle.mss_top.specs.declared.status.Status.{Status}
use Rattle.mss_top.proofs.Closing.{put_since}

job_by : (may : Chooses) (task : JobAsked) (turns : List ℕ) (site : Devices) (sink : Stream) (o : Outcome) → JobEnds may task turns site sink o → RunsAdmitted may None task turns site sink o
job_by may task turns site sink (outcome.Untaken why) is = is
job_by may task turns site sink (outcome.Ran session end answer) is = is

load_by : (may : Chooses) (task : JobAsked) (programs : ℕ) (turns : List ℕ) (site : Devices) (sink : Stream) (o : Outcome) → LoadEnds may task.job programs turns site sink o → RunsAdmitted may (Some programs) task turns site sink o
load_by may task programs turns site sink (outcome.Untaken why) is = is
load_by may task programs turns site sink (outcome.Ran session end answer) is = is

pub runs_job : (may : Chooses) (load : Option ℕ) (task : JobAsked) (used turns : List ℕ) (site : Devices) (sink : Stream) (o : Outcome) → used ≡ turns → load ≡ None → JobEnds may task used site sink o → RunsAdmitted may load task turns site sink o
runs_job may load task used turns site sink o same none is =
    subst (λ (l : Option ℕ). RunsAdmitted may l task turns site sink o) (sym none) (job_by may task turns site sink o (subst (λ (t : List ℕ). JobEnds may task t site sink o) same is))

pub runs_load : (may : Chooses) (load : Option ℕ) (task : JobAsked) (programs : ℕ) (used turns : List ℕ) (site : Devices) (sink : Stream) (o : Outcome) → used ≡ turns → load ≡ Some programs → LoadEnds may task.job programs used site sink o
    → RunsAdmitted may load task turns site sink o
runs_load may load task programs used turns site sink o same some is =
    subst (λ (l : Option ℕ). RunsAdmitted may l task turns site sink o) (sym some) (load_by may task programs turns site sink o (subst (λ (t : List ℕ). LoadEnds may task.job programs t site sink o) same is))

pub says_untaken : (job : JobData) (site : Devices) (sink : Stream) (mid : Output) (told : Status) (said : OneLine) (why : Refused) → said ≡ line_of why → IsNotTakenUp job site (until sink mid) why → IsLinePut said (since sink mid) told
    → SaysWhy (IsUntaken job site) sink told
says_untaken job site sink mid told said why line is put = record { said = said; cause = record { why = why; opens = is.opens; line_ = line }; put = put_since said sink mid told is.unput put }

-- the end of a run that was admitted
pub ends_run : (asked : Option Command) (may : Chooses) (input : Stream) (site : Devices) (sink : Stream) (told : Status) (run : Admitted) (session : Option Session) → IsAdmitted asked input run → EndsRun may run site sink told session
    → EndsCommand asked may input site sink told session
ends_run asked may input site sink told run None admitted is =
    record { said = is.said; cause = inr (record { run = run; admitted = admitted; untaken = is.cause }); put = is.put }
ends_run asked may input site sink told run (Some session) admitted is = record { run = run; admitted = admitted; done = is }
