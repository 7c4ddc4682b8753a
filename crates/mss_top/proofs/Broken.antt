-- A look, or a report, that broke off before a track that couldn't be read.
use Rattle.std.proofs.Common.{◌≡◌, ℕ, List, Option, None, Some, Ok, Err, ◌++◌, sym, ◌∙◌, ap, subst}
use Rattle.mss_base.specs.Content.{SiteLog, content}
use Rattle.mss_base.specs.Sites.{OnlyReads}
use Rattle.mss_base.specs.declared.site.Site.{Ghosts}
use Rattle.volume_table.specs.Listed.{row_in_list}
use Rattle.volume_table.specs.Row.{RowValue}
use Rattle.shown_volumes.specs.Shown.{shown_by}
use Rattle.report_text.specs.declared.one_line.OneLine.{OneLine}
use Rattle.report_text.specs.declared.one_line.OneLine.TheVariants as line
use Rattle.serial_driver.specs.declared.answer.DriveAnswer.{DriveAnswer}
use Rattle.serial_driver.specs.declared.answer.DriveAnswer.TheVariants as ended
use Rattle.session_report.specs.Answers.{Answer, IsPut, whole as put_whole, broken as put_broken, cut}
use Rattle.session_report.specs.Parties.{Stream, IsUntouched}
use Rattle.session_report.specs.Reports.{OnRead, listing_matter, told_text, unread}
use Rattle.session_report.specs.declared.fault.ReportFault.TheVariants as report_fault
use Rattle.session_report.proofs.SiteReads.{unread_since}
use Rattle.core_state.specs.SessionData.{SessionData}
use Rattle.core_state.specs.Sessions.{session_data}
use Rattle.core_state.specs.declared.session.Session.{Session}
use Rattle.command_words.specs.declared.command.Command.{Command}
use Rattle.command_words.specs.declared.command.CopyAsked.{CopyAsked}
use Rattle.job_text.specs.Jobs.{JobData}
use Rattle.job_runs.specs.Copies.{JobAsked}
use Rattle.job_runs.specs.Parties.{Devices, devices}
use Rattle.job_runs.specs.Runs.{IsHalted, IsSummed, LoadEnds, OnUnread, ReportBrokeOff}
use Rattle.job_runs.specs.declared.run.Outcome.{Outcome}
use Rattle.job_runs.specs.declared.run.Outcome.TheVariants as outcome
use Rattle.mss_top.specs.Admission.{IsAdmitted}
use Rattle.mss_top.specs.Serial.{Chooses, Closes, IsToldOf, JobBrokeOff, OnUnstopped, Output, RunBrokeOff, since, until}
use Rattle.mss_top.specs.Showing.{BrokeOff, IsSurvey, LookBrokeOff}
use Rattle.mss_top.specs.Threads.{IsThreadsJob, ThreadsBrokeOff}
use Rattle.mss_top.specs.declared.admission.Admitted.{Admitted}
use Rattle.mss_top.specs.Status.{IsLinePut, whole, broken, end_status, line_status, status_of}
use Rattle.mss_top.specs.declared.status.Status.{Status}
use Rattle.mss_top.specs.declared.status.Status.TheVariants as status
use Rattle.core_state.specs.CoreValue.{seen_site}

-- a failed read, with the count behind it
pub record Found (P : ℕ → Type 0) : Type 0 where
  pub fault : ℕ
  pub is : P fault

read_found : (P : ℕ → Type 0) (end : DriveAnswer) (answer : Answer) (told : Status) → (end_status end ≡ status.Stopped → ⊥) → told ≡ status_of end answer → OnRead answer P → told ≡ status.Stopped → Found P
read_found P end (Ok x) told going ends off stop = absurd (going (sym ends ∙ stop))
read_found P end (Err (report_fault.Read fault)) told going ends off stop = record { fault = fault; is = off }
read_found P end (Err report_fault.Output) told going ends off stop = absurd (let e : status.OutputFault ≡ status.Stopped = sym ends ∙ stop in cc)
read_found P end (Err report_fault.Memory) told going ends off stop = absurd (let e : status.Memory ≡ status.Stopped = sym ends ∙ stop in cc)

done_unstopped : status.Done ≡ status.Stopped → ⊥
done_unstopped is = cc

-- a listing that was stopped tells one
pub listing_stopped : (P : ℕ → Type 0) (answer : Answer) (told : Status) → told ≡ status_of ended.Done answer → OnRead answer P → told ≡ status.Stopped → Found P
listing_stopped P answer told ends off stop = read_found P ended.Done answer told done_unstopped ends off stop

-- a line never has that status
said_unstopped : (said : OneLine) → line_status said ≡ status.Stopped → ⊥
said_unstopped line.WordsRefused is = absurd cc
said_unstopped line.InputFault is = absurd cc
said_unstopped (line.JobRefused n kind) is = absurd cc
said_unstopped (line.RestartRefused why) is = absurd cc
said_unstopped line.WantOfMemory is = absurd cc

pub line_unstopped : (said : OneLine) (sink : Stream) (told : Status) → IsLinePut said sink told → told ≡ status.Stopped → ⊥
line_unstopped said sink told (whole is counted bytes) stop = said_unstopped said (sym is ∙ stop)
line_unstopped said sink told (broken is rose front) stop = absurd (let e : status.OutputFault ≡ status.Stopped = sym is ∙ stop in cc)

-- the devices were surveyed before, and only read
pub look_broken : {S : Type 0} (g : Ghosts S) (old mid new : S) (rows : List (Option RowValue)) (sink : Stream)
    → OnlyReads g old mid → IsSurvey (devices g old mid) (Ok rows)
    → BrokeOff g mid rows (devices g mid new) sink → LookBrokeOff g old (devices g old new) sink
look_broken g old mid new rows sink reads survey broke = record {
  mid = seen_site g mid;
  rows = rows;
  survey = survey;
  broke = record {
    fault = broke.fault;
    off = record {
      place = broke.off.place;
      tracks = broke.off.tracks;
      there = broke.off.there;
      few = broke.off.few;
      unread_ = unread_since g old mid reads.sound _ broke.off.unread_;
      put = λ t. broke.off.put t ∙ ap (λ (log : SiteLog). sink.was ++ told_text (listing_matter (shown_by (row_in_list rows) (content log))) (unread broke.off.place broke.off.tracks broke.fault)) (reads.log t.0);
    };
  };
}

-- ---- a report

-- a summary tells no failed read
summary_unread : (P : ℕ → Type 0) (text : List ℕ) (sink : Stream) (answer : Answer) → IsPut (Ok tt) text sink answer → OnRead answer P
summary_unread P text sink answer (put_whole is bytes) = subst (λ (a : Answer). OnRead a P) (sym is) tt
summary_unread P text sink answer (put_broken is rose front) = subst (λ (a : Answer). OnRead a P) (sym is) tt
summary_unread P text sink answer (cut is counted front) = subst (λ (a : Answer). OnRead a P) (sym is) tt

summed_unread : (P : ℕ → Type 0) (programs : ℕ) (s : SessionData) (end : DriveAnswer) (sink : Stream) (answer : Answer) → IsSummed programs s end sink answer → OnRead answer P
summed_unread P programs s ended.Done sink answer is = summary_unread P _ sink answer is
summed_unread P programs s ended.CommandLimit sink answer is = summary_unread P _ sink answer is
summed_unread P programs s (ended.Stopped fault) sink answer is = summary_unread P _ sink answer is
summed_unread P programs s ended.Memory sink answer is = subst (λ (a : Answer). OnRead a P) (sym is.0) tt

pub load_unread : (may : Chooses) (job : JobData) (programs : ℕ) (turns : List ℕ) (site : Devices) (sink : Stream) (P : SessionData → ℕ → Type 0) (o : Outcome) → LoadEnds may job programs turns site sink o → OnUnread o P
load_unread may job programs turns site sink P (outcome.Untaken why) is = tt
load_unread may job programs turns site sink P (outcome.Ran session end answer) is = summed_unread (P (session_data session)) programs (session_data session) end sink answer is.summed

-- how a session ended that was told
pub halts_of : (may : Chooses) (load : Option ℕ) (task : JobAsked) (turns : List ℕ) (site : Devices) (sink : Stream) (end : DriveAnswer) (answer : Answer) (s : SessionData) → IsToldOf may load task turns site sink end answer s → IsHalted end s.stopped
halts_of may None task turns site sink end answer s is = is.played.halts
halts_of may (Some programs) task turns site sink end answer s is = is.played.halts

limit_unstopped : status.Limit ≡ status.Stopped → ⊥
limit_unstopped is = cc

-- A run that tells a stop, though its session wasn't stopped, tells a failed read, and nothing was put behind that.
run_stopped : (P : ℕ → Type 0) (end : DriveAnswer) (answer : Answer) (kept : Option ℕ) (late : Stream) (told : Status) → IsHalted end kept → kept ≡ None → Closes end answer late told → OnRead answer P → told ≡ status.Stopped
    → IsUntouched late × Found P
run_stopped P ended.Done answer kept late told halts none closes off stop = (closes.0, read_found P ended.Done answer told done_unstopped closes.1 off stop)
run_stopped P ended.CommandLimit answer kept late told halts none closes off stop = (closes.0, read_found P ended.CommandLimit answer told limit_unstopped closes.1 off stop)
run_stopped P (ended.Stopped fault) answer kept late told halts none closes off stop = absurd (let e : ◌≡◌ {A = Option ℕ} None (Some fault) = sym none ∙ halts in cc)
run_stopped P ended.Memory answer kept late told halts none closes off stop = absurd (line_unstopped line.WantOfMemory late told closes stop)

module _ {S : Type 0} (g : Ghosts S) (s : S) where
  -- the report is all that was put
  module _ (job : JobData) (site : Devices) (sink : Stream) where
    whole_broken : (mid : Output) (session : SessionData) (fault : ℕ) → IsUntouched (since sink mid) → ReportBrokeOff g s job site (until sink mid) session fault → JobBrokeOff g s job site sink session
    whole_broken mid session fault none broke = record {
      fault = fault;
      broke = record {
        going = broke.going;
        rows = broke.rows;
        shown_ = broke.shown_;
        off = record {
          place = broke.off.place;
          tracks = broke.off.tracks;
          there = broke.off.there;
          few = broke.off.few;
          unread_ = broke.off.unread_;
          put = λ t. none.told_ ∙ broke.off.put t;
        };
      };
    }

    pub job_broken : (mid : Output) (session : SessionData) (end : DriveAnswer) (answer : Answer) (told : Status) → IsHalted end session.stopped → Closes end answer (since sink mid) told
        → OnRead answer (ReportBrokeOff g s job site (until sink mid) session) → told ≡ status.Stopped → session.stopped ≡ None → JobBrokeOff g s job site sink session
    job_broken mid session end answer told halts closes off stop none =
        let found = run_stopped (ReportBrokeOff g s job site (until sink mid) session) end answer session.stopped (since sink mid) told halts none closes off stop in
        whole_broken mid session found.1.fault found.0 found.1.is

  -- of a run that was admitted
  module _ (asked : Option Command) (input : Stream) (site : Devices) (sink : Stream) where
    pub run_broken : (run : Admitted) (session : Option Session) → IsAdmitted asked input run → OnUnstopped session (JobBrokeOff g s run.job site sink) → OnUnstopped session (RunBrokeOff g s asked input site sink)
    run_broken run None admitted broke = tt
    run_broken run (Some session) admitted broke = λ none. record { run = run; admitted = admitted; broke = broke none }

    pub threads_broken : (copy : Option CopyAsked) (job : JobData) (session : Option Session) → IsThreadsJob asked input copy job → OnUnstopped session (JobBrokeOff g s job site sink) → OnUnstopped session (ThreadsBrokeOff g s asked input site sink)
    threads_broken copy job None admitted broke = tt
    threads_broken copy job (Some session) admitted broke = λ none. record { copy = copy; job = job; admitted = admitted; broke = broke none }
