use Rattle.std.proofs.Common.{◌≡◌, ◌⊎◌, ℕ, List, Option, length, refl, sym, ◌∙◌, ap, subst}
use Rattle.std.specs.Prelude.{is_some, IfSome}
use Rattle.volume_table.specs.Row.{RowValue}
use Rattle.core_state.specs.Beginning.{IsLater}
use Rattle.core_state.specs.Chains.{Reading}
use Rattle.core_state.specs.CoreValue.{CoreData, CoreValue, seen_core, seen_site}
use Rattle.core_state.specs.SessionData.{SessionData, data_of}
use Rattle.core_state.specs.Sessions.{session_data}
use Rattle.core_state.proofs.Moved.{told_seen}
use Rattle.ckd_plain.specs.History.{EntryData}
use Rattle.mss_restart.specs.Creations.{WritesOn}
use Rattle.mss_run.specs.Led.{LeadsTo}
use Rattle.mss_run.proofs.LedFacts.{leads_read}
use Rattle.mss_run.specs.Runs.{AskByScript, LeavesEnds, hosts_of, run_answer}
use Rattle.seen_book.specs.Books.{AreOfThese}
use Rattle.serial_driver.proofs.TakeFacts.{reads_seen}
use Rattle.serial_driver.specs.declared.answer.DriveAnswer.{DriveAnswer}
use Rattle.volume_copy.specs.Beside.{asked_copy}
use Rattle.volume_copy.specs.Copies.{AskedCopy}
use Rattle.job_runs.specs.Copies.{EndsForCopy, IsCopyOf, job_with}
use Rattle.job_runs.proofs.CopyTold.{copies_of}
use Rattle.job_runs.proofs.FinishFacts.{WasRead, halted_finished, later_read, part_same, told_going, was_read}
use Rattle.job_runs.specs.Runs.{AreRowsOf}
use Rattle.job_runs.proofs.SessionFacts.{promised_of, rows_of_core}
use Rattle.thread_runs.specs.Runs.{EndsAs, IsPlayedAtOnce, ended_as}
use Rattle.thread_runs.proofs.AtOnce.{ends_as, played_at_once, run_halts, written_at_once}
use Rattle.thread_runs.proofs.run.play_on.Goals as goal

pub returns : goal.returns
returns g c =
    let ran = c.run_actors-core in
    let at = ran.result.core in
    let copier = ran.result.copier in
    let hosts = ran.result.hosts.items in
    let done = c.finish_copy-end in
    let left : CoreValue g.row.S.Denot g.row.C.Denot = done.new.core in
    let ended = c.into_session-site in
    let tells = g.S.Site.tells in
    let told = g.S.Site.told in
    let read : WasRead g.S.Site at left = was_read g.S.Site at left (is_some (asked_copy copier)) done.ensures.core in
    let history : left.history ≡ at.history = part_same g.S.Site at left read (λ (v : CoreValue g.row.S.Denot g.row.C.Denot). v.history) refl in
    let stop : left.stopped ≡ at.stopped = part_same g.S.Site at left read (λ (v : CoreValue g.row.S.Denot g.row.C.Denot). v.stopped) refl in
    let asked : asked_copy copier ≡ asked_copy c.args.copier = ran.ensures.copier in
    let reads : Reading (is_some (asked_copy c.args.copier)) tells (seen_core g.S.Site at) (λ (x : CoreData). seen_core g.S.Site left ≡ x) =
    subst (λ (a : Option AskedCopy). Reading (is_some a) tells (seen_core g.S.Site at) (λ (x : CoreData). seen_core g.S.Site left ≡ x)) asked
    (reads_seen g.S.Site at left (is_some (asked_copy copier)) done.ensures.core) in
    let led : LeadsTo tells (is_some (asked_copy c.args.copier)) (seen_core g.S.Site c.args.core) (seen_core g.S.Site left) =
    leads_read tells (is_some (asked_copy c.args.copier)) (seen_core g.S.Site c.args.core) (seen_core g.S.Site at) (seen_core g.S.Site left) ran.ensures.led reads (later_read g.S.Site at left read) in
    let later : IsLater tells (seen_core g.S.Site c.args.core) (seen_core g.S.Site left) = led.later in
    let site : left.site ≡ ended.result.0 = sym ended.ensures.site in
    let session : data_of left ≡ session_data ended.result.1 = sym ended.ensures.session in
    let run : Option ℕ → List EntryData → DriveAnswer = λ stopped entries. ended_as (run_answer stopped (length entries) (length c.args.job.now.hosts) hosts) in
    let answered : c.ended_as.result ≡ run at.stopped at.history = c.ended_as.ensures ∙ ap ended_as ran.ensures.answer in
    let ends : (done.result ≡ run at.stopped at.history) ⊎ EndsForCopy copier (run at.stopped at.history) done.result =
    subst (λ (e : DriveAnswer). (done.result ≡ e) ⊎ EndsForCopy copier e done.result) answered done.ensures.ended in
    let law = c.sessions_are_plain.ensures in
    record {
      asked = done.ensures.asked ∙ ran.ensures.copier;
      rows = subst (λ (x : g.row.S.Denot × SessionData × List (Option RowValue)). AreRowsOf tells (told x.0) x.1.stopped x.2) (λ i. (site i, session i, sym ended.ensures.rows i))
          (rows_of_core g.S.Site left c.look.ensures.told);
      devices = subst (λ (x : g.row.S.Denot). WritesOn g.S.Site c.args.core.site x) site
          (written_at_once g.S.Site c.args.core left c.requires.writes c.requires.faults later c.look.ensures.counted (λ but never. read.site_.sound but (ran.ensures.sound but never)));
      only_reads_fail = λ but never going. ap (λ (x : SessionData). x.stopped) (sym session) ∙ stop ∙ ran.ensures.only_reads_fail but never going;
      session = λ was begun.
          subst (λ (x : g.row.S.Denot × SessionData). IsPlayedAtOnce (job_with c.args.job.now c.args.copier) (record { tells = tells; was = was; now = seen_site g.S.Site x.0 }) done.result hosts x.1) (λ i. (site i, session i))
          (played_at_once g.S.Site c.args.job.now (asked_copy c.args.copier) c.args.core left done.result hosts
          led (subst (AreOfThese (hosts_of c.args.job.now.hosts)) (sym history) ran.ensures.hosts)
          (subst (λ (es : List EntryData). LeavesEnds es c.args.job.now.hosts hosts) (sym history) ran.ensures.ends)
          (subst (λ (es : List EntryData). AskByScript es c.args.job.now.hosts) (sym history) ran.ensures.follow)
          (subst (λ (e : DriveAnswer). EndsAs (asked_copy c.args.copier) e done.result) (λ i. run (sym stop i) (sym history i)) (ends_as copier (run at.stopped at.history) done.result ends (asked_copy c.args.copier) ran.ensures.copier)) was begun
          (promised_of g.S.Site c.args.core left c.args.job.now.config later c.look.ensures.told c.look.ensures.counted c.look.ensures.marked was begun
          (λ t over later' kept. law.plain c.args.job.now.config was (seen_core g.S.Site c.args.core) (seen_core g.S.Site left) t over later' kept)
          (λ t over later' kept. law.stops c.args.job.now.config was (seen_core g.S.Site c.args.core) (seen_core g.S.Site left) t over later' kept)));
      copy = λ was begun whole.
          let halts = halted_finished copier (run at.stopped at.history) done.result ends at.stopped (run_halts at.stopped (length at.history) (length c.args.job.now.hosts) hosts) in
          let none = stop ∙ told_going done.result at.stopped whole halts in
          subst (λ (x : g.row.S.Denot × SessionData). IfSome done.new.copier (IsCopyOf tells c.args.job.now.config was.told (g.S.Site.faults x.0) x.1)) (λ i. (site i, session i))
          (copies_of g.S.Site left c.args.job.now.config was.told none
          (λ t. law.begins c.args.job.now.config was (seen_core g.S.Site c.args.core) (seen_core g.S.Site left) t (begun.over t) later (told_seen g.S.Site left (c.look.ensures.told t)))
          done.new.copier (done.ensures.copied whole ran.ensures.stands));
    }
