-- A session of a job, from its parts.
use Rattle.std.proofs.Common.{◌≡◌, ◌⊎◌, inl, inr, ℕ, Bool, List, [], ◌∷◌, length, Option, None, Ok, Err, refl, sym, ◌∙◌, ap, subst}
use Rattle.std.specs.Prelude.{is_some}
use Rattle.mss_base.specs.Configs.{ConfigData, IsConfig}
use Rattle.mss_base.specs.Content.{SiteLog, content}
use Rattle.mss_base.specs.Sound.{StaysSound}
use Rattle.mss_base.specs.Sites.{OnlyReads}
use Rattle.mss_base.specs.declared.site.Site.{Ghosts}
use Rattle.channel_program.specs.Script.{ItemData, mounting, demounting, program, Follows, at_start}
use Rattle.victim_choice.specs.declared.choose.Candidate.{Candidate}
use Rattle.job_text.specs.Jobs.{JobData, ScriptData}
use Rattle.volume_table.specs.Listed.{row_in_list}
use Rattle.volume_table.specs.Row.{RowValue}
use Rattle.shown_volumes.specs.Shown.{rows_of, volumes_shown, shown_by}
use Rattle.core_state.specs.Chains.{Reading, Terms}
use Rattle.core_state.specs.Counted.{IsCounted}
use Rattle.core_state.specs.CoreValue.{CoreValue, CoreData, DevicesSeen, seen_core, seen_site}
use Rattle.core_state.specs.IsCore.{IsTold as IsToldCore}
use Rattle.core_state.specs.SessionData.{SessionData, data_of}
use Rattle.core_restart.specs.Begins.{Begins}
use Rattle.core_restart.specs.Opening.{Restarts, opened_in}
use Rattle.core_restart.specs.TakingUp.{BeginsWith, shown_for}
use Rattle.core_restart.proofs.Syncing.{opens_synced, telling}
use Rattle.plain_sessions.specs.Sessions.{BeganOver, IsPlainSession, StopsAnywhere, plain_volumes}
use Rattle.core_state.specs.Beginning.{IsLater}
use Rattle.serial_driver.specs.Drives.{DriveValue, IsFull, LeavesDrive, RunsOn, Halts, terms_by}
use Rattle.serial_driver.specs.declared.answer.DriveAnswer.{DriveAnswer}
use Rattle.serial_driver.specs.declared.answer.DriveAnswer.TheVariants as ended
use Rattle.session_report.specs.Answers.{Answer, SinkCounts}
use Rattle.session_report.specs.Parties.{Stream, seen_with, site_between}
use Rattle.session_report.specs.Parts.{IsUnread}
use Rattle.session_report.specs.Reports.{BreaksOff, OnRead, SiteCounts, report_matter, opening_text}
use Rattle.session_report.specs.declared.fault.ReportFault.TheVariants as report_fault
use Rattle.session_report.proofs.SiteReads.{unread_since}
use Rattle.volume_copy.specs.Beside.{ReadsBeside, asked_copy}
use Rattle.volume_copy.specs.Copies.{AskedCopy, CopyData}
use Rattle.session_report.specs.CopyTexts.{behind_text}
use Rattle.job_runs.specs.Copies.{EndsForCopy, IsBehind, IsToldWhole, JobAsked, job_with}
use Rattle.job_runs.proofs.FinishFacts.{WasRead, devices_read, ended_before, goes_finished, halted_finished, part_same, was_read}
use Rattle.job_runs.specs.Parties.{Devices, devices}
use Rattle.job_runs.specs.Runs.{AreRowsOf, FollowScripts, FollowToEnd, Goes, GoesUnstopped, IsBegun, IsFramed, IsHalted, IsMarked, IsPlayed, IsPromised, IsReportOf, IsSessionOf, IsTold, JobEnds, OnUnread, ReportBrokeOff, TellsSession, matter_of}
use Rattle.job_runs.specs.declared.run.Outcome.{Outcome}
use Rattle.job_runs.specs.declared.run.Outcome.TheVariants.{Untaken, Ran}
use Rattle.job_runs.proofs.Reporting.{broken_alike, read_going, told_alike}
use Rattle.core_state.proofs.Moved.{told_seen}
use Rattle.job_runs.proofs.Seen.{begins_seen, with_seen}

-- ---- scripts

-- no call is the beginning of every script
pub follows_none : (items : List ItemData) → Follows items []
follows_none [] = refl
follows_none (mounting volume bind ∷ more) = inl refl
follows_none (demounting ∷ more) = inl refl
follows_none (program words ∷ more) = inl (at_start, refl, refl)

-- ---- how it went

pub goes_by : (terms : Terms) (scripts : List ScriptData) (turns : List ℕ) (began : CoreData) (end : DriveAnswer) (left : CoreData) → RunsOn terms scripts turns began end left
    → Goes terms scripts turns began end left
goes_by terms scripts turns began ended.Done left runs = runs
goes_by terms scripts turns began ended.CommandLimit left runs = runs
goes_by terms scripts turns began (ended.Stopped fault) left runs = runs
goes_by terms scripts turns began ended.Memory left runs = inr (inl runs)

-- of the copier at its start only what is asked for counts
pub leaves_asked : {S C : Type 0} (g : Ghosts S) (core : CoreValue S C) (copier other : Option CopyData) (scripts : List ScriptData) → asked_copy copier ≡ asked_copy other → (new : DriveValue S C) (end : DriveAnswer)
    → LeavesDrive g (record { core = core; copier = copier; scripts = scripts }) new end → LeavesDrive g (record { core = core; copier = other; scripts = scripts }) new end
leaves_asked g core copier other scripts same new end is = record {
  session = is.session;
  scripts_ = is.scripts_;
  copier_ = is.copier_ ∙ same;
  chooser_ = is.chooser_;
  written = is.written;
  later = is.later;
  sound = is.sound;
  halts = is.halts;
  cause = is.cause;
  only_reads_fail = is.only_reads_fail;
  full = is.full;
}

pub halted_by : (end : DriveAnswer) (was is : Option ℕ) → was ≡ None → Halts end was is → IsHalted end is
halted_by ended.Done was is none halts = halts ∙ none
halted_by ended.CommandLimit was is none halts = halts ∙ none
halted_by (ended.Stopped fault) was is none halts = halts
halted_by ended.Memory was is none halts = halts ∙ none

-- ---- the session

-- what a later core of a session that has begun promises
module _ {S C : Type 0} (g : Ghosts S) (core left : CoreValue S C) (config : ConfigData)
    (later : IsLater g.tells (seen_core g core) (seen_core g left))
    (told_left : g.tells → IsToldCore (g.told left.site) left)
    (counted : IsCounted (g.writes left.site) (g.faults left.site) left.requests (data_of left)) (marked : IsMarked (data_of left))
    (was : DevicesSeen) (begun : IsBegun g.tells config was (seen_core g core)) where
  abbrev from : CoreData
  from = seen_core g core

  abbrev to : CoreData
  to = seen_core g left

  module _ (plain_law : (t : g.tells) → BeganOver config was from → IsLater g.tells from to → IsToldCore to.site.told to → IsPlainSession config was.told to.site.told (data_of to))
      (stops_law : (t : g.tells) → BeganOver config was from → IsLater g.tells from to → IsToldCore to.site.told to → StopsAnywhere config was.told to.site.told (data_of to)) where
    pub promised_of : IsPromised config (record { tells = g.tells; was = was; now = seen_site g left.site }) (data_of left)
    promised_of = record {
      began = later.beginning.first_faults ∙ begun.begins.first_faults_ ∙ begun.opened.any.kept ∙ begun.opened.sync.unfailed;
      requests = left.requests;
      counted = counted;
      marked = marked;
      plain = λ t. plain_law t (begun.over t) later (told_seen g left (told_left t));
      stops = λ t. stops_law t (begun.over t) later (told_seen g left (told_left t));
    }

module _ {S C : Type 0} (g : Ghosts S) (may : List Candidate → ℕ → Type 0) (job : JobData) (turns : List ℕ)
    (core left now : CoreValue S C) (copier copy : Option CopyData) (end last : DriveAnswer)
    (goes : Goes (terms_by g (λ (c : C). may) core.chooser copier) job.hosts turns (seen_core g core) end (seen_core g left))
    (follow : FollowScripts job.hosts left.history) (reach : end ≡ ended.Done → FollowToEnd job.hosts left.history)
    (leaves : LeavesDrive g (record { core = core; copier = copier; scripts = job.hosts }) (record { core = left; copier = copy; scripts = job.hosts }) end)
    (reads : ReadsBeside g (is_some (asked_copy copy)) left now) (ends : (last ≡ end) ⊎ EndsForCopy copy end last)
    (was : DevicesSeen) (begun : IsBegun g.tells job.config was (seen_core g core))
    (promised : IsPromised job.config (record { tells = g.tells; was = was; now = seen_site g now.site }) (data_of now)) where
  read : WasRead g left now
  read = was_read g left now (is_some (asked_copy copy)) reads

  -- is there a copy now, there was one
  copies_ : is_some (asked_copy copier) ≡ is_some (asked_copy copy)
  copies_ = ap is_some (sym leaves.copier_)

  same_history : now.history ≡ left.history
  same_history = part_same g left now read (λ (v : CoreValue S C). v.history) refl

  pub halts_now : IsHalted last now.stopped
  halts_now =
      subst (IsHalted last) (sym (part_same g left now read (λ (v : CoreValue S C). v.stopped) refl))
      (halted_finished copy end last ends left.stopped (halted_by end core.stopped left.stopped begun.begins.going leaves.halts))

  pub played_of : IsPlayed may (job_with job copier) turns (record { tells = g.tells; was = was; now = seen_site g now.site }) last (data_of now)
  played_of = record {
    driven = record {
      began = seen_core g core;
      begun = begun;
      left = seen_core g left;
      goes = goes_finished copy end last ends (terms_by g (λ (c : C). may) core.chooser copier) copies_ job.hosts turns (seen_core g core) (seen_core g left) goes;
      devices_ = subst (λ (b : Bool). Reading b g.tells (seen_core g left) (λ x. x.site ≡ seen_site g now.site)) (sym copies_) (devices_read g left now (is_some (asked_copy copy)) reads);
      session = sym (part_same g left now read data_of refl);
    };
    promised = promised;
    follow = subst (FollowScripts job.hosts) (sym same_history) follow;
    reach = λ is. subst (FollowToEnd job.hosts) (sym same_history) (reach (ended_before copy end last ends ended.Done (λ e. absurd cc) is));
    full = λ is. subst (IsFull job.hosts) (sym same_history) (leaves.full (ended_before copy end last ends ended.CommandLimit (λ e. absurd cc) is));
    halts = halts_now;
  }

-- its rows
pub rows_of_core : {S C : Type 0} (g : Ghosts S) (left : CoreValue S C) → (g.tells → IsToldCore (g.told left.site) left) → AreRowsOf g.tells (g.told left.site) left.stopped left.rows
rows_of_core g left told_left = record { shown_ = λ t none. sym ((told_left t).going none).rows_ }

-- ---- and its report

module _ {S : Type 0} (g : Ghosts S) (job : JobData)
    (was : SiteLog) (mid site : S) (end : DriveAnswer) (s : SessionData) (rows : List (Option RowValue))
    (plain : g.tells → IsPlainSession job.config was (g.told mid) s) (halts : IsHalted end s.stopped)
    (are_rows : AreRowsOf g.tells (g.told mid) s.stopped rows)
    (same_volumes : row_in_list rows ≡ rows_of (content (g.told mid)) → shown_by (row_in_list rows) (content (g.told mid)) ≡ volumes_shown (content (g.told mid)))
    (sink : Stream) (answer : Answer)
    (read : OnlyReads g mid site) (copier : Option CopyData)
    (report : IsTold (report_matter s job.config.volumes (shown_by (row_in_list rows) (content (g.told mid))) (behind_text copier)) end (site_between g mid site) sink answer) where
  pub report_of : (IsToldWhole end → IsBehind g.tells (asked_copy copier) (plain_volumes job.config (content was)) s (g.faults mid) (behind_text copier))
      → IsFramed s end sink answer → SiteCounts (g.faults mid) (g.faults site) answer → SinkCounts sink.faults_was sink.faults_now answer → IsReportOf (job_with job copier) was (devices g mid site) sink end answer s
  report_of copied framed counted puts = record {
    read = record { told_ = read.log; writes_ = read.unwritten; later = read.later };
    behind = behind_text copier;
    behind_ = copied;
    report = told_alike (opening_text s) job.config.volumes (behind_text copier) (site_between g mid site) sink answer
        (shown_by (row_in_list rows) (content (g.told mid))) (plain_volumes job.config (content was) s.history) end s.stopped halts
        (λ t none. same_volumes (are_rows.shown_ t none) ∙ (plain t).shows none) report;
    framed = framed;
    counted = counted;
    puts = puts;
  }

  -- which broke off before a track that couldn't be read
  pub broken_of : OnRead answer (BreaksOff (IsUnread g mid (row_in_list rows) job.config.volumes) (report_matter s job.config.volumes (shown_by (row_in_list rows) (content (g.told mid))) (behind_text copier)) (seen_with (site_between g mid site) sink))
      → OnRead answer (BreaksOff (IsUnread g mid (row_in_list rows) job.config.volumes) (matter_of job (content was) s []) (seen_with (site_between g mid site) sink))
  broken_of off = broken_alike (opening_text s) job.config.volumes (behind_text copier) (site_between g mid site) sink (IsUnread g mid (row_in_list rows) job.config.volumes)
      (shown_by (row_in_list rows) (content (g.told mid))) (plain_volumes job.config (content was) s.history) answer end s.stopped halts
      (λ t none. same_volumes (are_rows.shown_ t none) ∙ (plain t).shows none) report off

module _ {S : Type 0} (g : Ghosts S) (may : List Candidate → ℕ → Type 0) (asked_ : JobAsked) (turns : List ℕ)
    (was : DevicesSeen) (mid site : S) (end : DriveAnswer) (s : SessionData)
    (played : IsPlayed may asked_ turns (record { tells = g.tells; was = was; now = seen_site g mid }) end s) (sink : Stream) where
  pub ends_of : (o : Outcome) → TellsSession asked_ was.told (devices g mid site) sink end s o → JobEnds may asked_ turns (record { tells = g.tells; was = was; now = seen_site g site }) sink o
  ends_of (Untaken why) is = absurd is
  ends_of (Ran session last answer) is =
      subst (λ (x : SessionData × DriveAnswer). IsSessionOf may asked_ turns (record { tells = g.tells; was = was; now = seen_site g site }) sink x.1 answer x.0) (λ i. (sym is.0 i, sym is.1 i))
      (record { mid = seen_site g mid; played = played; report = is.2 })

-- one that wasn't stopped
pub unstopped_of : (asked_ : JobAsked) (was : SiteLog) (site : Devices) (sink : Stream) (end : DriveAnswer) (s : SessionData) (o : Outcome) → TellsSession asked_ was site sink end s o → s.stopped ≡ None → GoesUnstopped o
unstopped_of asked_ was site sink end s (Untaken why) is none = absurd is
unstopped_of asked_ was site sink end s (Ran session last answer) is none = ap (λ (x : SessionData). x.stopped) is.0 ∙ none

-- its report broke off, over the devices that were handed in
module _ {S : Type 0} (g : Ghosts S) (job : JobData)
    (began mid site : S) (end : DriveAnswer) (s : SessionData) (rows : List (Option RowValue))
    (halts : IsHalted end s.stopped) (are_rows : AreRowsOf g.tells (g.told mid) s.stopped rows)
    (sound : StaysSound g.never_fails_but began mid) (read : OnlyReads g mid site) (sink : Stream) (copy : Option AskedCopy) where
  pub broke_off_of : (o : Outcome) → TellsSession (record { job = job; copy = copy }) (g.told began) (devices g mid site) sink end s o
      → OnUnread o (λ (x : SessionData). BreaksOff (IsUnread g mid (row_in_list rows) job.config.volumes) (matter_of job (content (g.told began)) x []) (seen_with (site_between g mid site) sink))
      → OnUnread o (ReportBrokeOff g began job (devices g began site) sink)
  broke_off_of (Untaken why) is off = tt
  broke_off_of (Ran session last (Err (report_fault.Read fault))) is off =
      let going : s.stopped ≡ None = read_going (matter_of job (content (g.told began)) s is.2.behind) (site_between g mid site) sink fault end s.stopped halts is.2.report in
      record {
        going = ap (λ (x : SessionData). x.stopped) is.0 ∙ going;
        rows = rows;
        shown_ = λ t. are_rows.shown_ t going ∙ ap (λ (log : SiteLog). rows_of (content log)) (sym (read.log t));
        off = record {
          place = off.place;
          tracks = off.tracks;
          there = off.there;
          few = off.few;
          unread_ = unread_since g began mid sound _ off.unread_;
          put = off.put;
        };
      }
  broke_off_of (Ran session last (Ok x)) is off = tt
  broke_off_of (Ran session last (Err report_fault.Output)) is off = tt
  broke_off_of (Ran session last (Err report_fault.Memory)) is off = tt

-- ---- what a restart made

pub begun_of : {S C : Type 0} (g : Ghosts S) (config : ConfigData) (chooser : C) (was : DevicesSeen) (core : CoreValue S C)
    → IsConfig config → Restarts g.tells config was (seen_site g core.site) (Ok (opened_in core))
    → Begins config chooser (g.writes core.site) (g.faults core.site) core → (g.tells → BeginsWith config (shown_for config (content was.told)) (g.told core.site) core) → (g.tells → IsToldCore (g.told core.site) core)
    → (g.tells → g.writes core.site ≡ length (g.told core.site).log) → IsBegun g.tells config was (seen_core g core)
begun_of g config chooser was core whole restarts begins with_ kept counted =
    let opened = opens_synced g.tells config was (seen_site g core.site) (opened_in core) restarts in
    record {
      begins = begins_seen g core config chooser begins;
      opened = opened;
      over = λ t. record {
        whole = whole;
        opened = telling g.tells t config was (seen_site g core.site) (Ok (opened_in core)) opened;
        begins = begins_seen g core config chooser begins;
        with_ = with_seen g core config (shown_for config (content was.told)) (with_ t);
        told = told_seen g core (kept t);
        counted = counted t;
      };
    }
