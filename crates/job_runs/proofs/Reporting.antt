-- What is told of a session, over the volumes that are shown.
use Rattle.std.proofs.Common.{◌≡◌, ℕ, List, [], ◌++◌, Option, None, Ok, Err, ◌∙◌, ap, subst}
use Rattle.mss_base.specs.Puts.{PutsFront}
use Rattle.ckd_track.specs.Data.{Volumes}
use Rattle.serial_driver.specs.declared.answer.DriveAnswer.{DriveAnswer}
use Rattle.serial_driver.specs.declared.answer.DriveAnswer.TheVariants as ended
use Rattle.session_report.specs.Answers.{Answer, IsPut, whole as put_whole, broken, cut}
use Rattle.session_report.specs.Parties.{Stream, ToldDevices, seen_with}
use Rattle.session_report.specs.Reports.{Heading, Matter, BreaksOff, IsReported, OnRead, Telling, HasReason, finished, stopped, told_answer, told_text, whole, unread}
use Rattle.session_report.specs.declared.fault.ReportFault.TheVariants as report_fault
use Rattle.session_report.specs.declared.reporting.Last.{Last}
use Rattle.job_runs.specs.Runs.{IsHalted, IsTold}

module _ (opening : List ℕ) (volumes : List Heading) (behind : List ℕ) (site : ToldDevices) (sink : Stream) (answer : Answer) where
  abbrev about : Volumes → Matter
  about shown = record { opening = opening; shown = shown; volumes = volumes; behind = behind }

  module _ (a b : Volumes) where
    put_alike : (telling : Telling) → (site.tells → told_text (about a) telling ≡ told_text (about b) telling) → IsPut (told_answer telling) (told_text (about a) telling) (seen_with site sink) answer
        → IsPut (told_answer telling) (told_text (about b) telling) (seen_with site sink) answer
    put_alike telling same (put_whole is bytes) = put_whole is (λ t. bytes t ∙ ap (λ (text : List ℕ). sink.was ++ text) (same t.0))
    put_alike telling same (broken is rose front) = broken is rose (λ t. subst (PutsFront sink.was sink.now) (same t.0) (front t))
    put_alike telling same (cut is counted front) = cut is counted (λ t. subst (PutsFront sink.was sink.now) (same t.0) (front t))

    -- a session that wasn't stopped, where the volumes are the same
    finished_alike : (l : Last) → (site.tells → a ≡ b) → IsReported (about a) (finished l) site sink answer → IsReported (about b) (finished l) site sink answer
    finished_alike l same is = record {
      telling = is.telling;
      reason = reason_of is.telling is.reason;
      put = put_alike is.telling (λ t. ap (λ (v : Volumes). told_text (about v) is.telling) (same t)) is.put;
    }
      where
        reason_of : (telling : Telling) → HasReason (finished l) volumes site.faults_was site.faults_now telling → HasReason (finished l) volumes site.faults_was site.faults_now telling
        reason_of telling reason = reason

    -- one that was stopped has none
    stopped_alike : (fault : ℕ) → IsReported (about a) (stopped fault) site sink answer → IsReported (about b) (stopped fault) site sink answer
    stopped_alike fault is = by is.telling is.reason is.put
      where
        by : (telling : Telling) → HasReason (stopped fault) volumes site.faults_was site.faults_now telling → IsPut (told_answer telling) (told_text (about a) telling) (seen_with site sink) answer → IsReported (about b) (stopped fault) site sink answer
        by (whole (finished l)) reason put = absurd (let e : finished l ≡ stopped fault = reason in cc)
        by (whole (stopped other)) reason put = record { telling = whole (stopped other); reason = reason; put = put }
        by (unread place tracks other) reason put = absurd reason.0

    pub told_alike : (end : DriveAnswer) (kept : Option ℕ) → IsHalted end kept → (site.tells → kept ≡ None → a ≡ b) → IsTold (about a) end site sink answer → IsTold (about b) end site sink answer
    told_alike ended.Done kept none same is = finished_alike _ (λ t. same t none) is
    told_alike ended.CommandLimit kept none same is = finished_alike _ (λ t. same t none) is
    told_alike (ended.Stopped fault) kept halts same is = stopped_alike fault is
    told_alike ended.Memory kept none same is = is

-- ---- a failed read

-- none is told of a session that was stopped
stopped_unread : (m : Matter) (site : ToldDevices) (sink : Stream) (fault kept : ℕ) (telling : Telling) → HasReason (stopped kept) m.volumes site.faults_was site.faults_now telling
    → IsPut (told_answer telling) (told_text m telling) (seen_with site sink) (Err (report_fault.Read fault)) → ⊥
stopped_unread m site sink fault kept (whole e) reason (put_whole is bytes) = let no : ◌≡◌ {A = Answer} (Err (report_fault.Read fault)) (Ok tt) = is in cc
stopped_unread m site sink fault kept (whole e) reason (broken is rose front) = let no : ◌≡◌ {A = Answer} (Err (report_fault.Read fault)) (Err report_fault.Output) = is in cc
stopped_unread m site sink fault kept (whole e) reason (cut is counted front) = let no : ◌≡◌ {A = Answer} (Err (report_fault.Read fault)) (Err report_fault.Memory) = is in cc
stopped_unread m site sink fault kept (unread place tracks other) reason put = reason.0

pub read_going : (m : Matter) (site : ToldDevices) (sink : Stream) (fault : ℕ) (end : DriveAnswer) (kept : Option ℕ) → IsHalted end kept → IsTold m end site sink (Err (report_fault.Read fault)) → kept ≡ None
read_going m site sink fault ended.Done kept halts is = halts
read_going m site sink fault ended.CommandLimit kept halts is = halts
read_going m site sink fault (ended.Stopped other) kept halts is = absurd (stopped_unread m site sink fault other is.telling is.reason is.put)
read_going m site sink fault ended.Memory kept halts is = halts

-- the report broke off, where the volumes are the same
module _ (opening : List ℕ) (volumes : List Heading) (behind : List ℕ) (site : ToldDevices) (sink : Stream) (Unread : ℕ → ℕ → Type 0) (a b : Volumes) where
  abbrev Off : Volumes → ℕ → Type 0
  Off shown fault = BreaksOff Unread (record { opening = opening; shown = shown; volumes = volumes; behind = behind }) (seen_with site sink) fault

  abbrev Off_ : Volumes → ℕ → Type 0
  Off_ shown fault = BreaksOff Unread (record { opening = opening; shown = shown; volumes = volumes; behind = [] }) (seen_with site sink) fault

  pub broken_alike : (answer : Answer) (end : DriveAnswer) (kept : Option ℕ) → IsHalted end kept → (site.tells → kept ≡ None → a ≡ b) → IsTold (record { opening = opening; shown = a; volumes = volumes; behind = behind }) end site sink answer
      → OnRead answer (Off a) → OnRead answer (Off_ b)
  broken_alike (Err (report_fault.Read fault)) end kept halts same is off = record {
    place = off.place;
    tracks = off.tracks;
    there = off.there;
    few = off.few;
    unread_ = off.unread_;
    put = λ t. off.put t ∙ ap (λ (v : Volumes). sink.was ++ told_text (record { opening = opening; shown = v; volumes = volumes; behind = behind }) (unread off.place off.tracks fault))
        (same t.0 (read_going (record { opening = opening; shown = a; volumes = volumes; behind = behind }) site sink fault end kept halts is));
  }
  broken_alike (Ok x) end kept halts same is off = tt
  broken_alike (Err report_fault.Output) end kept halts same is off = tt
  broken_alike (Err report_fault.Memory) end kept halts same is off = tt
