-- What was told, part by part.
use Rattle.std.proofs.Common.{◌≡◌, ◌≤◌, ℕ, zero, suc, ◌/◌, ◌%◌, List, [], ◌++◌, Ok, Err, refl, sym, ◌∙◌, ap, subst, arith, append_assoc}
use Rattle.std.proofs.lemmas.List.{append-nil}
use Rattle.mss_base.specs.Counts.{Rises, IsFaultSince}
use Rattle.mss_base.specs.Puts.{PutsFront}
use Rattle.mss_base.proofs.Putting.{puts_after, puts_stops, puts_nothing}
use Rattle.ckd_track.specs.Data.{Volumes}
use Rattle.report_text.specs.Texts.{stopped_text, track_text, tracks_text}
use Rattle.report_text.specs.declared.report.ReportFault.{ReportFault as PartFault}
use Rattle.report_text.specs.declared.report.ReportFault.TheVariants as part
use Rattle.session_report.specs.Answers.{Answer, IsPut, whole as put_whole, broken, cut, fault_of}
use Rattle.session_report.specs.Parties.{Stream, ToldDevices, seen_with}
use Rattle.session_report.specs.Parts.{TracksOfVolume, Told, PutsTracks, PutsVolumes, CountsReads}
use Rattle.session_report.specs.Reports.{Heading, Matter, Ending, finished, stopped, Telling, whole, unread, untitled_matter, volumes_text, front_text, last_text, told_text, told_answer, BreaksOff, IsReported, OnRead}
use Rattle.session_report.specs.declared.fault.ReportFault.TheVariants as report_fault
use Rattle.session_report.specs.declared.fault.VolumesFault.{VolumesFault}
use Rattle.session_report.specs.declared.fault.VolumesFault.TheVariants as volumes_fault
use Rattle.session_report.specs.declared.reporting.Last.{Last}

-- ---- one volume

-- tracks that are blank have no text
pub blank_tracks : (track : TracksOfVolume) → ((cylinder head : ℕ) → track cylinder head ≡ []) → (n : ℕ) → tracks_text track n ≡ []
unfolding tracks_text track_text
blank_tracks track blank zero = refl
blank_tracks track blank (suc n) =
    ap (λ t. tracks_text track n ++ track_text (n / 19) (n % 19) t) (blank (n / 19) (n % 19)) ∙ append-nil (tracks_text track n) ∙ blank_tracks track blank n

-- the heading was put, and the tracks were behind it or not
pub volume_put : (tells : Type 0) (Unread : ℕ → Type 0) (heading : List ℕ) (track : TracksOfVolume) (old mid new : List ℕ) (r : Told) → (tells → mid ≡ old ++ heading) → PutsTracks tells Unread [] track mid new r
    → PutsTracks tells Unread heading track old new r
volume_put tells Unread heading track old mid new (Ok _) first put = λ t. puts_after {T = Unit {0}} {E = Unit {0}} (Ok tt) old mid new heading (tracks_text track 7676) (first t) (put t)
volume_put tells Unread heading track old mid new (Err (volumes_fault.Read fault)) first put = record {
  tracks = put.tracks;
  few = put.few;
  unread = put.unread;
  put = λ t. puts_after {T = Unit {0}} {E = Unit {0}} (Ok tt) old mid new heading (tracks_text track put.tracks) (first t) (put.put t);
}
volume_put tells Unread heading track old mid new (Err (volumes_fault.Put fault)) first put =
    λ t. puts_after {T = Unit {0}} {E = Unit {0}} (Err tt) old mid new heading (tracks_text track 7676) (first t) (put t)

-- ---- the volumes and a line behind them
pub volumes_fail : (tells : Type 0) (Unread : ℕ → ℕ → Type 0) (shown : Volumes) (volumes : List Heading) (behind line old new : List ℕ) (e : VolumesFault) → PutsVolumes tells Unread (untitled_matter volumes shown []) (volumes_text shown volumes) old new (Err e)
    → PutsVolumes tells Unread (untitled_matter volumes shown behind) (volumes_text shown volumes ++ line) old new (Err e)
volumes_fail tells Unread shown volumes behind line old new (volumes_fault.Read fault) put = put
volumes_fail tells Unread shown volumes behind line old new (volumes_fault.Put fault) put = λ t. puts_stops old new (volumes_text shown volumes) line (put t)

-- ---- how it was told

-- memory ran out before anything was put
pub untold : (m : Matter) (ending : Ending) (site : ToldDevices) (sink : Stream) (answer : Answer) → answer ≡ Err report_fault.Memory → sink.faults_now ≡ sink.faults_was → sink.now ≡ sink.was → IsReported m ending site sink answer
untold m ending site sink answer is counted same = record {
  telling = whole ending;
  reason = refl;
  put = cut is counted (λ t. subst (λ (now : List ℕ). PutsFront sink.was now (told_text m (whole ending))) (sym same) (puts_nothing sink.was (told_text m (whole ending))));
}

-- a count that rose behind a call in which it didn't fall
pub rises_since : (before mid now : ℕ) → before ≤ mid → Rises mid now → Rises before now
rises_since before mid now later rose = omega (arith, later, rose)

-- a stop's line was put, or a front of it
module _ (shown : Volumes) (volumes : List Heading) (behind : List ℕ) (fault : ℕ) (site : ToldDevices) (sink : Stream) (answer : Answer) where
  pub stop_told : answer ≡ Ok tt → (sink.tells → sink.now ≡ sink.was ++ stopped_text fault) → IsReported (untitled_matter volumes shown behind) (stopped fault) site sink answer
  stop_told is put = record { telling = whole (stopped fault); reason = refl; put = put_whole is (λ t. put t.1) }

  pub stop_unput : answer ≡ Err report_fault.Output → Rises sink.faults_was sink.faults_now → (sink.tells → PutsFront sink.was sink.now (stopped_text fault)) → IsReported (untitled_matter volumes shown behind) (stopped fault) site sink answer
  stop_unput is rose front = record { telling = whole (stopped fault); reason = refl; put = broken is rose (λ t. front t.1) }

module _ (shown : Volumes) (volumes : List Heading) (behind : List ℕ) (site : ToldDevices) (sink : Stream) (l : Last) (answer : Answer) where
  -- where clauses may speak of the text
  abbrev Both : Type 0
  Both = site.tells × sink.tells

  abbrev due : List ℕ
  due = volumes_text shown volumes ++ (behind ++ last_text l)

  abbrev Reported : Type 0
  Reported = IsReported (untitled_matter volumes shown behind) (finished l) site sink answer

  pub told_whole : answer ≡ Ok tt → (Both → sink.now ≡ sink.was ++ due) → Reported
  told_whole is bytes = record { telling = whole (finished l); reason = refl; put = put_whole is bytes }

  -- a fault cut the text
  cut_by : (fault : PartFault) → answer ≡ Err (fault_of fault) → (fault ≡ part.Output → Rises sink.faults_was sink.faults_now) → (fault ≡ part.Memory → sink.faults_now ≡ sink.faults_was)
      → (Both → PutsFront sink.was sink.now due) → Reported
  cut_by part.Output is rose counted front = record { telling = whole (finished l); reason = refl; put = broken is (rose refl) front }
  cut_by part.Memory is rose counted front = record { telling = whole (finished l); reason = refl; put = cut is (counted refl) front }

  pub told_fault : (Unread : ℕ → ℕ → Type 0) (e : VolumesFault) (fault : PartFault) → e ≡ volumes_fault.Put fault → answer ≡ Err (fault_of fault)
      → (◌≡◌ {A = Told} (Err e) (Err (volumes_fault.Put part.Output)) → Rises sink.faults_was sink.faults_now)
      → (◌≡◌ {A = Told} (Err e) (Err (volumes_fault.Put part.Memory)) → sink.faults_now ≡ sink.faults_was)
      → PutsVolumes Both Unread (untitled_matter volumes shown behind) due sink.was sink.now (Err e) → Reported
  told_fault Unread e fault e_is is rose counted put =
      cut_by fault is (λ output. rose (ap (λ (x : VolumesFault). Err x) (e_is ∙ ap volumes_fault.Put output)))
      (λ memory. counted (ap (λ (x : VolumesFault). Err x) (e_is ∙ ap volumes_fault.Put memory)))
      (subst (λ (x : VolumesFault). PutsVolumes Both Unread (untitled_matter volumes shown behind) due sink.was sink.now (Err x)) e_is put)

  module _ (Unread : ℕ → ℕ → Type 0) (e : VolumesFault) (fault : ℕ) (mid : List ℕ) (e_is : e ≡ volumes_fault.Read fault) (counted : CountsReads site.faults_was site.faults_now (Err e))
      (put : PutsVolumes Both Unread (untitled_matter volumes shown behind) due sink.was mid (Err e)) where
    since : IsFaultSince site.faults_was site.faults_now fault
    since = subst (λ (x : VolumesFault). CountsReads site.faults_was site.faults_now (Err x)) e_is counted

    before : PutsVolumes Both Unread (untitled_matter volumes shown behind) due sink.was mid (Err (volumes_fault.Read fault))
    before = subst (λ (x : VolumesFault). PutsVolumes Both Unread (untitled_matter volumes shown behind) due sink.was mid (Err x)) e_is put

    -- the count of faults was put behind the volumes before the track that couldn't be read
    pub told_unread : answer ≡ Err (report_fault.Read fault) → (Both → sink.now ≡ mid ++ stopped_text fault) → Reported
    told_unread is bytes = record {
      telling = unread before.place before.tracks fault;
      reason = (tt, before.there, before.few, since);
      put = put_whole is (λ t. puts_after {T = Unit {0}} {E = Unit {0}} (Ok tt) sink.was mid sink.now (front_text shown volumes before.place before.tracks) (stopped_text fault) (before.put t) (bytes t));
    }

    -- so it broke off there
    pub told_broken_off : (Both → sink.now ≡ mid ++ stopped_text fault) → BreaksOff Unread (untitled_matter volumes shown behind) (seen_with site sink) fault
    told_broken_off bytes = record {
      place = before.place;
      tracks = before.tracks;
      there = before.there;
      few = before.few;
      unread_ = before.unread;
      put = λ t. puts_after {T = Unit {0}} {E = Unit {0}} (Ok tt) sink.was mid sink.now (front_text shown volumes before.place before.tracks) (stopped_text fault) (before.put t) (bytes t);
    }

    -- or of that line a front
    pub told_unput : answer ≡ Err report_fault.Output → Rises sink.faults_was sink.faults_now → (Both → PutsFront mid sink.now (stopped_text fault)) → Reported
    told_unput is rose front = record {
      telling = unread before.place before.tracks fault;
      reason = (tt, before.there, before.few, since);
      put = broken is rose (λ t. puts_after {T = Unit {0}} {E = Unit {0}} (Err tt) sink.was mid sink.now (front_text shown volumes before.place before.tracks) (stopped_text fault) (before.put t) (front t));
    }

-- ---- behind an opening
module _ (opening : List ℕ) (shown : Volumes) (volumes : List Heading) (behind : List ℕ) where
  abbrev titled : Matter
  titled = record { opening = opening; shown = shown; volumes = volumes; behind = behind }

  titled_is : (t : Telling) → opening ++ told_text (untitled_matter volumes shown behind) t ≡ told_text titled t
  titled_is (whole (finished l)) = sym (append_assoc opening (volumes_text shown volumes) (behind ++ last_text l))
  titled_is (whole (stopped fault)) = refl
  titled_is (unread place tracks fault) = sym (append_assoc opening (front_text shown volumes place tracks) (stopped_text fault))

  module _ (ending : Ending) (site : ToldDevices) (sink : Stream) (answer : Answer) where
    module _ (mid : List ℕ) (count : ℕ) (first : sink.tells → mid ≡ sink.was ++ opening) (same : count ≡ sink.faults_was) where
      abbrev late : Stream
      late = record sink { was = mid; faults_was = count }

      put_behind : (answered : Answer) (text : List ℕ) → IsPut answered text (seen_with site late) answer → IsPut answered (opening ++ text) (seen_with site sink) answer
      put_behind answered text (put_whole is bytes) = put_whole is (λ t. puts_after {T = Unit {0}} {E = Unit {0}} (Ok tt) sink.was mid sink.now opening text (first t.1) (bytes t))
      put_behind answered text (broken is rose front) =
          broken is (subst (λ (n : ℕ). Rises n sink.faults_now) same rose) (λ t. puts_after {T = Unit {0}} {E = Unit {0}} (Err tt) sink.was mid sink.now opening text (first t.1) (front t))
      put_behind answered text (cut is counted front) = cut is (counted ∙ same) (λ t. puts_after {T = Unit {0}} {E = Unit {0}} (Err tt) sink.was mid sink.now opening text (first t.1) (front t))

      -- the opening was put, and the rest was told
      pub opened : IsReported (untitled_matter volumes shown behind) ending site late answer → IsReported titled ending site sink answer
      opened told = record {
        telling = told.telling;
        reason = told.reason;
        put = subst (λ (text : List ℕ). IsPut (told_answer told.telling) text (seen_with site sink) answer) (titled_is told.telling) (put_behind (told_answer told.telling) (told_text (untitled_matter volumes shown behind) told.telling) told.put);
      }

      -- the opening was put, and the rest broke off
      pub broken_behind : (Unread : ℕ → ℕ → Type 0) (told : Answer) → OnRead told (BreaksOff Unread (untitled_matter volumes shown behind) (seen_with site late)) → OnRead told (BreaksOff Unread titled (seen_with site sink))
      broken_behind Unread (Err (report_fault.Read fault)) off = record {
        place = off.place;
        tracks = off.tracks;
        there = off.there;
        few = off.few;
        unread_ = off.unread_;
        put = λ t. puts_after {T = Unit {0}} {E = Unit {0}} (Ok tt) sink.was mid sink.now opening (told_text (untitled_matter volumes shown behind) (unread off.place off.tracks fault)) (first t.1) (off.put t)
            ∙ ap (λ (text : List ℕ). sink.was ++ text) (titled_is (unread off.place off.tracks fault));
      }
      broken_behind Unread (Ok x) off = tt
      broken_behind Unread (Err report_fault.Output) off = tt
      broken_behind Unread (Err report_fault.Memory) off = tt

    rest_of : (e : Ending) → List ℕ
    rest_of (finished l) = volumes_text shown volumes ++ (behind ++ last_text l)
    rest_of (stopped fault) = stopped_text fault

    whole_is : (e : Ending) → opening ++ rest_of e ≡ told_text titled (whole e)
    unfolding rest_of
    whole_is (finished l) = sym (append_assoc opening (volumes_text shown volumes) (behind ++ last_text l))
    whole_is (stopped fault) = refl

    -- of the opening a front was put
    pub unopened : (fault : PartFault) → answer ≡ Err (fault_of fault) → (fault ≡ part.Output → Rises sink.faults_was sink.faults_now)
        → (fault ≡ part.Memory → sink.faults_now ≡ sink.faults_was) → (sink.tells → PutsFront sink.was sink.now opening)
        → IsReported titled ending site sink answer
    unopened fault is rose counted front = record {
      telling = whole ending;
      reason = refl;
      put = by fault is rose counted (λ t. subst (λ (text : List ℕ). PutsFront sink.was sink.now text) (whole_is ending) (puts_stops sink.was sink.now opening (rest_of ending) (front t.1)));
    }
      where
        by : (fault : PartFault) → answer ≡ Err (fault_of fault) → (fault ≡ part.Output → Rises sink.faults_was sink.faults_now)
            → (fault ≡ part.Memory → sink.faults_now ≡ sink.faults_was) → (site.tells × sink.tells → PutsFront sink.was sink.now (told_text titled (whole ending)))
            → IsPut (told_answer (whole ending)) (told_text titled (whole ending)) (seen_with site sink) answer
        by part.Output is rose counted front = broken is (rose refl) front
        by part.Memory is rose counted front = cut is (counted refl) front
