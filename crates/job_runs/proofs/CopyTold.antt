-- What a report tells of a copy.
use Rattle.std.proofs.Common.{◌≡◌, ℕ, List, [], ◌++◌, take, Option, Some, None, refl, ap, subst, arith}
use Rattle.std.specs.Prelude.{IfSome, unwrap_or}
use Rattle.mss_base.specs.Configs.{ConfigData}
use Rattle.mss_base.specs.Content.{SiteLog, content}
use Rattle.mss_base.specs.declared.site.Site.{Ghosts}
use Rattle.ckd_track.specs.Data.{RecordData, Volumes}
use Rattle.ckd_plain.specs.Data.{State}
use Rattle.ckd_plain.specs.History.{EntryData, after}
use Rattle.core_state.specs.CoreValue.{CoreValue}
use Rattle.core_state.specs.IsCore.{opening_of}
use Rattle.core_state.specs.SessionData.{SessionData, data_of}
use Rattle.plain_sessions.specs.Sessions.{plain_start, plain_volumes}
use Rattle.report_text.specs.Texts.{tracks_text}
use Rattle.report_text.proofs.TrackTexts.{tracks_text-same}
use Rattle.session_report.specs.CopyTexts.{behind_text, copied_line, copied_tracks, text_at}
use Rattle.session_report.specs.Reports.{TRACKS_OF_VOLUME}
use Rattle.volume_copy.specs.declared.copier.CopyState.{CopyState}
use Rattle.volume_copy.specs.declared.copier.CopyState.TheVariants.{Armed, NoVolume, Taking, Whole, Failed}
use Rattle.volume_copy.specs.Beside.{IsCopied, IsFinished, asked_copy}
use Rattle.volume_copy.specs.Copies.{CopyData, FailedIn, IsCopier, IsVolumeIn, Stands}
use Rattle.job_runs.specs.Copies.{FailedOf, IsBehind, IsCopyOf, IsCopyTold, copied, failed, no_volume}

failed_of : {S C : Type 0} (g : Ghosts S) (w : CoreValue S C) (state : CopyState) → FailedIn w (g.faults w.site) state → FailedOf (data_of w) (g.faults w.site) state
failed_of g w Armed is = tt
failed_of g w NoVolume is = tt
failed_of g w Taking is = tt
failed_of g w Whole is = tt
failed_of g w (Failed fault) is = record { within = is.within; own = is.own.in_entry }

-- a core's finished copier is that of its session
pub copy_of : {S C : Type 0} (g : Ghosts S) (w : CoreValue S C) (config : ConfigData) (was : SiteLog) → w.stopped ≡ None → (g.tells → opening_of (g.told w.site) w ≡ plain_start config (content was)) → (c : CopyData) → IsCopied g w c
    → IsCopyOf g.tells config was (g.faults w.site) (data_of w) c
copy_of g w config was none begins c is = record {
  stands = λ t. subst (λ (s : State). Stands c.state c s w.history) (begins t) (is.stands t none);
  point_ = is.point_;
  failed = failed_of g w c.state is.failed;
  finished = is.finished;
}

pub copies_of : {S C : Type 0} (g : Ghosts S) (w : CoreValue S C) (config : ConfigData) (was : SiteLog) → w.stopped ≡ None → (g.tells → opening_of (g.told w.site) w ≡ plain_start config (content was)) → (copier : Option CopyData)
    → IfSome copier (IsCopied g w) → IfSome copier (IsCopyOf g.tells config was (g.faults w.site) (data_of w))
copies_of g w config was none begins None is = tt
copies_of g w config was none begins (Some c) is = copy_of g w config was none begins c is

module _ (tells : Type 0) (config : ConfigData) (was : SiteLog) (faults : ℕ) (s : SessionData)
    (whole_law : (c : CopyData) (start : State) (history : List EntryData) → IsCopier c → c.state ≡ Whole → Stands c.state c start history → IsVolumeIn c (after start (take c.point history)).volumes) where
  abbrev volumes : List EntryData → Volumes
  volumes = plain_volumes config (content was)

  abbrev start : State
  start = plain_start config (content was)

  module _ (c : CopyData) (kept : IsCopier c) (is : IsCopyOf tells config was faults s c) (t : tells) where
    whole_text : c.state ≡ Whole → text_at Whole c ≡ copied_line c.volume c.point ++ tracks_text ((volumes (take c.point s.history)).track c.volume) TRACKS_OF_VOLUME
    whole_text whole =
        let inside : IsVolumeIn c (after start (take c.point s.history)).volumes = whole_law c start s.history kept whole (is.stands t) in
        ap (λ (text : List ℕ). copied_line c.volume c.point ++ text)
        (tracks_text-same (copied_tracks c.tracks) ((volumes (take c.point s.history)).track c.volume) 7676
        (λ cylinder head low few. ap (λ (o : Option (List RecordData)). unwrap_or o []) (inside cylinder head (omega (arith, low, few)) low)))

    told_by : (state : CopyState) → c.state ≡ state → Stands state c start s.history → FailedOf s faults state → IsFinished state
        → IsCopyTold (record { volume = c.volume; after_ = c.after_ }) volumes s faults (text_at state c)
    told_by Armed at stands fails done = absurd done
    told_by NoVolume at stands fails done = no_volume stands refl
    told_by Taking at stands fails done = absurd done
    told_by Whole at stands fails done = copied c.point is.point_ stands.there (whole_text at)
    told_by (Failed fault) at stands fails done = failed fault fails stands refl

  pub behind_of : (copier : Option CopyData) → IfSome copier IsCopier → IfSome copier (IsCopyOf tells config was faults s) → IsBehind tells (asked_copy copier) volumes s faults (behind_text copier)
  behind_of None kept is = refl
  behind_of (Some c) kept is = λ t. told_by c kept is t c.state refl (is.stands t) is.failed is.finished
