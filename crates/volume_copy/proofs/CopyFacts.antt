-- What the calls of a copier leave of what it stands for.
use Rattle.std.proofs.Common.{◌≡◌, ◌⊎◌, inl, inr, ℕ, true, false, min, ◌≤◌, List, length, take, Option, Some, None, IsSome, Result, Ok, Err, refl, sym, ap, subst, ◌∙◌, arith}
use Rattle.std.specs.Option.{option_map}
use Rattle.std.specs.Result.{OnOk, OnErr}
use Rattle.std.proofs.lemmas.Bool.{cond_both}
use Rattle.std.proofs.lemmas.List.{take_all}
use Rattle.mss_base.specs.Content.{SiteLog, content}
use Rattle.mss_base.specs.Counts.{IsFaultSince}
use Rattle.mss_base.specs.Sites.{OnlyReads}
use Rattle.mss_base.specs.declared.site.Site.{Ghosts}
use Rattle.ckd_track.specs.Data.{RecordData, Volumes}
use Rattle.ckd_plain.specs.Data.{State}
use Rattle.ckd_plain.specs.History.{EntryData, after}
use Rattle.shown_volumes.specs.Shown.{shown_by}
use Rattle.volume_table.specs.Row.{RowValue}
use Rattle.volume_table.specs.Listed.{row_in_list}
use Rattle.core_state.specs.Counted.{AreFaults}
use Rattle.core_state.specs.CoreValue.{CoreValue}
use Rattle.core_state.specs.IsCore.{IsGoing, opening_of}
use Rattle.core_state.specs.SessionData.{data_of}
use Rattle.core_state.specs.TheCore.{IsKept}
use Rattle.core_state.proofs.CountedFacts.{counted_later}
use Rattle.core_state.proofs.Moved.{whole_moved}
use Rattle.volume_copy.specs.declared.copier.CopyState.{CopyState}
use Rattle.volume_copy.specs.declared.copier.CopyState.TheVariants.{Armed, NoVolume, Taking, Whole, Failed}
use Rattle.volume_copy.proofs.EntryFacts.{serials_after}
use Rattle.volume_copy.proofs.FaultFacts.{own_new}
use Rattle.volume_copy.specs.Beside.{IsCopied, IsFinished, StandsBeside}
use Rattle.volume_copy.specs.Copies.{AreNoneTaken, FailedApart, FailedIn, IsCopier, CopyData, IsCopying, IsOnTime, IsTrackOf, Stands, StandsFor, taken_at, track_of}
use Rattle.volume_copy.specs.Steps.{begun_copy, begun_if_armed, is_armed, Finishes, IsLeftOrTaken, IsOfSame, KeepsStanding, TakesOnce, TakesOrFails, TakesTracks, had, lacked, taken, failed, rests, whole}

-- ---- what is shown of a core that goes on

shown_volumes : {S C : Type 0} (site : SiteLog) (v : CoreValue S C) → IsGoing site v → shown_by (row_in_list v.rows) (content site) ≡ (after (opening_of site v) v.history).volumes
shown_volumes site v going = ap (λ rows. shown_by rows (content site)) (sym going.rows_) ∙ going.shows

-- ---- tracks

track_taken : (tells : Type 0) → tells → (o o' : Option (List RecordData)) (seen point now : List RecordData) → seen ≡ now → IsLeftOrTaken tells o o' seen → IsTrackOf o point now → IsTrackOf o' point now
track_taken tells tl (Some track) o' seen point now same is old = subst (λ (x : Option (List RecordData)). IsTrackOf x point now) (sym is) old
track_taken tells tl None o' seen point now same (inl none) old = subst (λ (x : Option (List RecordData)). IsTrackOf x point now) (sym none) old
track_taken tells tl None o' seen point now same (inr some) old = subst (λ (x : Option (List RecordData)). IsTrackOf x point now) (sym (some.1 tl)) (same ∙ old)

module _ (tells : Type 0) (tl : tells) (volumes : Volumes) (s : State) (history : List EntryData) (same : volumes ≡ (after s history).volumes) (old new : CopyData) where
  copying : TakesTracks tells volumes old new → IsCopying old s history → IsCopying new s history
  copying takes is = record {
    reached = subst (λ (n : ℕ). n ≤ length history) (sym takes.same.point_) is.reached;
    there = subst (λ (v : ℕ). IsSome (s.volumes.serial v)) (sym takes.same.volume_) is.there;
    tracks_ = λ n few. rw (takes.same.point_, takes.same.volume_) (track_taken tells tl (taken_at old.tracks n) (taken_at new.tracks n) (track_of volumes old.volume n) _ _ (ap (λ (x : Volumes). track_of x old.volume n) same)
        (takes.tracks_ n) (is.tracks_ n few));
  }

  -- a copy that was taking goes on
  pub stands_on : old.state ≡ Taking → TakesTracks tells volumes old new → Stands old.state old s history → Stands new.state new s history
  stands_on taking takes stands =
      let is : IsCopying old s history = subst (λ (state : CopyState). Stands state old s history) taking stands in
      elim takes.state_ [
        | inl t ↦ subst (λ (state : CopyState). Stands state new s history) (sym t) (copying takes is)
        | inr t ↦ subst (λ (state : CopyState). Stands state new s history) (sym t) (copying takes is)
      ]

  pub stands_failed : (fault : ℕ) → new.state ≡ Failed fault → new.volume ≡ old.volume → old.state ≡ Taking → Stands old.state old s history → Stands new.state new s history
  stands_failed fault is volume_ taking stands =
      let copy : IsCopying old s history = subst (λ (state : CopyState). Stands state old s history) taking stands in
      subst (λ (state : CopyState). Stands state new s history) (sym is) (subst (λ (v : ℕ). IsSome (s.volumes.serial v)) (sym volume_) copy.there)

-- ---- its start

none_kept : {S C : Type 0} (site : SiteLog) (v : CoreValue S C) → IsGoing site v → (volume : ℕ) → (after (opening_of site v) v.history).volumes.serial volume ≡ option_map (λ r. r.serial) (row_in_list v.rows volume)
none_kept site v going volume = ap (λ (x : Volumes). x.serial volume) (sym (shown_volumes site v going))

armed_is : (state : CopyState) → is_armed state ≡ true → state ≡ Armed
armed_is Armed is = refl
armed_is NoVolume is = absurd cc
armed_is Taking is = absurd cc
armed_is Whole is = absurd cc
armed_is (Failed fault) is = absurd cc

module _ {S C : Type 0} (site : SiteLog) (v : CoreValue S C) (going : IsGoing site v) (c : CopyData) (kept : IsCopier c) where
  serial_is : (opening_of site v).volumes.serial c.volume ≡ option_map (λ r. r.serial) (row_in_list v.rows c.volume)
  serial_is = ap (λ (f : ℕ → Option (List ℕ)). f c.volume) (sym (serials_after (opening_of site v) v.history)) ∙ none_kept site v going c.volume

  -- a copy that begins now stands for the session
  begun_stands : AreNoneTaken c.tracks → (row : Option RowValue) → row_in_list v.rows c.volume ≡ row
      → let new = begun_copy row (length v.history) c in Stands new.state new (opening_of site v) v.history
  begun_stands bare None is = serial_is ∙ ap (option_map (λ (r : RowValue). r.serial)) is
  begun_stands bare (Some r) is = record {
    reached = omega arith;
    there = subst IsSome (sym (serial_is ∙ ap (option_map (λ (r : RowValue). r.serial)) is)) cc;
    tracks_ = λ n few. subst (λ (o : Option (List RecordData)). IsTrackOf o (track_of (after (opening_of site v) (take (length v.history) v.history)).volumes c.volume n) (track_of (after (opening_of site v) v.history).volumes c.volume n)) (sym (bare n))
        (ap (λ (es : List EntryData). track_of (after (opening_of site v) es).volumes c.volume n) (sym (take_all (length v.history) v.history (omega arith))));
  }

  pub armed_stands : Stands c.state c (opening_of site v) v.history
      → let new = begun_if_armed (row_in_list v.rows c.volume) (length v.history) c in Stands new.state new (opening_of site v) v.history
  armed_stands stands = cond_both (is_armed c.state) (begun_copy (row_in_list v.rows c.volume) (length v.history) c) c (λ (new : CopyData). Stands new.state new (opening_of site v) v.history)
      (λ armed. begun_stands (kept.armed (armed_is c.state armed)) (row_in_list v.rows c.volume) refl) (λ _. stands)

-- ---- a core that was read

pub kept_read : {S C : Type 0} (tells : Type 0) (s t : SiteLog) (writes faults later_writes later : ℕ) (v : CoreValue S C) (x : S) → (tells → t ≡ s) → later_writes ≡ writes → faults ≤ later
    → IsKept tells s writes faults v → IsKept tells t later_writes later (record v { site = x })
kept_read {S} tells s t writes faults later_writes later v x same unwritten le kept = record {
  whole = whole_moved S tells s t v x kept.whole same;
  counted = counted_later writes faults later_writes later v.requests (data_of v) kept.counted (omega (arith, unwritten)) le;
}

-- ---- its time

not_armed : (c : CopyData) (fault : ℕ) → c.state ≡ Failed fault → c.state ≡ Armed → ⊥
not_armed c fault failed_ armed = let e : Failed fault ≡ Armed = sym failed_ ∙ armed in absurd cc

begun_state : (c : CopyData) → (c.state ≡ Taking) ⊎ (c.state ≡ Whole) → c.state ≡ Armed → ⊥
begun_state c (inl is) armed = let e : Taking ≡ Armed = sym is ∙ armed in absurd cc
begun_state c (inr is) armed = let e : Whole ≡ Armed = sym is ∙ armed in absurd cc

on_time : (old new : CopyData) (history : List EntryData) → old.state ≡ Taking → (new.state ≡ Armed → ⊥) → IsOfSame old new → IsOnTime old history → IsOnTime new history
on_time old new history taking begun_ same on =
    let was : (old.point ≡ old.after_) × (old.after_ ≤ length history) = on.began (begun_state old (inl taking)) in
    record {
      waits = λ armed. absurd (begun_ armed);
      began = λ isn't. (same.point_ ∙ was.0 ∙ sym same.time, (let t = same.time in omega (arith, t, was.1)));
    }

-- ---- a read that failed

-- the copy of a call goes on, unless its own read fails
failed_new : {S C : Type 0} (v : CoreValue S C) (before now fault : ℕ) → v.first_faults ≤ before → AreFaults v.first_faults before v.history v.requests → IsFaultSince before now fault → FailedApart v.history v.requests v.first_faults now fault
failed_new v before now fault le are is = record {
  within = record {
    rises = let c = is.count in let r = is.rises in omega (arith, c, r, le);
    past = let c = is.count in omega (arith, c);
  };
  own = own_new v.first_faults before now v.history v.requests fault are is;
}

pub failed_later : {S C : Type 0} (v : CoreValue S C) (before now : ℕ) (state : CopyState) → before ≤ now → FailedIn v before state → FailedIn v now state
failed_later v before now Armed le is = tt
failed_later v before now NoVolume le is = tt
failed_later v before now Taking le is = tt
failed_later v before now Whole le is = tt
failed_later v before now (Failed fault) le is = record { within = record { rises = is.within.rises; past = let p = is.within.past in omega (arith, p, le) }; own = is.own }

failed_none : {S C : Type 0} (v : CoreValue S C) (now : ℕ) (state : CopyState) → (state ≡ Taking) ⊎ (state ≡ Whole) → FailedIn v now state
failed_none v now state (inl is) = subst (FailedIn v now) (sym is) tt
failed_none v now state (inr is) = subst (FailedIn v now) (sym is) tt

begun_failed : {S C : Type 0} (v : CoreValue S C) (now : ℕ) (row : Option RowValue) (n : ℕ) (c : CopyData) → FailedIn v now (begun_copy row n c).state
begun_failed v now None n c = tt
begun_failed v now (Some r) n c = tt

pub armed_failed : {S C : Type 0} (v : CoreValue S C) (now : ℕ) (row : Option RowValue) (n : ℕ) (c : CopyData) → FailedIn v now c.state → FailedIn v now (begun_if_armed row n c).state
armed_failed v now row n c is = cond_both (is_armed c.state) (begun_copy row n c) c (λ (x : CopyData). FailedIn v now x.state) (λ _. begun_failed v now row n c) (λ _. is)

-- ---- what a call leaves of a copy

module _ {S C : Type 0} (g : Ghosts S) (v : CoreValue S C) (x : S) (reads : OnlyReads g v.site x) (going : g.tells → v.stopped ≡ None → IsGoing (g.told v.site) v) (began : v.first_faults ≤ g.faults v.site) (are : AreFaults v.first_faults (g.faults v.site) v.history v.requests) where
  abbrev shown_there : Volumes
  shown_there = shown_by (row_in_list v.rows) (content (g.told v.site))

  abbrev start : State
  start = opening_of (g.told v.site) v

  module _ (n : ℕ) (old new : CopyData) (taking : old.state ≡ Taking) where
    track_stands : g.tells → v.stopped ≡ None → TakesOrFails g.tells shown_there n (g.faults v.site) (g.faults x) old new → Stands old.state old start v.history → Stands new.state new start v.history
    track_stands tl none (taken takes unfailed) stands = stands_on g.tells tl shown_there start v.history (shown_volumes (g.told v.site) v (going tl none)) old new taking takes.takes stands
    track_stands tl none (failed fault since is) stands =
        stands_failed g.tells tl shown_there start v.history (shown_volumes (g.told v.site) v (going tl none)) old new fault (ap (λ (c : CopyData). c.state) is) (ap (λ (c : CopyData). c.volume) is) taking stands

    track_time : TakesOrFails g.tells shown_there n (g.faults v.site) (g.faults x) old new → IsOnTime old v.history → IsOnTime new v.history
    track_time (taken takes unfailed) on = on_time old new v.history taking (begun_state new takes.takes.state_) takes.takes.same on
    track_time (failed fault since is) on = on_time old new v.history taking (not_armed new fault (ap (λ (c : CopyData). c.state) is))
        (record { volume_ = ap (λ (c : CopyData). c.volume) is; time = ap (λ (c : CopyData). c.after_) is; point_ = ap (λ (c : CopyData). c.point) is }) on

    track_failed : TakesOrFails g.tells shown_there n (g.faults v.site) (g.faults x) old new → FailedIn v (g.faults x) new.state
    track_failed (taken takes unfailed) = failed_none v (g.faults x) new.state takes.takes.state_
    track_failed (failed fault since is) = subst (FailedIn v (g.faults x)) (sym (ap (λ (c : CopyData). c.state) is)) (failed_new v (g.faults v.site) (g.faults x) fault began are since)

    pub track_keeps : TakesOrFails g.tells shown_there n (g.faults v.site) (g.faults x) old new → KeepsStanding g v (record v { site = x }) old new
    track_keeps told = record {
      stands = λ tl stands none. subst (λ (t : SiteLog). Stands new.state new (opening_of t v) v.history) (sym (reads.log tl)) (track_stands tl none told (stands none));
      time = track_time told;
      failed = λ _. track_failed told;
    }

  pub same_keeps : (c : CopyData) → KeepsStanding g v (record v { site = x }) c c
  same_keeps c = record {
    stands = λ tl stands none. subst (λ (t : SiteLog). Stands c.state c (opening_of t v) v.history) (sym (reads.log tl)) (stands none);
    time = λ on. on;
    failed = failed_later v (g.faults v.site) (g.faults x) c.state reads.later;
  }

  pub once_keeps : (n : ℕ) (old new : CopyData) → old.state ≡ Taking → TakesOnce g.tells shown_there n (g.faults v.site) (g.faults x) old new → KeepsStanding g v (record v { site = x }) old new
  once_keeps n old new taking (had some same unfailed) = subst (λ (c : CopyData). KeepsStanding g v (record v { site = x }) old c) (sym same) (same_keeps old)
  once_keeps n old new taking (lacked left_ told) = track_keeps n old new taking told

  -- ---- behind the session

  abbrev Ends : CopyData → CopyData → Type 0
  Ends c new = Finishes g.tells shown_there (g.faults v.site) (g.faults x) c new

  finished_stands : (c new : CopyData) → g.tells → v.stopped ≡ None → Ends c new → Stands c.state c start v.history → Stands new.state new start v.history
  finished_stands c new tl none (rests isn't same unfailed) stands = subst (λ (k : CopyData). Stands k.state k start v.history) (sym same) stands
  finished_stands c new tl none (whole taking is takes unfailed) stands = stands_on g.tells tl shown_there start v.history (shown_volumes (g.told v.site) v (going tl none)) c new taking takes stands
  finished_stands c new tl none (failed fault taking since is same) stands =
      stands_failed g.tells tl shown_there start v.history (shown_volumes (g.told v.site) v (going tl none)) c new fault is same.volume_ taking stands

  finished_failed : (c new : CopyData) → Ends c new → FailedIn v (g.faults v.site) c.state → FailedIn v (g.faults x) new.state
  finished_failed c new (rests isn't same unfailed) is = subst (λ (k : CopyData). FailedIn v (g.faults x) k.state) (sym same) (failed_later v (g.faults v.site) (g.faults x) c.state reads.later is)
  finished_failed c new (whole taking is takes unfailed) _ = failed_none v (g.faults x) new.state (inr is)
  finished_failed c new (failed fault taking since is same) _ = subst (FailedIn v (g.faults x)) (sym is) (failed_new v (g.faults v.site) (g.faults x) fault began are since)

  finished_point : (c new : CopyData) → Ends c new → (new.point ≡ c.point) × (new.after_ ≡ c.after_)
  finished_point c new (rests isn't same unfailed) = (ap (λ (k : CopyData). k.point) same, ap (λ (k : CopyData). k.after_) same)
  finished_point c new (whole taking is takes unfailed) = (takes.same.point_, takes.same.time)
  finished_point c new (failed fault taking since is same) = (same.point_, same.time)

  finished_state : (c new : CopyData) → (c.state ≡ Armed → ⊥) → Ends c new → IsFinished new.state
  finished_state c new begun_ (rests isn't same unfailed) = subst (λ (k : CopyData). IsFinished k.state) (sym same) (by_state c.state begun_ isn't)
    where
      by_state : (state : CopyState) → (state ≡ Armed → ⊥) → (state ≡ Taking → ⊥) → IsFinished state
      by_state Armed a t = absurd (a refl)
      by_state NoVolume a t = tt
      by_state Taking a t = absurd (t refl)
      by_state Whole a t = tt
      by_state (Failed fault) a t = tt
  finished_state c new begun_ (whole taking is takes unfailed) = subst IsFinished (sym is) tt
  finished_state c new begun_ (failed fault taking since is same) = subst IsFinished (sym is) tt

  -- a copy that is finished stands for the session
  module _ (old new : CopyData) (kept : IsCopier old) (ends : Ends (begun_if_armed (row_in_list v.rows old.volume) (length v.history) old) new) where
    abbrev begun_now : CopyData
    begun_now = begun_if_armed (row_in_list v.rows old.volume) (length v.history) old

    pub finish_stands : g.tells → StandsFor (g.told v.site) old v → StandsFor (g.told x) new (record v { site = x })
    finish_stands tl stands none =
        subst (λ (t : SiteLog). Stands new.state new (opening_of t v) v.history) (sym (reads.log tl))
        (finished_stands begun_now new tl none ends (armed_stands (g.told v.site) v (going tl none) old kept (stands none)))

    begun_point : IsOnTime old v.history → (begun_now.point ≡ min begun_now.after_ (length v.history)) × (begun_now.state ≡ Armed → ⊥)
    begun_point on = cond_both (is_armed old.state) (begun_copy (row_in_list v.rows old.volume) (length v.history) old) old (λ (c : CopyData). (c.point ≡ min c.after_ (length v.history)) × (c.state ≡ Armed → ⊥))
        (λ armed. (let lt = on.waits (armed_is old.state armed) in omega (arith, lt), not_armed_now (row_in_list v.rows old.volume)))
        (λ isn't. let was = on.began (λ is. armed_not old.state is isn't) in ((let e = was.0 in let le = was.1 in omega (arith, e, le)), λ is. armed_not old.state is isn't))
      where
        not_armed_now : (row : Option RowValue) → (begun_copy row (length v.history) old).state ≡ Armed → ⊥
        not_armed_now None is = let e : NoVolume ≡ Armed = is in absurd cc
        not_armed_now (Some r) is = let e : Taking ≡ Armed = is in absurd cc

        armed_not : (state : CopyState) → state ≡ Armed → is_armed state ≡ false → ⊥
        armed_not state is isn't = let e : true ≡ false = sym (ap is_armed is) ∙ isn't in absurd cc

    pub finish_copied : StandsBeside g v old → IsCopied g (record v { site = x }) new
    finish_copied beside =
        let at = begun_point beside.time in
        let same = finished_point begun_now new ends in
        record {
          stands = λ tl. finish_stands tl (beside.stands tl);
          point_ = same.0 ∙ at.0 ∙ (λ i. min (sym same.1 i) (length v.history));
          failed = finished_failed begun_now new ends (armed_failed v (g.faults v.site) (row_in_list v.rows old.volume) (length v.history) old beside.failed);
          finished = finished_state begun_now new at.1 ends;
        }

  -- a track was taken, or not for want of memory
  pub attended_keeps : {E : Type 0} (r : Result (Unit {0}) E) (n : ℕ) (old new : CopyData) → old.state ≡ Taking
      → OnOk r (TakesOnce g.tells shown_there n (g.faults v.site) (g.faults x) old new) → OnErr r ((new ≡ old) × (x ≡ v.site)) → KeepsStanding g v (record v { site = x }) old new
  attended_keeps (Ok done) n old new taking once short = once_keeps n old new taking once
  attended_keeps (Err fault) n old new taking once short = subst (λ (c : CopyData). KeepsStanding g v (record v { site = x }) old c) (sym short.0) (same_keeps old)

-- ---- the same of a core that was looked into

module _ {S C : Type 0} (g : Ghosts S) (v w : CoreValue S C) (seen : v ≡ w) (kept : IsKept g.tells (g.told v.site) (g.writes v.site) (g.faults v.site) v) (x : S)
    (reads : OnlyReads g v.site x) where
  going_on : g.tells → v.stopped ≡ None → IsGoing (g.told v.site) v
  going_on tl none = (kept.whole.told tl).going none

  pub attended_seen : {E : Type 0} (r : Result (Unit {0}) E) (n : ℕ) (old new : CopyData) → old.state ≡ Taking
      → OnOk r (TakesOnce g.tells (shown_by (row_in_list v.rows) (content (g.told v.site))) n (g.faults v.site) (g.faults x) old new) → OnErr r ((new ≡ old) × (x ≡ v.site)) → KeepsStanding g w (record v { site = x }) old new
  attended_seen r n old new taking once short =
      subst (λ (y : CoreValue S C). KeepsStanding g y (record v { site = x }) old new) seen (attended_keeps g v x reads going_on kept.counted.began kept.counted.faults_ r n old new taking once short)

  pub track_seen : (n : ℕ) (old new : CopyData) → old.state ≡ Taking → TakesOrFails g.tells (shown_by (row_in_list v.rows) (content (g.told v.site))) n (g.faults v.site) (g.faults x) old new
      → KeepsStanding g w (record v { site = x }) old new
  track_seen n old new taking told =
      subst (λ (y : CoreValue S C). KeepsStanding g y (record v { site = x }) old new) seen (track_keeps g v x reads going_on kept.counted.began kept.counted.faults_ n old new taking told)

  module _ (old begun_ new : CopyData) (is : IsCopier old) (begins : begun_ ≡ begun_if_armed (row_in_list v.rows old.volume) (length v.history) old)
      (ends : Finishes g.tells (shown_by (row_in_list v.rows) (content (g.told v.site))) (g.faults v.site) (g.faults x) begun_ new) where
    ends_so : Finishes g.tells (shown_by (row_in_list v.rows) (content (g.told v.site))) (g.faults v.site) (g.faults x) (begun_if_armed (row_in_list v.rows old.volume) (length v.history) old) new
    ends_so = subst (λ (c : CopyData). Finishes g.tells (shown_by (row_in_list v.rows) (content (g.told v.site))) (g.faults v.site) (g.faults x) c new) begins ends

    pub finish_seen : g.tells → StandsFor (g.told w.site) old w → StandsFor (g.told x) new (record v { site = x })
    finish_seen tl stands =
        finish_stands g v x reads going_on kept.counted.began kept.counted.faults_ old new is ends_so tl (subst (λ (y : CoreValue S C). StandsFor (g.told y.site) old y) (sym seen) stands)

    pub copied_seen : StandsBeside g w old → IsCopied g (record v { site = x }) new
    copied_seen beside =
        finish_copied g v x reads going_on kept.counted.began kept.counted.faults_ old new is ends_so (subst (λ (y : CoreValue S C). StandsBeside g y old) (sym seen) beside)
