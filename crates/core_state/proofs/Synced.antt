-- A core on a site of which a unit was synced, or the sync of one failed. Layers above cite these lemmas.
use Rattle.std.proofs.Common.{◌≡◌, ◌⊎◌, ℕ, ◌≤◌, [], ◌∷◌, None, sym, ap, subst}
use Rattle.mss_base.specs.Content.{Content, SiteLog, content, Got, synced, unsynced}
use Rattle.mss_base.specs.declared.place.UnitNo.{UnitNo}
use Rattle.shown_volumes.proofs.QuietFacts.{sync_moments, sync_quiet, sync_same}
use Rattle.volume_table.specs.Listed.{row_in_list}
use Rattle.core_state.specs.CoreValue.{CoreValue}
use Rattle.core_state.specs.IsCore.{IsCore, IsTold}
use Rattle.core_state.specs.Served.{AreServed}
use Rattle.core_state.specs.SessionData.{data_of}
use Rattle.core_state.specs.TheCore.{IsWhole, IsKept}
use Rattle.core_state.proofs.ChangeLemmas.{told_outside}
use Rattle.core_state.proofs.CoreFacts.{sound_of}
use Rattle.core_state.proofs.CoreWork.{owned_of, asked_of, core_work}
use Rattle.core_state.proofs.CountedFacts.{counted_later}
use Rattle.core_state.proofs.Making.{make_whole}

pub told_synced : {S C : Type 0} (s t : SiteLog) (unit : UnitNo) (v : CoreValue S C) (x : S) → IsTold s v → v.stopped ≡ None → IsCore v
    → Got (synced unit ∷ []) s t ⊎ Got (unsynced ∷ []) s t → IsTold t (record v { site = x })
told_synced {S} s t unit v x told open_ core got =
    let going = told.going open_ in
    let same : content t ≡ content s = sync_same s t unit got in
    told_outside S s t v x told open_ core.marked (sync_moments v.config.frames s t unit going.quiet (sound_of S s v told) got)
    (λ u block table. ap (λ (c : Content). c u block) same) (sync_quiet s t unit going.quiet got)
    v.owners v.moving v.requests v.tasks (subst (λ (c : Content). AreServed c (row_in_list v.rows) v.tasks) (sym same) going.served)

pub whole_synced : {S C : Type 0} (tells : Type 0) (s t : SiteLog) (unit : UnitNo) (v : CoreValue S C) (x : S) → IsWhole tells s v → v.stopped ≡ None
    → (tells → Got (synced unit ∷ []) s t ⊎ Got (unsynced ∷ []) s t) → IsWhole tells t (record v { site = x })
whole_synced {S} tells s t unit v x whole open_ got =
    let core = whole.kept open_ in
    make_whole
    (core_work S v core x v.rows v.console v.owners v.moving v.requests v.tasks (owned_of S v core) core.moving_ (asked_of S v core) core.waiting core.tasks_ core.fit)
    (λ tl. told_synced s t unit v x (whole.told tl) open_ core (got tl))

-- with the counts, which only rise
pub kept_synced : {S C : Type 0} (tells : Type 0) (s t : SiteLog) (unit : UnitNo) (writes faults later_writes later : ℕ) (v : CoreValue S C) (x : S) → v.stopped ≡ None
    → (tells → Got (synced unit ∷ []) s t ⊎ Got (unsynced ∷ []) s t) → writes ≤ later_writes → faults ≤ later
    → IsKept tells s writes faults v → IsKept tells t later_writes later (record v { site = x })
kept_synced tells s t unit writes faults later_writes later v x open_ got more le kept = record {
  whole = whole_synced tells s t unit v x kept.whole open_ got;
  counted = counted_later writes faults later_writes later v.requests (data_of v) kept.counted more le;
}
