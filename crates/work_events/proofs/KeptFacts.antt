-- What an event leaves is kept, once it is whole and its counts are.
use Rattle.std.proofs.Common.{◌≡◌, ℕ, ◌<◌, List, length, Option, None, subst, arith}
use Rattle.mss_base.specs.Content.{SiteLog}
use Rattle.mss_base.specs.declared.site.Site.{Ghosts}
use Rattle.std.specs.List.{range_with_len}
use Rattle.std.proofs.lemmas.List.Sorted.{length_permutation}
use Rattle.std.proofs.lemmas.List.FromFn.{length-range_with_len}
use Rattle.cartridge_store.specs.declared.store.Place.{Place}
use Rattle.accessors.specs.Rails.{RailData}
use Rattle.victim_choice.specs.Order.{order_after, IsOrderOf}
use Rattle.core_state.specs.declared.session.Event.{Event}
use Rattle.core_state.specs.Beside.{IsBeside}
use Rattle.core_state.specs.CoreValue.{CoreValue}
use Rattle.core_state.specs.Counted.{IsCounted}
use Rattle.core_state.specs.SessionData.{data_of}
use Rattle.core_state.specs.TheCore.{IsWhole, IsKept}
use Rattle.core_state.proofs.BesideFacts.{whole_beside, whole_noted, counted_noted, beside_touched}

-- an event more is told
pub kept_noted : {S C : Type 0} (tells : Type 0) (site : SiteLog) (writes faults : ℕ) (v : CoreValue S C) (events : List Event)
    → IsWhole tells site v → IsCounted writes faults v.requests (data_of v)
    → IsKept tells site writes faults (record v { events = events })
kept_noted tells site writes faults v events whole counted = record {
  whole = whole_noted tells site v events whole;
  counted = counted_noted writes faults v.requests (data_of v) events counted;
}

-- a core that is the same is kept as well
pub kept_at : {S C : Type 0} (g : Ghosts S) (v w : CoreValue S C) → v ≡ w
    → IsKept g.tells (g.told v.site) (g.writes v.site) (g.faults v.site) v → IsKept g.tells (g.told w.site) (g.writes w.site) (g.faults w.site) w
kept_at {S} {C} g v w same kept = subst (λ (z : CoreValue S C). IsKept g.tells (g.told z.site) (g.writes z.site) (g.faults z.site) z) same kept

-- what stands beside the tables changes
pub kept_beside : {S C : Type 0} (tells : Type 0) (site : SiteLog) (writes faults : ℕ) (v : CoreValue S C) (recency : List ℕ) (recorders : List (Option ℕ)) (store : List Place) (rail : RailData) (events : List Event)
    → IsKept tells site writes faults v → length recorders ≡ v.config.recorders → (v.stopped ≡ None → IsBeside v.config.frames v.config.recorders recency recorders store)
    → IsKept tells site writes faults (record v { recency = recency; recorders = recorders; store = store; rail = rail; events = events })
kept_beside tells site writes faults v recency recorders store rail events kept long is = record {
  whole = whole_beside v recency recorders store rail events tells site kept.whole long is;
  counted = (kept_noted tells site writes faults v events kept.whole kept.counted).counted;
}

-- a frame is touched
pub kept_touched : {S C : Type 0} (tells : Type 0) (site : SiteLog) (writes faults : ℕ) (v : CoreValue S C) (frame : ℕ) → frame < v.config.frames
    → IsKept tells site writes faults v → IsKept tells site writes faults (record v { recency = order_after frame v.recency })
kept_touched tells site writes faults v frame below kept =
    kept_beside tells site writes faults v (order_after frame v.recency) v.recorders v.store v.rail v.events kept kept.whole.shaped.recorders_
    (λ none. beside_touched v.config.frames v.config.recorders v.recency v.recorders v.store frame below (kept.whole.kept none).beside)

-- a frame stands in the order of touch
pub in_order : (frames frame : ℕ) (recency : List ℕ) → IsOrderOf frames recency → frame < frames → frame < length recency
in_order frames frame recency is below =
    let long = length_permutation (range_with_len 0 frames) recency is in
    let count = length-range_with_len 0 frames in
    omega (arith, long, count, below)
