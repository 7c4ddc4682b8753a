-- Where an event takes its memory, all is as it was.
use Rattle.std.proofs.Common.{◌≡◌, sym, subst}
use Rattle.mss_base.specs.declared.site.Site.{Ghosts}
use Rattle.fault_queue.specs.Requests.{RequestsData}
use Rattle.core_state.specs.CoreValue.{CoreValue}
use Rattle.core_state.specs.MakingRoom.{Reserves}
use Rattle.core_state.specs.SessionData.{SessionData, data_of, of_parts}
use Rattle.core_state.specs.TheCore.{IsKept}
use Rattle.core_state.proofs.Moved.{kept_moved}

pub prepared_kept : (S : Type 0) {C : Type 0} (g : Ghosts S) {u : CoreValue S C} (v : CoreValue S C) (view : u ≡ v)
    → IsKept g.tells (g.told u.site) (g.writes u.site) (g.faults u.site) u → (mid : S) → Reserves g u.site mid → (requests : RequestsData) → requests ≡ u.requests → (d : SessionData) → d ≡ data_of u
    → IsKept g.tells (g.told mid) (g.writes mid) (g.faults mid) (of_parts u mid u.rows u.owners u.moving requests u.tasks u.hosts d)
prepared_kept S {C} g {u} v view kept mid reserves requests requests_is d d_is =
    subst (λ (p : RequestsData × SessionData). IsKept g.tells (g.told mid) (g.writes mid) (g.faults mid) (of_parts u mid u.rows u.owners u.moving p.0 u.tasks u.hosts p.1)) (λ i. (sym requests_is i, sym d_is i))
    (kept_moved S g.tells (g.told u.site) (g.told mid) (g.writes u.site) (g.faults u.site) (g.writes mid) (g.faults mid) u mid reserves.log reserves.unwritten reserves.same kept)
