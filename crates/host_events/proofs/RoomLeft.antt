-- What an event that made room leaves of the site: where it ends there, and where it writes no more than it may.
use Rattle.std.proofs.Common.{◌≡◌, ℕ, ◌≤◌, Bool, true, Result, Ok, Err, ◌∙◌, ap, subst, arith}
use Rattle.std.specs.Prelude.{is_err, IsOk}
use Rattle.std.proofs.lemmas.Bool.{false≢true}
use Rattle.mss_base.specs.Sites.{MayWrite}
use Rattle.mss_base.specs.declared.place.UnitNo.{UnitNo}
use Rattle.mss_base.specs.declared.site.Site.{Ghosts}
use Rattle.fault_queue.specs.Requests.{RequestsData}
use Rattle.core_state.specs.CoreValue.{CoreValue, seen_core}
use Rattle.core_state.specs.HostEvents.{IsSame}
use Rattle.core_state.specs.MakingRoom.{Reserves}
use Rattle.core_state.specs.SessionData.{SessionData, data_of, of_parts}

-- what works didn't fail
pub works_always : {A T E : Type 0} (result : Result T E) → IsOk result → is_err result ≡ true → A
works_always (Ok x) ok err = absurd (false≢true err)
works_always (Err e) ok err = absurd (false≢true ok)

module _ {S C : Type 0} (g : Ghosts S) {u v : CoreValue S C} (view : u ≡ v) {mid : S} (from : Reserves g u.site mid) where
  reserves : Reserves g v.site mid
  reserves = subst (λ (z : CoreValue S C). Reserves g z.site mid) view from

  pub left_room : g.spare v.site ≤ g.spare mid
  left_room = reserves.room

  pub left_sound : (but : UnitNo → Bool) → g.never_fails_but v.site but → g.never_fails_but mid but
  left_sound = reserves.sound

  pub left_spares : (most : ℕ) → MayWrite g most v.site mid
  left_spares most = record {
    room = let a = reserves.room in omega (arith, a);
    written = let a = reserves.unwritten in omega (arith, a);
    later = let a = reserves.same in omega (arith, a);
    sound = reserves.sound;
  }

  pub left_writes : (most : ℕ) {x : S} → MayWrite g most mid x → MayWrite g most v.site x
  left_writes most devices = record {
    room = let a = reserves.room in let b = devices.room in omega (arith, a, b);
    written = let a = reserves.unwritten in let b = devices.written in omega (arith, a, b);
    later = let a = reserves.same in let b = devices.later in omega (arith, a, b);
    sound = λ but never. devices.sound but (reserves.sound but never);
  }

  -- nothing changed but the room
  pub left_same : (requests : RequestsData) (d : SessionData) → requests ≡ u.requests → d ≡ data_of u
      → IsSame g.tells (seen_core g v) (seen_core g (of_parts u mid u.rows u.owners u.moving requests u.tasks u.hosts d))
  left_same requests d requests_is d_is =
      let told = d_is ∙ ap (λ (z : CoreValue S C). data_of z) view in
      let asked = requests_is ∙ ap (λ (z : CoreValue S C). z.requests) view in (
        record { told = reserves.log; unwritten = reserves.unwritten; sound = reserves.same },
        (λ i. seen_core g (of_parts (view i) mid (view i).rows (view i).owners (view i).moving (asked i) (view i).tasks (view i).hosts (told i))),
      )
