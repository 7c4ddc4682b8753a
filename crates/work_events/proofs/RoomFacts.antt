-- What an event that made room has for the calls behind it, and what it leaves where it writes no more than they do.
use Rattle.std.proofs.Common.{◌≡◌, ℕ, ◌+◌, ◌≤◌, ◌<◌, true, false, length, Option, Some, Result, Ok, Err, sym, ◌∙◌, ap, subst, arith}
use Rattle.std.specs.Prelude.{is_err, is_some, IsOk, OnErr, OnOk}
use Rattle.std.proofs.lemmas.Bool.{false≢true}
use Rattle.mss_base.specs.Sites.{MayWrite}
use Rattle.mss_base.specs.declared.site.Site.{Ghosts}
use Rattle.fault_queue.specs.Requests.{request_of}
use Rattle.fault_queue.specs.declared.queue.Request.{Request}
use Rattle.core_state.specs.CoreValue.{CoreValue, seen_core}
use Rattle.core_state.specs.HostEvents.{IsSame}
use Rattle.core_state.specs.SessionData.{SessionData, data_of, of_parts}
use Rattle.work_events.specs.Steps.{FailsNone}
use Rattle.work_events.proofs.RowSteps.{HasRoom, IsKeptOn}

-- a recorder has its place, and a host that asks its request
pub its_place : {S C : Type 0} (g : Ghosts S) {inside v : CoreValue S C} (n : ℕ) → inside ≡ v → IsKeptOn g inside.site inside → n < v.config.recorders → n < length inside.tasks
its_place {S} {C} g n is kept fits = subst (λ (k : ℕ). n < k) (sym (kept.whole.shaped.tasks_ ∙ ap (λ (z : CoreValue S C). z.config.recorders) is)) fits

pub its_request : {S C : Type 0} {inside v : CoreValue S C} (host : ℕ) (q : Request) → inside ≡ v → request_of v.requests host ≡ Some q → is_some (request_of inside.requests host) ≡ true
its_request {S} {C} host q is asked = ap (λ (z : CoreValue S C). is_some (request_of z.requests host)) is ∙ ap (λ (o : Option Request). is_some o) asked

-- requests that stayed
pub same_fails_none : {S C : Type 0} {inside v : CoreValue S C} → inside ≡ v → FailsNone v.requests inside.requests
same_fails_none {S} {C} is = λ h fault asked at failed. ap (λ (z : CoreValue S C). request_of z.requests h) (sym is) ∙ at

-- of room for a sync and more, a sync leaves what is more
pub room_behind : {S : Type 0} (g : Ghosts S) (most : ℕ) {s t : S} → 1 + most ≤ g.spare s → MayWrite g 1 s t → most ≤ g.spare t
room_behind g most room devices = let spare = devices.room in omega (arith, room, spare)

pub one_of : {most spare : ℕ} → most ≤ spare → 1 ≤ most → 1 ≤ spare
one_of room one = omega (arith, room, one)

pub writes_then : {S : Type 0} (g : Ghosts S) (few more : ℕ) {s r t : S} → MayWrite g few s r → MayWrite g more r t → MayWrite g (few + more) s t
writes_then g few more first second = record {
  room = let a = first.room in let b = second.room in omega (arith, a, b);
  written = let a = first.written in let b = second.written in omega (arith, a, b);
  later = let a = first.later in let b = second.later in omega (arith, a, b);
  sound = λ but never. second.sound but (first.sound but never);
}

-- ---- a call that is done, or failed

pub when_ok : {T E : Type 0} {P : Type 0} (result : Result T E) → is_err result ≡ false → OnOk result P → P
when_ok (Ok x) ok holds = holds
when_ok (Err e) ok holds = absurd (false≢true (sym ok))

pub when_err : {T E : Type 0} {P : Type 0} (result : Result T E) → is_err result ≡ true → OnErr result P → P
when_err (Ok x) err holds = absurd (false≢true err)
when_err (Err e) err holds = holds

-- what works didn't fail
pub works_always : {A T E : Type 0} (result : Result T E) → IsOk result → is_err result ≡ true → A
works_always (Ok x) ok err = absurd (false≢true err)
works_always (Err e) ok err = absurd (false≢true ok)

module _ {S C : Type 0} (g : Ghosts S) {inside v : CoreValue S C} {site : S} {session : SessionData} (has : HasRoom g inside v site session) where
  -- it got room, and then writes at most
  pub room_spares : (most : ℕ) → MayWrite g most v.site site
  room_spares most = record {
    room = let a = has.reserves.room in omega (arith, a);
    written = let a = has.reserves.unwritten in omega (arith, a);
    later = let a = has.reserves.same in omega (arith, a);
    sound = has.reserves.sound;
  }

  pub room_writes : {few : ℕ} (most : ℕ) {t : S} → MayWrite g few site t → few ≤ most → MayWrite g most v.site t
  room_writes most devices small = record {
    room = let a = has.reserves.room in let b = devices.room in omega (arith, a, b, small);
    written = let a = has.reserves.unwritten in let b = devices.written in omega (arith, a, b);
    later = let a = has.reserves.same in let b = devices.later in omega (arith, a, b);
    sound = λ but never. devices.sound but (has.reserves.sound but never);
  }

  -- it goes on, or is stopped, as before
  pub room_going : session.stopped ≡ v.stopped
  room_going = ap (λ (d : SessionData). d.stopped) has.same

  -- nothing of it changed
  pub room_same : IsSame g.tells (seen_core g v) (seen_core g (of_parts inside site inside.rows inside.owners inside.moving inside.requests inside.tasks inside.hosts session))
  room_same = (
    record { told = has.reserves.log; unwritten = has.reserves.unwritten; sound = has.reserves.same },
    (λ i. seen_core g (of_parts (has.is i) site (has.is i).rows (has.is i).owners (has.is i).moving (has.is i).requests (has.is i).tasks (has.is i).hosts (has.same i))),
  )

-- an event that got no room for what it tells: nothing of it changed
module _ {S C : Type 0} (g : Ghosts S) {inside v : CoreValue S C} (is : inside ≡ v) (session : SessionData) (same : session ≡ data_of inside) where
  pub told_same : IsSame g.tells (seen_core g v) (seen_core g (of_parts inside inside.site inside.rows inside.owners inside.moving inside.requests inside.tasks inside.hosts session))
  told_same =
      let told = same ∙ ap (λ (z : CoreValue S C). data_of z) is in (
        record {
          told = λ tl. ap (λ (z : CoreValue S C). g.told z.site) is;
          unwritten = ap (λ (z : CoreValue S C). g.writes z.site) is;
          sound = ap (λ (z : CoreValue S C). g.faults z.site) is;
        },
        (λ i. seen_core g (of_parts (is i) inside.site (is i).rows (is i).owners (is i).moving (is i).requests (is i).tasks (is i).hosts (told i))),
      )

  pub told_kept : IsKeptOn g inside.site inside → IsKeptOn g inside.site (of_parts inside inside.site inside.rows inside.owners inside.moving inside.requests inside.tasks inside.hosts session)
  told_kept kept =
      subst (λ (d : SessionData). IsKeptOn g inside.site (of_parts inside inside.site inside.rows inside.owners inside.moving inside.requests inside.tasks inside.hosts d)) (sym same) kept
