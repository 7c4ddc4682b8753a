-- No call of these devices fails.
use Rattle.std.proofs.Common.{◌≡◌, ◌<◌, ℕ, List, [], Option, Result, Ok, Err, refl, subst, arith}
use Rattle.std.specs.Prelude.{Any, IsErr, IsOk, ◌↔◌}
use Rattle.mss_base.specs.Counts.{HasCause}
use Rattle.mss_base.specs.declared.place.UnitNo.{UnitNo}
use Rattle.mss_base.specs.declared.site.Failed.{Failed}
use Rattle.memory_devices.specs.MemorySite.{FailsNext, failing_of}
use Rattle.memory_devices.specs.declared.memory_site.MemorySite.{MemorySite}

below_none : (n : ℕ) → n < 0 → ⊥
below_none n low = omega (arith, low)

none_holds : {X : Type 0} (P : X → Type 0) (xs : List X) → xs ≡ [] → Any P xs → ⊥
none_holds P xs none holds =
    let none_there : Any P [] = subst (λ l. Any P l) none holds in
    absurd (below_none none_there.0 none_there.2)

-- nothing strikes a call
pub unstruck : (s : MemorySite) (read_of : Option UnitNo) → failing_of s ≡ [] → FailsNext read_of s → ⊥
unstruck s read_of none fails = none_holds _ (failing_of s) none fails

ok_of : (r : Result (Unit {0}) Failed) → (IsErr r → ⊥) → IsOk r
ok_of (Ok _) never = refl
ok_of (Err _) never = absurd (never refl)

cause_of : (r : Result (Unit {0}) Failed) → (IsErr r → ⊥) → HasCause 0 0 r
cause_of (Ok _) never = record { later = omega arith; failed = tt; same = refl }
cause_of (Err _) never = absurd (never refl)

module _ (s : MemorySite) (read_of : Option UnitNo) (none : failing_of s ≡ []) (r : Result (Unit {0}) Failed) (fails : IsErr r ↔ FailsNext read_of s) where
  pub works : IsOk r
  works = ok_of r (λ err. unstruck s read_of none (fails.0 err))

  pub caused : HasCause 0 0 r
  caused = cause_of r (λ err. unstruck s read_of none (fails.0 err))
