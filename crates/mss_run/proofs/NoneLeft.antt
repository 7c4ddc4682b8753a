-- A walk over the recorders that nobody works for, of which each is idle.
use Rattle.std.proofs.Common.{◌≡◌, inl, inr, ℕ, ◌+◌, ◌<◌, true, false, sym, ◌∙◌, ap, subst, arith}
use Rattle.std.proofs.lemmas.Bool.{false≢true}
use Rattle.std.proofs.lemmas.Bool.Decides.{eqb_tells}
use Rattle.core_state.specs.CoreValue.{CoreData}
use Rattle.core_state.specs.HostEvents.{IsSame}
use Rattle.quiet_events.specs.Quiet.{HasNoWork}
use Rattle.quiet_events.proofs.OtherDevices.{same_work}
use Rattle.mss_run.specs.Sleep.{has_worker}
use Rattle.mss_run.specs.declared.present.Presence.{Presence}

-- of the first n recorders each that nobody works for has nothing to do
abbrev pub NoneBelow : CoreData → Presence → ℕ → Type 0
NoneBelow core p n = (recorder : ℕ) → has_worker recorder p ≡ false → recorder < n → HasNoWork core recorder

pub none_yet : (core : CoreData) (p : Presence) → NoneBelow core p 0
none_yet core p recorder alone below = absurd (omega (arith, below))

none_more : (core : CoreData) (p : Presence) (n : ℕ) → (has_worker n p ≡ false → HasNoWork core n) → NoneBelow core p n → NoneBelow core p (n + 1)
none_more core p n this none recorder alone below = elim (eqb_tells recorder n) [
  | inl e ↦ subst (HasNoWork core) (sym e.1) (this (ap (λ (k : ℕ). has_worker k p) (sym e.1) ∙ alone))
  | inr e ↦ let other = e.1 in none recorder alone (below_it recorder n below other)
]
  where
    below_it : (a b : ℕ) → a < b + 1 → (a ≡ b → ⊥) → a < b
    below_it a b lt ne = omega (arith, lt, ne)

-- somebody works for the next
pub passed_by : (core : CoreData) (p : Presence) (n : ℕ) → has_worker n p ≡ true → NoneBelow core p n → NoneBelow core p (n + 1)
passed_by core p n works none = none_more core p n (λ alone. absurd (false≢true (sym alone ∙ works))) none

-- the next is idle, and nothing changed
pub found_idle : (tells : Type 0) (core left : CoreData) (p : Presence) (n : ℕ) → IsSame tells core left → HasNoWork left n → NoneBelow core p n → NoneBelow left p (n + 1)
found_idle tells core left p n same idle none = none_more left p n (λ alone. idle) (λ recorder alone below. same_work tells core left same recorder (none recorder alone below))
