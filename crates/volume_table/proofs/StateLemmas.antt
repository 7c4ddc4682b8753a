-- The test of a state, and what it says.
use Rattle.std.proofs.Common.{◌≡◌, ℕ, zero, suc, ◌<◌, ◌≤◌, ◌≢◌, Bool, true, false, inl, inr, Option, Some, None, refl, arith}
use Rattle.std.specs.Prelude.{IsSome, is_some}
use Rattle.std.proofs.lemmas.Bool.{cases_lt}
use Rattle.std.proofs.lemmas.Bool.Decides.{nat_tests}
use Rattle.volume_table.specs.declared.state.CylinderState.{CylinderState}
use Rattle.volume_table.specs.declared.state.CylinderState.TheVariants.{Blank, OnCartridge, StagedBlank, Staged, Changed}
use Rattle.volume_table.specs.States.{state_number}
use Rattle.volume_table.specs.Grammar.{is_state}
use Rattle.volume_table.specs.Changes.{unstaged_state}

small_state : (b : Bool) (s : ℕ) → is_state b s ≡ true → s ≤ 4
small_state b s is = grind (arith, nat_tests)

high_state : (b : Bool) (s : ℕ) → is_state b s ≡ true → 2 ≤ s → b ≡ true
high_state b s is high = grind (arith, nat_tests)

low_test : (b : Bool) (s : ℕ) → s < 2 → is_state b s ≡ true
low_test b s low = grind (arith, nat_tests)

high_test : (s : ℕ) → s ≤ 4 → is_state true s ≡ true
high_test s small = grind (arith, nat_tests)

pub state_passed : (frame : Option ℕ) (s : ℕ) → is_state (is_some frame) s ≡ true → (s ≤ 4) × (2 ≤ s → IsSome frame)
state_passed (Some f) s is = (small_state true s is, λ high. refl)
state_passed None s is = (small_state false s is, λ high. absurd (let e : false ≡ true = high_state false s is high in cc))

pub state_passes : (frame : Option ℕ) (s : ℕ) → s ≤ 4 → (2 ≤ s → IsSome frame) → is_state (is_some frame) s ≡ true
state_passes (Some f) s small there = high_test s small
state_passes None s small there = elim (cases_lt s 2) [
  | inl low ↦ low_test false s low
  | inr high ↦ absurd (let e : false ≡ true = there high in cc)
]

-- a cylinder that isn't changed stays on its cartridge, or blank
pub unstaged_small : (s : ℕ) → s ≤ 4 → s ≢ 4 → unstaged_state s < 2
unstaged_small zero small ne = omega arith
unstaged_small (suc zero) small ne = omega arith
unstaged_small (suc (suc zero)) small ne = omega arith
unstaged_small (suc (suc (suc zero))) small ne = omega arith
unstaged_small (suc (suc (suc (suc zero)))) small ne = absurd (ne refl)
unstaged_small (suc (suc (suc (suc (suc s))))) small ne = absurd (omega arith)

pub state_small : (state : CylinderState) → state_number state ≤ 4
state_small Blank = omega arith
state_small OnCartridge = omega arith
state_small StagedBlank = omega arith
state_small Staged = omega arith
state_small Changed = omega arith
