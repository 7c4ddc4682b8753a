use Rattle.std.proofs.Common.{◌≡◌, Bool, true, List, length, map, refl, sym, ◌∙◌, ap}
use Rattle.volume_table.specs.contracts.state.CylinderStatePartialEq.TheImpl.{eq-value}
use Rattle.volume_table.specs.declared.state.CylinderState.{CylinderState}
use Rattle.volume_table.specs.declared.state.CylinderState.TheVariants.{Blank, OnCartridge, StagedBlank, Staged, Changed}
use Rattle.volume_table.specs.States.{state_number}
use Rattle.volume_table.proofs.BlankFacts.{each_is_zero, zeros_are_equal}
use Rattle.volume_table.proofs.row.VolumeRow.is_blank_throughout.Goals as goal

abbrev is_same : CylinderState → CylinderState → Bool
is_same = eq-value.it

tells : (x : CylinderState) → (is_same x Blank ≡ true → state_number x ≡ 0) × (state_number x ≡ 0 → is_same x Blank ≡ true)
tells Blank = (λ _. refl, λ _. refl)
tells OnCartridge = (λ e. absurd cc, λ e. absurd cc)
tells StagedBlank = (λ e. absurd cc, λ e. absurd cc)
tells Staged = (λ e. absurd cc, λ e. absurd cc)
tells Changed = (λ e. absurd cc, λ e. absurd cc)

pub returns : goal.returns
returns c =
    let states : List CylinderState = c.as_slice.result.now in
    let blank : List CylinderState = c.as_slice-2.result.now in
    let same : map state_number states ≡ c.args.self.now.states = ap (map state_number) c.as_slice.ensures ∙ ap (λ r. r.states) c.self.view_is in
    let long : length c.args.self.now.states ≡ 404 = sym (ap (λ r. length r.states) c.self.view_is) ∙ c.self.invariant.states in (
      each_is_zero is_same state_number Blank tells 404 states blank c.args.self.now.states c.eq.result same c.as_slice-2.ensures c.eq.ensures,
      zeros_are_equal is_same state_number Blank tells 404 states blank c.args.self.now.states c.eq.result same c.as_slice-2.ensures c.eq.ensures long,
    )
