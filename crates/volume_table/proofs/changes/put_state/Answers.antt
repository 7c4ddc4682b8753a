use Rattle.std.proofs.Common.{◌≡◌, ◌≤◌, ◌/◌, ◌∙◌, ap, sym, subst, ℕ, List, map, set, arith}
use Rattle.std.specs.Prelude.{IsSome}
use Rattle.std.proofs.lemmas.List.{map-set}
use Rattle.volume_table.specs.States.{state_number}
use Rattle.volume_table.specs.Row.{RowValue, IsRow, frame_of}
use Rattle.volume_table.specs.RowInside.{row_value}
use Rattle.volume_table.specs.Changes.{with_state}
use Rattle.volume_table.specs.declared.state.CylinderState.{CylinderState}
use Rattle.volume_table.proofs.StateLemmas.{state_small}
use Rattle.volume_table.proofs.RowLemmas.{row-with_state}
use Rattle.volume_table.proofs.changes.put_state.Goals as goal

states_set : (states new : List CylinderState) (at cylinder : ℕ) (state : CylinderState) → new ≡ set states at state → at ≡ cylinder → map state_number new ≡ set (map state_number states) cylinder (state_number state)
states_set states new at cylinder state is same = ap (map state_number) is ∙ map-set state_number states at state ∙ ap (λ (k : ℕ). set (map state_number states) k (state_number state)) same

pub invariant_of-row : goal.invariant_of-row
invariant_of-row c =
    let r : RowValue = row_value c.row.inside in
    let states = states_set c.row.inside.states.items c.set.new.self.items c.get.result c.args.cylinder c.args.state c.set.ensures.items c.get.ensures.value in
    let there = subst (λ (v : RowValue). 2 ≤ state_number c.args.state → IsSome (frame_of v (c.args.cylinder / 8))) (sym c.row.view_is) c.requires in
    subst IsRow (λ i. record r { states = sym states i }) (row-with_state c.args.cylinder (state_number c.args.state) r c.row.invariant (omega arith) (state_small c.args.state) there)

pub returns : goal.returns
returns c =
    let r : RowValue = row_value c.row.inside in
    let states = states_set c.row.inside.states.items c.set.new.self.items c.get.result c.args.cylinder c.args.state c.set.ensures.items c.get.ensures.value in
    (λ i. record r { states = states i }) ∙ ap (with_state c.args.cylinder (state_number c.args.state)) c.row.view_is
