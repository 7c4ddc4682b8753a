use Rattle.std.proofs.Common.{◌≡◌, ◌+◌, ◌*◌, ◌≤◌, ◌<◌, ◌∙◌, sym, ap, subst, ℕ, List, length, map, set, get_or, min, arith}
use Rattle.std.proofs.lemmas.Grind.{common_steps}
use Rattle.std.proofs.lemmas.List.{length-map, length-set, map-set, get_or-map}
use Rattle.volume_table.specs.States.{state_number}
use Rattle.volume_table.specs.Changes.{unstaged_state}
use Rattle.volume_table.specs.declared.state.CylinderState.{CylinderState}
use Rattle.volume_table.specs.declared.state.CylinderState.TheVariants.{Blank}
use Rattle.volume_table.proofs.RowLemmas.{step_before, step_done, step_left, unstage_done}
use Rattle.volume_table.proofs.changes.unstage.Goals as goal

pub returns : goal.returns
returns c =
    let s = c.loop-cylinder.invariant in
    let old = c.args.states.now.items in
    let new = c.loop-cylinder.states.items in
    let to : c.min-cylinder-end.result ≡ min 404 (8 * c.args.page + 8) = first_of (omega arith, grind (arith, common_steps)) in
    unstage_done c.args.page c.loop-cylinder.cylinder (map state_number old) (map state_number new) (length-map old state_number ∙ c.requires) (length-map new state_number ∙ s.long) (omega arith) s.before s.done s.left (omega arith)

pub loop-cylinder-preserved : goal.loop-cylinder-preserved
loop-cylinder-preserved c =
    let s = c.loop-cylinder.invariant in
    let n = c.loop-cylinder.cylinder in
    let old = map state_number c.args.states.now.items in
    let now = map state_number c.loop-cylinder.states.items in
    let state = state_number c.unstaged.result in
    let long : length now ≡ 404 = length-map c.loop-cylinder.states.items state_number ∙ s.long in
    let to : c.min-cylinder-end.result ≡ min 404 (8 * c.args.page + 8) = first_of (omega arith, grind (arith, common_steps)) in
    let inside : n < length now = omega arith in
    let from : 8 * c.args.page ≤ n = omega arith in
    let read : state_number (get_or c.loop-cylinder.states.items n Blank) ≡ get_or now n 0 = sym (get_or-map state_number c.loop-cylinder.states.items n Blank 0 (omega arith)) in
    let is : state ≡ unstaged_state (get_or now n 0) =
    c.unstaged.ensures ∙ ap (λ (xs : List CylinderState). unstaged_state (state_number (get_or xs n Blank))) c.as_slice.ensures ∙ ap unstaged_state read in
    let new : set now n state ≡ map state_number c.set.new.self.items = sym (ap (map state_number) c.set.ensures.items ∙ map-set state_number c.loop-cylinder.states.items n c.unstaged.result) in
    record {
      long = ap length c.set.ensures.items ∙ length-set c.loop-cylinder.states.items n c.unstaged.result ∙ s.long;
      before = subst (λ (xs : List ℕ). (k : ℕ) → k < 8 * c.args.page → get_or xs k 0 ≡ get_or old k 0) new (step_before c.args.page n old now state inside from is s.before);
      done = subst (λ (xs : List ℕ). (k : ℕ) → 8 * c.args.page ≤ k → k < n + 1 → get_or xs k 0 ≡ unstaged_state (get_or old k 0)) new (step_done c.args.page n old now state inside from is s.left s.done);
      left = subst (λ (xs : List ℕ). (k : ℕ) → n + 1 ≤ k → get_or xs k 0 ≡ get_or old k 0) new (step_left c.args.page n old now state inside from is s.left);
    }
