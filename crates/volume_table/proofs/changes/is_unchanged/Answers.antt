use Rattle.std.proofs.Common.{◌≡◌, ◌≢◌, ◌+◌, ◌*◌, ◌/◌, ◌≤◌, ◌<◌, ℕ, inl, inr, refl, subst, min, arith}
use Rattle.std.proofs.lemmas.Bool.{cases_lt}
use Rattle.std.proofs.lemmas.Grind.{common_steps}
use Rattle.std.proofs.lemmas.List.{get_or_past}
use Rattle.volume_table.specs.Row.{RowValue, IsRow, state_of}
use Rattle.volume_table.proofs.changes.is_unchanged.Goals as goal

none_left : (r : RowValue) → IsRow r → (page n : ℕ) → min 404 (8 * page + 8) ≤ n → ((k : ℕ) → 8 * page ≤ k → k < n → state_of r k ≢ 4) → (k : ℕ) → k / 8 ≡ page → state_of r k ≢ 4
none_left r row page n all before k at = elim (cases_lt k 404) [
  | inl lt ↦ before k (omega arith) (omega arith)
  | inr past ↦ λ is. let none : state_of r k ≡ 0 = get_or_past r.states k 0 (omega (arith, row.states)) in absurd (omega arith)
]

pub returns : goal.returns
returns c =
    let row : IsRow c.args.row.now = subst IsRow c.row.view_is c.row.invariant in
    let to : c.min-number-end.result ≡ min 404 (8 * c.args.page + 8) = first_of (omega arith, grind (arith, common_steps)) in
    (λ _. none_left c.args.row.now row c.args.page c.loop-number.number (omega arith) c.loop-number.invariant, λ _. refl)
