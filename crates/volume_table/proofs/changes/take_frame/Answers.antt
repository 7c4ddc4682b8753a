use Rattle.std.proofs.Common.{◌≡◌, ◌≢◌, ◌/◌, ◌∙◌, ap, sym, subst, ℕ, None, set}
use Rattle.volume_table.specs.Row.{RowValue, IsRow, state_of}
use Rattle.volume_table.specs.RowInside.{row_value}
use Rattle.volume_table.proofs.RowLemmas.{row-without_frame}
use Rattle.volume_table.proofs.changes.take_frame.Goals as goal

pub invariant_of-row : goal.invariant_of-row
invariant_of-row c =
    let r : RowValue = row_value c.row.inside in
    let pages : c.set.new.self.items ≡ set r.pages c.args.page None = c.set.ensures.items ∙ ap (λ (p : ℕ). set r.pages p None) c.get.ensures.value in
    subst IsRow (λ i. record r { pages = sym pages i; states = sym c.unstage.ensures i }) (row-without_frame c.args.page r c.row.invariant (subst (λ (v : RowValue). (d : ℕ) → d / 8 ≡ c.args.page → state_of v d ≢ 4) (sym c.row.view_is) c.requires))
