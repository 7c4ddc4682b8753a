use Rattle.std.proofs.Common.{◌∙◌, sym, inl, inr, ap}
use Rattle.std.proofs.lemmas.Bool.{cases_Bool}
use Rattle.std.specs.Cmp.Lexicographic.{same_text, other_text}
use Rattle.volume_table.specs.Row.{RowValue}
use Rattle.volume_table.specs.Grammar.{body, spelling}
use Rattle.table_pair.proofs.FollowLemmas.{same_rows}
use Rattle.table_pair.proofs.repairs.is_same.Goals as goal

pub returns : goal.returns
returns c =
    let x = body c.encode_row.new.into in
    let y = body c.encode_row-2.new.into in (
      λ is. same_rows c.args.a.now c.args.b.now x y c.encode_row.ensures.again c.encode_row-2.ensures.again (same_text x y (sym is ∙ c.eq.ensures)),
      λ is. elim (cases_Bool c.eq.result) [
        | inl same ↦ same
        | inr other ↦ absurd (other_text x y (sym other ∙ c.eq.ensures) (c.encode_row.ensures.body ∙ ap (λ (r : RowValue). spelling r) is ∙ sym c.encode_row-2.ensures.body))
      ],
    )
