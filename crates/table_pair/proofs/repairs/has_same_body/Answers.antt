use Rattle.std.proofs.Common.{sym, ◌∙◌}
use Rattle.std.specs.Cmp.Lexicographic.{same_text}
use Rattle.volume_table.specs.Grammar.{body}
use Rattle.table_pair.proofs.repairs.has_same_body.Goals as goal

pub returns : goal.returns
returns c = λ is. same_text (body c.args.a.now) (body c.args.b.now) (sym is ∙ c.eq.ensures)
