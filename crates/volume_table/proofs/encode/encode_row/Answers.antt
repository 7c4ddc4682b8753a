use Rattle.std.proofs.Common.{◌∙◌, ap, subst, ℕ, List}
use Rattle.volume_table.specs.Row.{IsRow}
use Rattle.volume_table.specs.Grammar.{body, decode}
use Rattle.volume_table.proofs.SpellingLemmas.{decode_spelling, body_written}
use Rattle.volume_table.proofs.encode.encode_row.Goals as goal

pub returns-clause-again : goal.returns-clause-again
returns-clause-again c =
    let row : IsRow c.args.row.now = subst IsRow c.row.view_is c.row.invariant in
    ap (λ (l : List ℕ). decode (body l)) c.put_row.ensures ∙ ap decode (body_written c.args.row.now c.args.into.now row c.requires) ∙ decode_spelling c.args.row.now row

pub returns-clause-body : goal.returns-clause-body
returns-clause-body c =
    let row : IsRow c.args.row.now = subst IsRow c.row.view_is c.row.invariant in
    ap body c.put_row.ensures ∙ body_written c.args.row.now c.args.into.now row c.requires
