use Rattle.std.proofs.Common.{ℕ, ◌∙◌, ◌∷◌, sym, ap, rules, tests}
use Rattle.std.specs.Prelude.{not}
use Rattle.std.specs.List.{list_all}
use Rattle.std.proofs.lemmas.Iterator.{YieldsList-from_slice}
use Rattle.std.proofs.lemmas.Iterator.Search.{position_from_yields_List}
use Rattle.job_text.specs.Words.{lines_of, is_printable}
use Rattle.job_text.proofs.Parts.{line_empty, line_printable}
use Rattle.job_text.proofs.lines.first_line.Goals as goal

pub returns-then-text-at-eq10-clause-lines : goal.returns-then-text-at-eq10-clause-lines
returns-then-text-at-eq10-clause-lines c =
    let first = position_from_yields_List (λ (b : ℕ). not (is_printable b)) c.position.new.self _ c.position.result c.position.ensures.ran (YieldsList-from_slice c.args.text.now c.iter.ensures.rest) (λ x b q k. search (rules, tests)) in
    (line_printable c.args.text.now c.in-Some.at (sym first ∙ c.in-Some.is) c.if-text-at-eq10.true).1 ∙ (λ i. sym c.parted_at-then-text-at-eq10.ensures.front i ∷ lines_of (sym c.parted_at-then-text-at-eq10.ensures.back i))

pub returns-then-text-at-eq10-clause-printable : goal.returns-then-text-at-eq10-clause-printable
returns-then-text-at-eq10-clause-printable c =
    let first = position_from_yields_List (λ (b : ℕ). not (is_printable b)) c.position.new.self _ c.position.result c.position.ensures.ran (YieldsList-from_slice c.args.text.now c.iter.ensures.rest) (λ x b q k. search (rules, tests)) in
    sym (ap (list_all is_printable) c.parted_at-then-text-at-eq10.ensures.front ∙ (line_printable c.args.text.now c.in-Some.at (sym first ∙ c.in-Some.is) c.if-text-at-eq10.true).2)

pub returns-then-text-eq10-clause-lines : goal.returns-then-text-eq10-clause-lines
returns-then-text-eq10-clause-lines c =
    line_empty c.args.text.now c.requires c.if-text-eq10.true ∙ (λ i. sym c.parted_at.ensures.front i ∷ lines_of (sym c.parted_at.ensures.back i))
