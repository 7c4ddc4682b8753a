use Rattle.std.proofs.Common.{ℕ, ◌∙◌, ◌∷◌, sym, rules, tests}
use Rattle.std.specs.Prelude.{◌==◌}
use Rattle.std.proofs.lemmas.Iterator.{YieldsList-from_slice}
use Rattle.std.proofs.lemmas.Iterator.Search.{position_from_yields_List}
use Rattle.job_text.specs.Words.{lines_of}
use Rattle.job_text.proofs.Parts.{line_found, line_last}
use Rattle.job_text.proofs.lines.line_of_any_bytes.Goals as goal

pub returns-in-Some-clause-lines : goal.returns-in-Some-clause-lines
returns-in-Some-clause-lines c =
    let first = position_from_yields_List (λ (b : ℕ). b == 10) c.position.new.self _ c.position.result c.position.ensures.ran (YieldsList-from_slice c.args.text.now c.iter.ensures.rest) (λ x b q k. search (rules, tests)) in
    (line_found c.args.text.now c.in-Some.feed (sym first ∙ c.in-Some.is)).1 ∙ (λ i. sym c.parted_at.ensures.front i ∷ lines_of (sym c.parted_at.ensures.back i))

pub returns-in-None-clause-lines : goal.returns-in-None-clause-lines
returns-in-None-clause-lines c =
    let first = position_from_yields_List (λ (b : ℕ). b == 10) c.position.new.self _ c.position.result c.position.ensures.ran (YieldsList-from_slice c.args.text.now c.iter.ensures.rest) (λ x b q k. search (rules, tests)) in
    line_last c.args.text.now c.split_at.result.0.now c.split_at.result.1.now c.requires (sym first ∙ c.in-None.is) c.split_at.ensures.front c.split_at.ensures.back
