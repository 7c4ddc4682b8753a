use Rattle.std.proofs.Common.{◌≡◌, ◌∙◌, Bool, sym, ap, arith, get_or}
use Rattle.std.proofs.lemmas.Result.{err_from_is_err_and}
use Rattle.volume_table.specs.declared.fault.RowField.TheVariants as field
use Rattle.volume_table.specs.Grammar.{unless, is_page_byte, page_fault}
use Rattle.volume_table.proofs.GrammarLemmas.{goes_on, found}
use Rattle.volume_table.proofs.decode.check_pages.Goals as goal

pub loop-page-preserved : goal.loop-page-preserved
loop-page-preserved c =
    let bytes = c.args.bytes.now in
    let i = c.loop-page.page in
    let good : c.is_page_byte.result ≡ is_page_byte (get_or bytes i 0) = c.is_page_byte.ensures in
    goes_on page_fault i i bytes _ c.loop-page.invariant (omega arith) (ap (λ (b : Bool). unless b (field.Page i) (get_or bytes i 0)) (sym good) ∙ c.in_ok-check.ensures)

pub returns-in_err-check : goal.returns-in_err-check
returns-in_err-check c =
    let bytes = c.args.bytes.now in
    let i = c.loop-page.page in
    let good : c.is_page_byte.result ≡ is_page_byte (get_or bytes i 0) = c.is_page_byte.ensures in
    let p = err_from_is_err_and c.from_residual.result c.from_residual.ensures.1 in
    rw (p.1, p.2) (found page_fault i i bytes _ c.loop-page.invariant _ (omega arith) (ap (λ (b : Bool). unless b (field.Page i) (get_or bytes i 0)) (sym good) ∙ c.in_err-check.ensures))
