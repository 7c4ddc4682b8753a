use Rattle.std.proofs.Common.{◌≡◌, ◌∙◌, ◌+◌, ◌==◌, refl, Bool, sym, ap, arith, get_or}
use Rattle.std.proofs.lemmas.Result.{err_from_is_err_and}
use Rattle.volume_table.specs.declared.fault.RowField.TheVariants as field
use Rattle.volume_table.specs.Grammar.{unless, spare_fault}
use Rattle.volume_table.proofs.GrammarLemmas.{goes_on, found}
use Rattle.volume_table.proofs.decode.check_spares.Goals as goal

pub loop-i-preserved : goal.loop-i-preserved
loop-i-preserved c =
    let bytes = c.args.bytes.now in
    let i = c.loop-i.i in
    let good : (get_or bytes i 0 == 0) ≡ (get_or bytes i 0 == 0) = refl in
    goes_on spare_fault (i + 1) i bytes _ c.loop-i.invariant (omega arith) (ap (λ (b : Bool). unless b (field.Spare (i + 1)) (get_or bytes i 0)) (sym good) ∙ c.in_ok-check.ensures)

pub returns-in_err-check : goal.returns-in_err-check
returns-in_err-check c =
    let bytes = c.args.bytes.now in
    let i = c.loop-i.i in
    let good : (get_or bytes i 0 == 0) ≡ (get_or bytes i 0 == 0) = refl in
    let p = err_from_is_err_and c.from_residual.result c.from_residual.ensures.1 in
    rw (p.1, p.2) (found spare_fault (i + 1) i bytes _ c.loop-i.invariant _ (omega arith) (ap (λ (b : Bool). unless b (field.Spare (i + 1)) (get_or bytes i 0)) (sym good) ∙ c.in_err-check.ensures))
