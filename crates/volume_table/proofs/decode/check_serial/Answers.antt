use Rattle.std.proofs.Common.{◌≡◌, ◌∙◌, Bool, sym, ap, arith, get_or}
use Rattle.std.proofs.lemmas.Result.{err_from_is_err_and}
use Rattle.mss_base.specs.Serial.{is_serial_byte}
use Rattle.volume_table.specs.declared.fault.RowField.TheVariants as field
use Rattle.volume_table.specs.Grammar.{unless, serial_fault}
use Rattle.volume_table.proofs.GrammarLemmas.{goes_on, found}
use Rattle.volume_table.proofs.decode.check_serial.Goals as goal

pub loop-i-preserved : goal.loop-i-preserved
loop-i-preserved c =
    let bytes = c.args.bytes.now in
    let i = c.loop-i.i in
    let good : c.is_serial_byte.result ≡ is_serial_byte (get_or bytes i 0) = c.is_serial_byte.ensures in
    goes_on serial_fault i i bytes _ c.loop-i.invariant (omega arith) (ap (λ (b : Bool). unless b (field.Serial i) (get_or bytes i 0)) (sym good) ∙ c.in_ok-check.ensures)

pub returns-in_err-check : goal.returns-in_err-check
returns-in_err-check c =
    let bytes = c.args.bytes.now in
    let i = c.loop-i.i in
    let good : c.is_serial_byte.result ≡ is_serial_byte (get_or bytes i 0) = c.is_serial_byte.ensures in
    let p = err_from_is_err_and c.from_residual.result c.from_residual.ensures.1 in
    rw (p.1, p.2) (found serial_fault i i bytes _ c.loop-i.invariant _ (omega arith) (ap (λ (b : Bool). unless b (field.Serial i) (get_or bytes i 0)) (sym good) ∙ c.in_err-check.ensures))
