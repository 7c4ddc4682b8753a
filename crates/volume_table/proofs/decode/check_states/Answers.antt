use Rattle.std.proofs.Common.{◌≡◌, ◌∙◌, ◌/◌, nat_lt, Bool, sym, ap, arith, get_or}
use Rattle.std.proofs.lemmas.Result.{err_from_is_err_and}
use Rattle.volume_table.specs.declared.fault.RowField.TheVariants as field
use Rattle.volume_table.specs.Grammar.{unless, is_state, state_fault}
use Rattle.volume_table.proofs.GrammarLemmas.{goes_on, found}
use Rattle.volume_table.proofs.decode.check_states.Goals as goal

pub loop-cylinder-preserved : goal.loop-cylinder-preserved
loop-cylinder-preserved c =
    let bytes = c.args.bytes.now in
    let i = c.loop-cylinder.cylinder in
    let good : c.is_state-good.result ≡ is_state (nat_lt (get_or c.args.pages.now (i / 8) 0) 200) (get_or bytes i 0) = c.is_state-good.ensures in
    goes_on (state_fault c.args.pages.now) i i bytes _ c.loop-cylinder.invariant (omega arith) (ap (λ (b : Bool). unless b (field.State i) (get_or bytes i 0)) (sym good) ∙ c.in_ok-check.ensures)

pub returns-in_err-check : goal.returns-in_err-check
returns-in_err-check c =
    let bytes = c.args.bytes.now in
    let i = c.loop-cylinder.cylinder in
    let good : c.is_state-good.result ≡ is_state (nat_lt (get_or c.args.pages.now (i / 8) 0) 200) (get_or bytes i 0) = c.is_state-good.ensures in
    let p = err_from_is_err_and c.from_residual.result c.from_residual.ensures.1 in
    rw (p.1, p.2) (found (state_fault c.args.pages.now) i i bytes _ c.loop-cylinder.invariant _ (omega arith) (ap (λ (b : Bool). unless b (field.State i) (get_or bytes i 0)) (sym good) ∙ c.in_err-check.ensures))
