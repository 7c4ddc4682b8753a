use Rattle.std.proofs.Common.{◌<◌, ◌∙◌, ap, arith}
use Rattle.hex.specs.Hex.{hex_digit_value}
use Rattle.job_text.proofs.Digits.{looked_none, looked_some}
use Rattle.job_text.proofs.words.digit_value.Goals as goal

pub returns-then-value-clause-value : goal.returns-then-value-clause-value
returns-then-value-clause-value c =
    let byte : c.from.result < 256 = omega arith in
    looked_none c.from.result byte c.if-value.true ∙ ap hex_digit_value c.from.ensures

pub returns-else-value-clause-value : goal.returns-else-value-clause-value
returns-else-value-clause-value c =
    let byte : c.from.result < 256 = omega arith in
    (looked_some c.from.result byte c.if-value.false).0 ∙ ap hex_digit_value c.from.ensures

pub returns-else-value-clause-small : goal.returns-else-value-clause-small
returns-else-value-clause-small c =
    let byte : c.from.result < 256 = omega arith in
    (looked_some c.from.result byte c.if-value.false).1
