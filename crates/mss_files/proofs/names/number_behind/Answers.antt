use Rattle.mss_files.proofs.Naming.{number_read}
use Rattle.mss_files.proofs.names.number_behind.Goals as goal

pub returns-clause-number : goal.returns-clause-number
returns-clause-number c = λ n. number_read c.args.word.now c.args.name.now c.in_ok-digits.digits.now n c.parse.result c.ok.result
    c.in_ok-digits.ensures.cases c.parse.ensures.value.0 c.ok.ensures.value
