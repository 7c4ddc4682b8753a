use Rattle.table_pair.proofs.ReadLemmas.{damaged_keeps}
use Rattle.table_pair.proofs.read.taken.Goals as goal

pub returns-in-Err-clause-kept : goal.returns-in-Err-clause-kept
returns-in-Err-clause-kept c = λ before now kept. damaged_keeps before now c.args.copy c.args.unread _ c.requires kept
