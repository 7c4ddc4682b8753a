use Rattle.table_journal.proofs.SlotLemmas.{IsCounted}
use Rattle.table_journal.proofs.read.read_slots.Given as goal

-- so many are in use as were passed, and as are in use from here on
abbrev pub invariant-loop-number : goal.invariant-loop-number
invariant-loop-number l = IsCounted l.number l.block
