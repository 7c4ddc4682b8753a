use Rattle.transfers.proofs.CopyFacts.{leaves_table}
use Rattle.transfers.proofs.law.copies_leave_the_table.Goals as goal

pub returns : goal.returns
returns c = leaves_table
