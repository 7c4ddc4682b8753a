use Rattle.ckd_plain.proofs.Entries.{stopped_entry}
use Rattle.ckd_plain.proofs.laws.stopped_entry_is_next.Goals as goal

pub returns : goal.returns
returns c s before e reply number fault asked alone = stopped_entry s before e number alone reply fault asked
