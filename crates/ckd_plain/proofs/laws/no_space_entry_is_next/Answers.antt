use Rattle.ckd_plain.proofs.Entries.{no_space_entry}
use Rattle.ckd_plain.proofs.laws.no_space_entry_is_next.Goals as goal

pub returns : goal.returns
returns c s before e reply number fault asked alone = no_space_entry s before e number alone reply fault asked
