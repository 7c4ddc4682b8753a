use Rattle.ckd_plain.proofs.Entries.{equipment_entry}
use Rattle.ckd_plain.proofs.laws.equipment_entry_is_next.Goals as goal

pub returns : goal.returns
returns c s before e reply number fault asked alone = equipment_entry s before e number alone reply fault asked
