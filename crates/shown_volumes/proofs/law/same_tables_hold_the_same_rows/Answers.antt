use Rattle.shown_volumes.proofs.TableFacts.{same_rows, still_holds}
use Rattle.shown_volumes.proofs.law.same_tables_hold_the_same_rows.Goals as goal

pub returns : goal.returns
returns c = record { rows = same_rows; held = λ r volume c d same. still_holds c d same r volume }
