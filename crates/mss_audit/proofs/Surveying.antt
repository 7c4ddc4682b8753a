-- A survey without a failed read, and the findings.
use Rattle.std.proofs.Common.{ℕ, List, Option, Result, Ok, Err, ◌∙◌}
use Rattle.mss_base.specs.Content.{Content}
use Rattle.volume_table.specs.Row.{RowValue}
use Rattle.shown_volumes.specs.declared.refused.Refused.{Refused}
use Rattle.shown_volumes.specs.declared.refused.Refused.TheVariants as refused
use Rattle.mss_restart.specs.Survey.{IsExact}
use Rattle.mss_audit.specs.Auditing.{TellsFirst}
use Rattle.mss_audit.specs.Findings.{findings}
use Rattle.mss_audit.proofs.FirstRefusal.{first_is_first}

pub tells_first : (frames : ℕ) (asked : ℕ → Option (List ℕ)) (c : Content) (answer : Result (List (Option RowValue)) Refused) → IsExact frames asked c answer → TellsFirst (findings frames asked c) answer
tells_first frames asked c (Ok rows) exact = first_is_first frames asked c ∙ exact.1
tells_first frames asked c (Err (refused.RowUnread volume fault)) exact = exact
tells_first frames asked c (Err (refused.Stopped fault)) exact = exact
tells_first frames asked c (Err refused.Memory) exact = tt
tells_first frames asked c (Err e) exact = first_is_first frames asked c ∙ exact
