-- What is opened for a core, before it begins.
use Rattle.std.specs.Prelude.{Result, Ok, Err}
use Rattle.shown_volumes.specs.declared.refused.Refused.{Refused}
use Rattle.mss_restart.specs.declared.opening.Opened.{Opened}
use Rattle.core_restart.specs.declared.restarting.Prepared.{Prepared}

-- the site that is opened, or that is handed back
abbrev pub prepared_site : {S : Type 0} → Result (Prepared S) (S × Refused) → S
prepared_site (Ok prepared) = prepared.site
prepared_site (Err refused) = refused.0

-- what was opened, or why the site is refused
abbrev pub prepared_answer : {S : Type 0} → Result (Prepared S) (S × Refused) → Result Opened Refused
prepared_answer (Ok prepared) = Ok prepared.opened
prepared_answer (Err refused) = Err refused.1
