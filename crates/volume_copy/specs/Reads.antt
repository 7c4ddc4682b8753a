-- What a read for a copy tells.
use Rattle.std.specs.Prelude.{◌≡◌, Result, Ok, Err}
use Rattle.mss_base.specs.Counts.{IsFaultSince}
use Rattle.mss_base.specs.declared.site.Site.{Ghosts}
use Rattle.volume_copy.specs.declared.reading.TakeFault.{TakeFault}
use Rattle.volume_copy.specs.declared.reading.TakeFault.TheVariants.{Read, Memory}

-- a failed read is told with the count of faults behind it; else the count stays, and without memory the whole site
abbrev pub FailsAsTold : {S T : Type 0} → Ghosts S → S → S → Result T TakeFault → Type 0
FailsAsTold g old new (Ok _) = g.faults new ≡ g.faults old
FailsAsTold g old new (Err (Read fault)) = IsFaultSince (g.faults old) (g.faults new) fault
FailsAsTold g old new (Err Memory) = new ≡ old
