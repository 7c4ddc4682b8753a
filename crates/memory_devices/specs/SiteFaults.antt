-- Which calls of a site in memory fail.
use Rattle.std.specs.Prelude.{◌≡◌, ℕ, Bool, true, false, ◌==◌, Option, Some, None}
use Rattle.mss_base.specs.Content.{same_unit}
use Rattle.mss_base.specs.declared.place.UnitNo.{UnitNo}
use Rattle.memory_devices.specs.declared.memory_site.SiteFault.{SiteFault}
use Rattle.memory_devices.specs.declared.memory_site.SiteFault.TheVariants.{Call, ReadsOf}

-- whether the fault strikes this call, which reads a unit, writes or syncs
abbrev pub strikes : ℕ → Option UnitNo → SiteFault → Bool
strikes call read_of (Call n) = n == call
strikes call (Some unit) (ReadsOf of) = same_unit unit of
strikes call None (ReadsOf of) = false

-- it strikes nothing but reads of units for which the test holds
abbrev pub IsReadOf : (UnitNo → Bool) → SiteFault → Type 0
IsReadOf but (Call n) = ⊥
IsReadOf but (ReadsOf unit) = but unit ≡ true
