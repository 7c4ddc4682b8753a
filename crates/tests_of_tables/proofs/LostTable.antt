-- Devices in memory that have lost one copy of the table.
use Rattle.std.proofs.Common.{◌≡◌, ◌≢◌, Bool, true, false, [], ◌∷◌, refl, sym, subst}
use Rattle.std.specs.List.{All}
use Rattle.std.proofs.lemmas.List.Elements.{All-cons, All-nil}
use Rattle.mss_base.specs.Content.{same_unit}
use Rattle.memory_devices.specs.MemorySite.{FailsOnly, failing_of}
use Rattle.memory_devices.specs.SiteFaults.{IsReadOf}
use Rattle.memory_devices.specs.declared.memory_site.MemorySite.{MemorySite}
use Rattle.memory_devices.specs.declared.memory_site.SiteFault.{SiteFault}
use Rattle.memory_devices.specs.declared.memory_site.SiteFault.TheVariants.{ReadsOf}
use Rattle.mss_base.specs.declared.place.UnitNo.{UnitNo}
use Rattle.mss_base.proofs.ContentLemmas.{same_unit-refl, same_unit-true}

-- two units that differ are told apart
pub told_apart : (a b : UnitNo) → a ≢ b → same_unit a b ≡ false
told_apart a b other = by (same_unit a b) refl
  where
    by : (same : Bool) → same_unit a b ≡ same → same_unit a b ≡ false
    by true is = absurd (other (same_unit-true a b is))
    by false is = is

-- all that fails are reads of that unit
pub only_that : (site : MemorySite) (lost : UnitNo) → failing_of site ≡ ReadsOf lost ∷ [] → FailsOnly site (λ unit. same_unit unit lost)
only_that site lost is =
    let fits : SiteFault → Type 0 = IsReadOf (λ unit. same_unit unit lost) in
    subst (All fits) (sym is) (All-cons fits (ReadsOf lost) [] (same_unit-refl lost) (All-nil fits))
