-- What goes on without a failure.
use Rattle.std.specs.Prelude.{Bool}
use Rattle.mss_base.specs.declared.place.UnitNo.{UnitNo}

-- of each site: which reads alone may fail from here on, those of units for which a test holds
abbrev pub FailingReads : Type 0 → Type 1
FailingReads S = S → (UnitNo → Bool) → Type 0

-- what doesn't fail goes on so
abbrev pub StaysSound : {S : Type 0} → FailingReads S → S → S → Type 0
StaysSound never_fails_but old new = (but : UnitNo → Bool) → never_fails_but old but → never_fails_but new but
